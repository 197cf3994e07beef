-- How an answer is told by number.
use Rattle.std.specs.Prelude.{ℕ, Result, Ok, Err}

-- 0 for what was done, and the refusal's number else
abbrev pub told_by : {R : Type 0} → (R → ℕ) → Result Unit R → ℕ
told_by number (Ok _) = 0
told_by number (Err refusal) = number refusal
