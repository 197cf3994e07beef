-- The numbers of a report read back.
use Rattle.std.specs.Prelude.{◌≡◌, ℕ, ◌^◌, ◌<◌, true}
use Rattle.std.specs.Fmt as written
use Rattle.formats.specs.Traces.{all_digits, plain, decimal}

-- every number is written in digits, with no leading zero, that a reader of decimal numbers takes for it
abbrev pub ReadBack : Type 0
ReadBack = (n : ℕ) → n < 2 ^ 64 → (all_digits (written.decimal n) ≡ true) × (plain (written.decimal n) ≡ true) × (decimal (written.decimal n) ≡ n)
