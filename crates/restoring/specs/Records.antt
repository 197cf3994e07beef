-- What is printed of a restore.
use Rattle.std.specs.Prelude.{ℕ, List, ◌++◌, Some, Ok, Err, Option, Result, codes, decimal}

abbrev pub record_text : {R : Type 0} → (R → ℕ) → Result ℕ R → Option (List ℕ)
record_text number (Ok blocks) = Some (codes "restored " ++ decimal blocks)
record_text number (Err refusal) = Some (codes "refused " ++ decimal (number refusal))
