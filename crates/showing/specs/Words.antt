-- A mark in words.
use Rattle.std.specs.Prelude.{ℕ, List, Some, codes, Option}
use Rattle.row.specs.declared.frame.Mark.{Mark}
use Rattle.row.specs.declared.frame.Mark.TheVariants.{Saved, Unsaved}

-- what is printed of it
abbrev pub mark_text : Mark → Option (List ℕ)
mark_text Saved = Some (codes "saved")
mark_text Unsaved = Some (codes "unsaved")
