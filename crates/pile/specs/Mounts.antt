-- Mounting a tier: which tiers are refused.
use Rattle.std.specs.Prelude.{ℕ, Bool, true, false, cond, ◌||◌, List, [], ◌∷◌, length, Ok, Err, Result, nat_lt}
use Rattle.row.specs.Entries.{Entry, RowModel}
use Rattle.tier.specs.Models.{Model}
use Rattle.pile.specs.declared.faults.MountFault.{MountFault}
use Rattle.pile.specs.declared.faults.MountFault.TheVariants.{Levels, Entries as OfEntries}

abbrev pub mount_number_of : MountFault → ℕ
mount_number_of OfEntries = 6
mount_number_of Levels = 7

abbrev pub some : List Entry → Bool
some [] = false
some (e ∷ es) = true

-- whether any row has an entry
abbrev pub has_entry : List RowModel → Bool
has_entry [] = false
has_entry (r ∷ rs) = some r.entries || has_entry rs

-- a tier has at most 8 levels, and then no entry
abbrev pub mount_answer : Model → Result (Unit {0}) MountFault
mount_answer m = cond (nat_lt 8 (length m.rows)) (Err Levels) (cond (has_entry m.rows) (Err OfEntries) (Ok tt))
