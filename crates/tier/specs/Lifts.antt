-- Lifting a block: the first row from the top that names it loses that entry.
use Rattle.std.specs.Prelude.{ℕ, ◌+◌, cond, List, [], ◌∷◌, length, Some, None, Ok, Err, Option, Result, ◌==◌}
use Rattle.std.specs.Option.{option_map}
use Rattle.row.specs.Entries.{Entry, find_entry as look, without, RowModel}
use Rattle.tier.specs.declared.faults.LiftFault.{LiftFault}
use Rattle.tier.specs.declared.faults.LiftFault.TheVariants.{Length}
use Rattle.tier.specs.declared.faults.Lifted.{Lifted}
use Rattle.tier.specs.Models.{Model}
use Rattle.tier.specs.Questions.{told}

-- an entry and the level that has it, counted from 1
pub record Found : Type 0 where
  pub level : ℕ
  pub entry : Entry

-- the same, seen from one level higher
abbrev pub deeper : Found → Found
deeper f = record { level = f.level + 1; entry = f.entry }

abbrev pub or_below : Option Entry → Option Found → Option Found
or_below (Some e) f = Some record { level = 1; entry = e }
or_below None f = option_map deeper f

-- the first row from the top that names b
abbrev pub found : ℕ → List RowModel → Option Found
found b [] = None
found b (r ∷ rs) = or_below (look b r.entries) (found b rs)

abbrev pub lose_in : ℕ → RowModel → RowModel
lose_in b r = record { capacity = r.capacity; entries = without b r.entries }

abbrev pub lose_or_below : Option Entry → ℕ → RowModel → List RowModel → List RowModel → List RowModel
lose_or_below (Some e) b r rs below = lose_in b r ∷ rs
lose_or_below None b r rs below = r ∷ below

-- the rows without that entry
abbrev pub lifted : ℕ → List RowModel → List RowModel
lifted b [] = []
lifted b (r ∷ rs) = lose_or_below (look b r.entries) b r rs (lifted b rs)

abbrev pub label_of : Found → Lifted
label_of f = record { level = told f.level; mark = f.entry.mark }

-- the label, seen from one level higher
abbrev pub lifted_deeper : Lifted → Lifted
lifted_deeper l = record { level = told (l.level + 1); mark = l.mark }

abbrev pub lift_answer : Model → ℕ → ℕ → Result (Option Lifted) LiftFault
lift_answer m b len = cond (len == 256) (Ok (option_map label_of (found b m.rows))) (Err Length)

abbrev pub deeper_answer : Result (Option Lifted) LiftFault → Result (Option Lifted) LiftFault
deeper_answer (Ok o) = Ok (option_map lifted_deeper o)
deeper_answer (Err f) = Err f

abbrev pub bytes_or : Option Found → List ℕ → List ℕ
bytes_or None buffer = buffer
bytes_or (Some f) buffer = f.entry.bytes

-- the buffer after
abbrev pub lift_buffer : Model → ℕ → List ℕ → List ℕ
lift_buffer m b buffer = cond (length buffer == 256) (bytes_or (found b m.rows) buffer) buffer

-- the tier after
abbrev pub lift_after : Model → ℕ → ℕ → Model
lift_after m b len = record { store = m.store; rows = cond (len == 256) (lifted b m.rows) m.rows }
