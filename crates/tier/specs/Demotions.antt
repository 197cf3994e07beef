-- Demoting an entry into a tier.
use Rattle.std.specs.Prelude.{ℕ, ◌+◌, cond, List, [], ◌∷◌, length, Some, None, Ok, Err, Option, Result, nat_le}
use Rattle.std.specs.Option.{option_map}
use Rattle.device.specs.declared.fault.DeviceFault.{DeviceFault}
use Rattle.device.specs.Answers.{answer, written}
use Rattle.device.specs.Store.{Store}
use Rattle.rings.specs.Slots.{last}
use Rattle.row.specs.Entries.{Entry, RowModel, is_saved, without, front}
use Rattle.tier.specs.declared.faults.Dropped.{Dropped}
use Rattle.tier.specs.Questions.{told}

-- what a demotion leaves: the rows, the stored blocks, and the entry that the stored blocks refused, if there is one
pub record Outcome : Type 0 where
  pub rows : List RowModel
  pub store : Store
  pub dropped : Option Dropped

-- a refusal of the stored blocks, of a block that level 0 handed on: the floor itself
abbrev pub refusal_of : ℕ → Result (Unit {0}) DeviceFault → Option Dropped
refusal_of b (Ok u) = None
refusal_of b (Err f) = Some record { block = b; fault = f; level = 0 }

-- seen from one level higher
abbrev pub raised : Dropped → Dropped
raised d = record { block = d.block; fault = d.fault; level = d.level + 1 }

-- with no rows: a saved entry is let go, an unsaved one is written to the stored blocks
abbrev pub settled : Entry → Store → Outcome
settled e s = cond (is_saved e.mark) record { rows = []; store = s; dropped = None }
    record { rows = []; store = written s e.number e.bytes; dropped = refusal_of e.number (answer s e.number (length e.bytes)) }

-- the entries of a row that takes e in front, its old entry of that number lost first
abbrev pub in_front : Entry → RowModel → List Entry
in_front e r = e ∷ without e.number r.entries

-- entries cut to a capacity: what stays, and what falls off the end
abbrev pub kept : ℕ → List Entry → List Entry
kept c es = cond (nat_le (length es) c) es (front es)

abbrev pub fallen : ℕ → List Entry → Option Entry
fallen c es = cond (nat_le (length es) c) None (last es)

-- the row on top of what the rows below come to
abbrev pub over : RowModel → Outcome → Outcome
over r o = record { rows = r ∷ o.rows; store = o.store; dropped = option_map raised o.dropped }

abbrev pub passed : Option Entry → (Entry → Outcome) → List RowModel → Store → Outcome
passed None down rs s = record { rows = rs; store = s; dropped = None }
passed (Some v) down rs s = down v

-- with rows: the top row takes the entry in front, and what falls off its end is demoted into the rows below
abbrev pub demoted : List RowModel → Store → Entry → Outcome
demoted [] s e = settled e s
demoted (r ∷ rs) s e =
    over record { capacity = r.capacity; entries = kept r.capacity (in_front e r) } (passed (fallen r.capacity (in_front e r)) (λ v. demoted rs s v) rs s)

-- as it is told
abbrev pub told_drop : Dropped → Dropped
told_drop d = record { block = d.block; fault = d.fault; level = told d.level }
