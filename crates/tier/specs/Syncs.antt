-- Syncing a tier: rows from the top, each from its front, up to the first save that is refused.
use Rattle.std.specs.Prelude.{ℕ, cond, List, [], ◌∷◌, length, is_ok, Some, None, Ok, Err, Option, Result}
use Rattle.device.specs.declared.fault.DeviceFault.{DeviceFault}
use Rattle.device.specs.Answers.{answer, written}
use Rattle.device.specs.Store.{Store, put}
use Rattle.row.specs.declared.frame.Mark.TheVariants.{Saved}
use Rattle.row.specs.Entries.{Entry, is_saved, RowModel}
use Rattle.tier.specs.declared.faults.Dropped.{Dropped}
use Rattle.tier.specs.Models.{Model}
use Rattle.tier.specs.Demotions.{Outcome, over}

-- what syncing one row leaves, and the block that was refused, if one was
pub record Swept : Type 0 where
  pub entries : List Entry
  pub store : Store
  pub stopped : Option Dropped

abbrev pub saved_copy : Entry → Entry
saved_copy e = record { number = e.number; bytes = e.bytes; mark = Saved }

abbrev pub before : Entry → Swept → Swept
before e w = record { entries = e ∷ w.entries; store = w.store; stopped = w.stopped }

-- an unsaved entry: saved and marked so, or it stops there
abbrev pub saved_or_stop : Result (Unit {0}) DeviceFault → Entry → List Entry → Store → Swept → Swept
saved_or_stop (Ok u) e es s next = before (saved_copy e) next
saved_or_stop (Err f) e es s next = record { entries = e ∷ es; store = s; stopped = Some record { block = e.number; fault = f; level = 1 } }

abbrev pub swept : List Entry → Store → Swept
swept [] s = record { entries = []; store = s; stopped = None }
swept (e ∷ es) s = cond (is_saved e.mark) (before e (swept es s))
    (saved_or_stop (answer s e.number (length e.bytes)) e es s (swept es (put s e.number e.bytes)))

-- a row that was swept to its end goes on below; one that stopped does not
abbrev pub resumed : RowModel → Option Dropped → List Entry → Store → List RowModel → Outcome → Outcome
resumed r None es s rs below = over record { capacity = r.capacity; entries = es } below
resumed r (Some d) es s rs below = record { rows = record { capacity = r.capacity; entries = es } ∷ rs; store = s; dropped = Some d }

abbrev pub synced : List RowModel → Store → Outcome
synced [] s = record { rows = []; store = s; dropped = None }
synced (r ∷ rs) s = resumed r (swept r.entries s).stopped (swept r.entries s).entries (swept r.entries s).store rs (synced rs (swept r.entries s).store)

-- one entry of a sync: what saving it answers, the entry after it, and the tier below after it
abbrev pub saved_answer : ℕ → Result (Unit {0}) DeviceFault → Result (Unit {0}) Dropped
saved_answer b (Ok u) = Ok tt
saved_answer b (Err f) = Err record { block = b; fault = f; level = 1 }

abbrev pub save_answer : Store → Entry → Result (Unit {0}) Dropped
save_answer s e = cond (is_saved e.mark) (Ok tt) (saved_answer e.number (answer s e.number (length e.bytes)))

abbrev pub save_entry : Result (Unit {0}) Dropped → Entry → Entry
save_entry r e = cond (is_ok r) (saved_copy e) e

abbrev pub save_model : Model → Entry → Model
save_model m e = cond (is_saved e.mark) m record { store = written m.store e.number e.bytes; rows = m.rows }
