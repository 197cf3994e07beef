-- The calls of a tier that change it.
use Rattle.std.specs.Prelude.{ℕ, cond, List, length, ◌==◌}
use Rattle.device.specs.Answers.{written}
use Rattle.row.specs.Entries.{Entry}
use Rattle.tier.specs.declared.victim.Victim.{Victim}
use Rattle.tier.specs.Models.{Model}
use Rattle.tier.specs.Demotions.{Outcome, demoted}
use Rattle.tier.specs.Syncs.{synced}

-- the entry of a block in hand
abbrev pub entry_of_victim : Victim → List ℕ → Entry
entry_of_victim v bytes = record { number = v.number; bytes = bytes; mark = v.mark }

-- an entry taken in hand
abbrev pub victim_of : Entry → Victim
victim_of e = record { number = e.number; mark = e.mark }

abbrev pub demotion : Model → Victim → List ℕ → Outcome
demotion m v bytes = demoted m.rows m.store (entry_of_victim v bytes)

abbrev pub model_of : Outcome → Model
model_of o = record { store = o.store; rows = o.rows }

-- the tier after a demotion: a wrong buffer changes nothing
abbrev pub demote_after : Model → Victim → List ℕ → Model
demote_after m v bytes = cond (length bytes == 256) (model_of (demotion m v bytes)) m

abbrev pub sync_after : Model → Model
sync_after m = model_of (synced m.rows m.store)

-- the tier after a save
abbrev pub save_after : Model → ℕ → List ℕ → Model
save_after m b bytes = record { store = written m.store b bytes; rows = m.rows }
