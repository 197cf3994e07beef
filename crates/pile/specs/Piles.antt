-- A pile: a mounted tier with its tallies, and what each call answers and leaves.
use Rattle.std.specs.Prelude.{ℕ, zero, suc, ◌+◌, cond, List, [], ◌∷◌, length, replicate, is_ok, Some, None, Ok, Err, Option, Result, nat_lt}
use Rattle.device.specs.declared.fault.DeviceFault.{DeviceFault}
use Rattle.device.specs.Answers.{answer}
use Rattle.row.specs.declared.frame.Mark.TheVariants.{Saved, Unsaved}
use Rattle.row.specs.Entries.{Entry}
use Rattle.tier.specs.declared.faults.Dropped.{Dropped}
use Rattle.tier.specs.Demotions.{Outcome, demoted, told_drop}
use Rattle.tier.specs.Lifts.{Found, found, lifted}
use Rattle.tier.specs.Models.{Model}
use Rattle.tier.specs.Syncs.{synced}
use Rattle.tier.specs.Tiers.{model_of}
use Rattle.pile.specs.Recency.{total}
use Rattle.pile.specs.declared.faults.PileFault.{PileFault}
use Rattle.pile.specs.declared.faults.PileFault.TheVariants.{Device as OfDevice, Full, Dropped as OfDropped}

-- the mounted tier, the hits of each level, and the touches that no level served
pub record Pile : Type 0 where
  pub tier : Model
  pub hits : List ℕ
  pub floor : ℕ

abbrev pub touches : Pile → ℕ
touches p = total p.hits + p.floor

-- a tier as it is mounted
abbrev pub mounted : Model → Pile
mounted m = record { tier = m; hits = replicate (length m.rows) 0; floor = 0 }

-- one more at a place counted from 1
abbrev pub add_at : ℕ → List ℕ → List ℕ
add_at n [] = []
add_at zero (h ∷ hs) = h ∷ hs
add_at (suc zero) (h ∷ hs) = (h + 1) ∷ hs
add_at (suc (suc n)) (h ∷ hs) = h ∷ add_at (suc n) hs

-- a touch counts for the level that had the block, or for the floor
abbrev pub counted : Option Found → Model → Pile → Pile
counted None m p = record { tier = m; hits = p.hits; floor = p.floor + 1 }
counted (Some f) m p = record { tier = m; hits = add_at f.level p.hits; floor = p.floor }

pub data Call : Type 0 where
  read : ℕ → List ℕ → Call
  write : ℕ → List ℕ → Call
  sync : Call

-- what a call answers, and its buffer after it
pub record Answer : Type 0 where
  pub result : Result (Unit {0}) PileFault
  pub buffer : List ℕ

abbrev pub wrapped : Result (Unit {0}) DeviceFault → Result (Unit {0}) PileFault → Result (Unit {0}) PileFault
wrapped (Ok u) next = next
wrapped (Err f) next = Err (OfDevice f)

-- the checks of a read or write: as a device's, and then the limit of touches
abbrev pub admitted : Pile → ℕ → ℕ → Result (Unit {0}) PileFault
admitted p b len = wrapped (answer p.tier.store b len) (cond (nat_lt (touches p) 4000000000) (Ok tt) (Err Full))

abbrev pub dropped_result : Option Dropped → Result (Unit {0}) PileFault
dropped_result None = Ok tt
dropped_result (Some d) = Err (OfDropped (told_drop d))

-- the entry that a read demotes: the one that lift found, or the stored block as saved
abbrev pub fetched : Option Found → ℕ → List ℕ → Entry
fetched None b stored = record { number = b; bytes = stored; mark = Saved }
fetched (Some f) b stored = record { number = b; bytes = f.entry.bytes; mark = f.entry.mark }

-- lift the block, count the touch, demote the entry
abbrev pub moved : Pile → Entry → Outcome
moved p e = demoted (lifted e.number p.tier.rows) p.tier.store e

abbrev pub touched : Pile → Entry → Pile
touched p e = counted (found e.number p.tier.rows) (model_of (moved p e)) p

abbrev pub read_entry : Pile → ℕ → Entry
read_entry p b = fetched (found b p.tier.rows) b (p.tier.store.at b)

abbrev pub write_entry : ℕ → List ℕ → Entry
write_entry b bytes = record { number = b; bytes = bytes; mark = Unsaved }

abbrev pub sweep : Pile → Outcome
sweep p = synced p.tier.rows p.tier.store

-- what a call answers
abbrev pub answered : Call → Pile → Answer
answered (read b buffer) p = cond (is_ok (admitted p b (length buffer)))
    record { result = dropped_result (moved p (read_entry p b)).dropped; buffer = (read_entry p b).bytes }
    record { result = admitted p b (length buffer); buffer = buffer }
answered (write b bytes) p = cond (is_ok (admitted p b (length bytes)))
    record { result = dropped_result (moved p (write_entry b bytes)).dropped; buffer = bytes }
    record { result = admitted p b (length bytes); buffer = bytes }
answered sync p = record { result = dropped_result (sweep p).dropped; buffer = [] }

-- the pile after it
abbrev pub stepped : Call → Pile → Pile
stepped (read b buffer) p = cond (is_ok (admitted p b (length buffer))) (touched p (read_entry p b)) p
stepped (write b bytes) p = cond (is_ok (admitted p b (length bytes))) (touched p (write_entry b bytes)) p
stepped sync p = record { tier = model_of (sweep p); hits = p.hits; floor = p.floor }

-- after a list of calls, the first of the list first
abbrev pub after : List Call → Pile → Pile
after [] p = p
after (c ∷ cs) p = after cs (stepped c p)

abbrev pub answers : List Call → Pile → List Answer
answers [] p = []
answers (c ∷ cs) p = answered c p ∷ answers cs (stepped c p)
