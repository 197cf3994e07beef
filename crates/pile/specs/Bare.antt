-- The bare device: each accepted write goes straight to the stored blocks.
use Rattle.std.specs.Prelude.{ℕ, cond, List, [], ◌∷◌, length, is_ok, Ok, Err, Result, nat_lt}
use Rattle.device.specs.Answers.{answer}
use Rattle.device.specs.Store.{Store, put}
use Rattle.pile.specs.declared.faults.PileFault.{PileFault}
use Rattle.pile.specs.declared.faults.PileFault.TheVariants.{Full}
use Rattle.pile.specs.Piles.{Call, read, write, sync, Answer, wrapped}

-- the stored blocks, and the numbers touched so far, latest first
pub record Bare : Type 0 where
  pub store : Store
  pub trail : List ℕ

abbrev pub bare : Store → Bare
bare s = record { store = s; trail = [] }

abbrev pub bare_admitted : Bare → ℕ → ℕ → Result (Unit {0}) PileFault
bare_admitted d b len = wrapped (answer d.store b len) (cond (nat_lt (length d.trail) 4000000000) (Ok tt) (Err Full))

abbrev pub bare_answered : Call → Bare → Answer
bare_answered (read b buffer) d = record { result = bare_admitted d b (length buffer); buffer = cond (is_ok (bare_admitted d b (length buffer))) (d.store.at b) buffer }
bare_answered (write b bytes) d = record { result = bare_admitted d b (length bytes); buffer = bytes }
bare_answered sync d = record { result = Ok tt; buffer = [] }

abbrev pub bare_stepped : Call → Bare → Bare
bare_stepped (read b buffer) d = cond (is_ok (bare_admitted d b (length buffer))) record { store = d.store; trail = b ∷ d.trail } d
bare_stepped (write b bytes) d = cond (is_ok (bare_admitted d b (length bytes))) record { store = put d.store b bytes; trail = b ∷ d.trail } d
bare_stepped sync d = d

abbrev pub bare_after : List Call → Bare → Bare
bare_after [] d = d
bare_after (c ∷ cs) d = bare_after cs (bare_stepped c d)

abbrev pub bare_answers : List Call → Bare → List Answer
bare_answers [] d = []
bare_answers (c ∷ cs) d = bare_answered c d ∷ bare_answers cs (bare_stepped c d)
