-- A store under a defect list is lawful where the store below is.
use Rattle.std.specs.Prelude.{ℕ, not, List}
use Rattle.std.proofs.lemmas.Bool.{and_parts}
use Rattle.device.specs.Store.{Store, Lawful}
use Rattle.layers.specs.Defects.{masked, listed}

pub masked_lawful : (xs : List ℕ) (s : Store) → Lawful s → Lawful (masked xs s)
masked_lawful xs s l = record { few = l.few; there = λ b h. l.there b (and_parts (s.sound b) (not (listed xs b)) h).0; whole = l.whole }
