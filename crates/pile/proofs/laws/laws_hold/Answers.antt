use Rattle.pile.proofs.Promised.{promised}
use Rattle.pile.proofs.Sums.{paired}
use Rattle.pile.proofs.Twins.{same_reads}
use Rattle.pile.proofs.laws.laws_hold.Goals as goal

pub returns : goal.returns
returns c = record { each = promised; both = λ m n f g same. paired m n f g (same_reads m.store n.store same) }
