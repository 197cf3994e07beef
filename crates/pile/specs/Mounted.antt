-- A mounted tier with its tallies, as the pile that its calls are defined by.
use Rattle.tier.specs.Models.{Model}
use Rattle.pile.specs.declared.pile.Pile.{Pile as Mounted}
use Rattle.pile.specs.Piles.{Pile}
use Rattle.pile.specs.Tallies.{pile_of}

-- where `model` tells what a tier means
abbrev pub pile_model : {T : Type 0} → (T → Model) → Mounted T → Pile
pile_model model p = pile_of (model p.tier) p.tallies
