-- What the label of a lifted block tells of where it was.
use Rattle.std.proofs.Common.{◌≡◌, ◌≤◌, length, Some, None, Option, refl}
use Rattle.std.specs.Option.{option_map}
use Rattle.tier.specs.Lifts.{Found, label_of}
use Rattle.tier.specs.Models.{Model}
use Rattle.pile.specs.Piles.{Pile, counted}
use Rattle.pile.specs.Tallies.{hits_with, floor_with}
use Rattle.pile.proofs.Counts.{raised_told}

-- the level that is told is the one to count for
pub counted_told : (o : Option Found) (m : Model) (p : Pile) → length p.hits ≤ 8
    → ◌≡◌ {A = Pile} record { tier = m; hits = hits_with (option_map (λ l. l.level) (option_map label_of o)) p.hits; floor = floor_with (option_map (λ l. l.level) (option_map label_of o)) p.floor } (counted o m p)
counted_told None m p h = refl
counted_told (Some f) m p h = λ i. record { tier = m; hits = raised_told p.hits f.level h i; floor = p.floor }
