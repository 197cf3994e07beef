-- What a walk of a ring has left.
use Rattle.std.specs.Prelude.{ℕ, List}
use Rattle.rings.specs.declared.walk.Slots.{Slots}
use Rattle.rings.specs.Places.{nexts}
use Rattle.rings.specs.Walks.{met}

abbrev pub left_of : Slots → List ℕ
left_of s = met (nexts s.links.now) s.place
