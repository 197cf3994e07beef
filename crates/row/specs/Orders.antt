-- What a shelf holds: the slots in order, and the number of each.
use Rattle.std.specs.Prelude.{ℕ, List, Option}
use Rattle.rings.specs.Models.{ring}
use Rattle.rings.specs.Keys.{key_of}
use Rattle.row.specs.declared.shelf.Shelf.{Shelf}

-- the slots that have numbers, latest first
abbrev pub order : Shelf → List ℕ
order s = ring s.places 0

-- the number of slot x, if it has one
abbrev pub key : Shelf → ℕ → Option ℕ
key s x = key_of s.index x
