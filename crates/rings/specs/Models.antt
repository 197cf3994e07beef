-- What rings hold: the list of each ring.
use Rattle.std.specs.Prelude.{ℕ, cond, List, ◌∷◌, ◌==◌}
use Rattle.rings.specs.declared.rings.Rings.{Rings}
use Rattle.rings.specs.Slots.{without}
use Rattle.rings.specs.Places.{nexts}
use Rattle.rings.specs.Links.{ring_of}

-- the slots of ring r from its first to its last
abbrev pub ring : Rings → ℕ → List ℕ
ring s r = ring_of (nexts s.links) r

-- what ring q is when slot x, wherever it was, is put in front of ring r
abbrev pub fronted : ℕ → ℕ → ℕ → List ℕ → List ℕ
fronted x r q xs = cond (q == r) (x ∷ without x xs) (without x xs)
