-- Rings of slots, by where each place leads on to and back to: slots are the places 0 to 15, and ring r begins and ends at the place 16 + r.
use Rattle.std.specs.Prelude.{◌≡◌, ℕ, zero, suc, ◌+◌, ◌<◌, Bool, true, cond, ◌&&◌, List, [], ◌∷◌, Some, None, Option, ◌==◌, nat_lt, slice_index, slice_set}
use Rattle.rings.specs.Slots.{distinct}

-- the slot at a place, if it is one
abbrev pub slot_at : ℕ → Option ℕ
slot_at i = cond (nat_lt i 16) (Some i) None

-- the slots met from place i on, at most so many
abbrev pub walk : ℕ → List ℕ → ℕ → List ℕ
walk zero next i = []
walk (suc n) next i = cond (nat_lt i 16) (i ∷ walk n next (slice_index next i)) []

-- the slots of ring r from its first to its last
unfoldable pub ring_of : List ℕ → ℕ → List ℕ
ring_of next r = walk 16 next (slice_index next (16 + r))

-- place d stands behind place c
abbrev pub linked : List ℕ → List ℕ → ℕ → ℕ → Bool
linked next prev c d = slice_index next c == d && slice_index prev d == c

-- the slots lead from place c to place e
abbrev pub chained : List ℕ → List ℕ → ℕ → List ℕ → ℕ → Bool
chained next prev c [] e = linked next prev c e
chained next prev c (x ∷ xs) e = nat_lt x 16 && (linked next prev c x && chained next prev x xs e)

-- ring r leads back to where it began, and meets no slot twice
abbrev pub closed : List ℕ → List ℕ → ℕ → Bool
closed next prev r = chained next prev (16 + r) (ring_of next r) (16 + r) && distinct (ring_of next r)

abbrev pub Closed : List ℕ → List ℕ → Type 0
Closed next prev = (r : ℕ) → r < 16 → closed next prev r ≡ true

-- each of the 32 places leads to a place that leads back
abbrev pub Paired : List ℕ → List ℕ → Type 0
Paired there back = (i : ℕ) → i < 32 → (slice_index there i < 32) × (slice_index back (slice_index there i) ≡ i)

-- the links when the neighbours of place x are linked to one another, and x to itself
abbrev pub out_links : List ℕ → List ℕ → ℕ → List ℕ
out_links there back x = slice_set (slice_set there (slice_index back x) (slice_index there x)) x x

-- the links when place x is linked in from u and on to v
abbrev pub in_links : List ℕ → ℕ → ℕ → ℕ → List ℕ
in_links there u x v = slice_set (slice_set there u x) x v
