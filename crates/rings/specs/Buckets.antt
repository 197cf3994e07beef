-- The buckets of an index: sixteen rings, and the one that each number belongs to.
use Rattle.std.specs.Prelude.{◌≡◌, ℕ, ◌*◌, ◌/◌, ◌%◌, ◌^◌, ◌<◌, true, cond, List, Some, None, Option, ◌==◌, slice_index}
use Rattle.std.specs.List.{find}
use Rattle.rings.specs.declared.rings.Rings.{Rings}
use Rattle.rings.specs.Slots.{member}
use Rattle.rings.specs.Models.{ring}

-- the top four bits of a product of 32 bits
abbrev pub bucket : ℕ → ℕ
bucket b = (b * 2654435769 % 2 ^ 32) / 2 ^ 28

-- each slot in a ring has a number that belongs to that ring
abbrev pub Filed : Rings → List ℕ → Type 0
Filed s keys = (x r : ℕ) → (r < 16) × (member x (ring s r) ≡ true) → bucket (slice_index keys x) ≡ r

-- the number that slot x is filed under, if any
unfoldable pub key_in : Rings → List ℕ → ℕ → Option ℕ
key_in s keys x = cond (member x (ring s (bucket (slice_index keys x)))) (Some (slice_index keys x)) None

-- the first slot of a chain that has the number b
abbrev pub sought : List ℕ → ℕ → List ℕ → Option ℕ
sought keys b xs = find (λ x. slice_index keys x == b) xs
