-- Walking a ring from a place on.
use Rattle.std.specs.Prelude.{◌≡◌, ℕ, ◌≤◌, List}
use Rattle.rings.specs.Links.{walk}

-- the slots met from place i on
unfoldable pub met : List ℕ → ℕ → List ℕ
met next i = walk 16 next i

-- sixteen slots are as far as the links lead from place i
abbrev pub Ends : List ℕ → ℕ → Type 0
Ends next i = (k : ℕ) → 16 ≤ k → walk k next i ≡ met next i
