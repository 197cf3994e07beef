-- A list searched from its front tells whether a number is on it.
use Rattle.std.proofs.Common.{◌≡◌, ℕ, ◌||◌, eqb, List, [], ◌∷◌, refl, ap}
use Rattle.std.specs.List.{list_any}
use Rattle.layers.specs.Defects.{listed}

pub listed_any : (xs : List ℕ) (b : ℕ) → list_any (λ y. eqb y b) xs ≡ listed xs b
listed_any [] b = refl
listed_any (x ∷ xs) b = ap (λ t. eqb x b || t) (listed_any xs b)
