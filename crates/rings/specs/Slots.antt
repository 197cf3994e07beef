-- Lists of slots: what is on one, what is left of one, and its ends.
use Rattle.std.specs.Prelude.{ℕ, Bool, true, false, cond, not, ◌&&◌, ◌||◌, List, [], ◌∷◌, Some, None, Option, ◌==◌}

-- whether x is on the list
abbrev pub member : ℕ → List ℕ → Bool
member x [] = false
member x (y ∷ ys) = x == y || member x ys

-- the list with x left out
abbrev pub without : ℕ → List ℕ → List ℕ
without x [] = []
without x (y ∷ ys) = cond (x == y) (without x ys) (y ∷ without x ys)

-- nothing is on the list twice
abbrev pub distinct : List ℕ → Bool
distinct [] = true
distinct (x ∷ xs) = not (member x xs) && distinct xs

abbrev pub first : {A : Type 0} → List A → Option A
first [] = None
first (x ∷ xs) = Some x

-- the last of a list that begins with x
abbrev pub end : {A : Type 0} → A → List A → A
end x [] = x
end x (y ∷ ys) = end y ys

abbrev pub last : {A : Type 0} → List A → Option A
last [] = None
last (x ∷ xs) = Some (end x xs)

-- what stands behind x
abbrev pub after : ℕ → List ℕ → List ℕ
after x [] = []
after x (y ∷ ys) = cond (x == y) ys (after x ys)
