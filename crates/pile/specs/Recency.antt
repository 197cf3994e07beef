-- Order of recency: the different blocks of a trail, latest first, and how many touches found their block among the last few.
use Rattle.std.specs.Prelude.{ℕ, zero, suc, ◌+◌, Bool, false, cond, ◌||◌, List, [], ◌∷◌, ◌++◌, map, take, ◌==◌}
use Rattle.row.specs.Entries.{Entry, RowModel}

abbrev pub has : ℕ → List ℕ → Bool
has b [] = false
has b (x ∷ xs) = x == b || has b xs

abbrev pub leave : ℕ → List ℕ → List ℕ
leave b [] = []
leave b (x ∷ xs) = cond (x == b) (leave b xs) (x ∷ leave b xs)

-- each number of a trail once, where it comes first
abbrev pub once : List ℕ → List ℕ
once [] = []
once (b ∷ bs) = b ∷ leave b (once bs)

-- touches whose block was among the last n different blocks touched before
abbrev pub within : ℕ → List ℕ → ℕ
within n [] = 0
within n (b ∷ bs) = cond (has b (take n (once bs))) 1 0 + within n bs

-- all entries of some rows, from the top
abbrev pub flat : List RowModel → List Entry
flat [] = []
flat (r ∷ rs) = r.entries ++ flat rs

abbrev pub numbers : List Entry → List ℕ
numbers es = map (λ e. e.number) es

abbrev pub total : List ℕ → ℕ
total [] = 0
total (x ∷ xs) = x + total xs

-- the summed capacity of rows
abbrev pub room : List RowModel → ℕ
room [] = 0
room (r ∷ rs) = r.capacity + room rs

-- how many numbers below n pass a test
abbrev pub count_below : (ℕ → Bool) → ℕ → ℕ
count_below f zero = 0
count_below f (suc n) = cond (f n) 1 0 + count_below f n
