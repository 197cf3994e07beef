-- Summing capacities and counting sound blocks, one by one.
use Rattle.std.proofs.Common.{◌≡◌, ℕ, zero, suc, ◌+◌, ◌*◌, ◌≤◌, min, Bool, cond, List, [], ◌∷◌, length, map, take, Option, sym, refl, ap, ◌∙◌, inl, inr, add-zero, zero-add, arith}
use Rattle.std.specs.List.{AllByRecursion as All, filter, filter_map, cons_option, fold, sum, range_with_len}
use Rattle.std.proofs.lemmas.List.{take_all}
use Rattle.std.proofs.lemmas.Bool.{cases_Bool, cases_lt, ne_eqb}
use Rattle.row.specs.Entries.{RowModel}
use Rattle.tier.specs.Models.{LawfulRow}
use Rattle.tier.specs.Questions.{capacity_of}
use Rattle.pile.specs.Recency.{room, count_below}

-- the numbers of a range that pass a test are as many as are counted
passing_last : (f : ℕ → Bool) (a n : ℕ) → length (filter f (range_with_len a (suc n))) ≡ cond (f (a + n)) 1 0 + length (filter f (range_with_len a n))
passing_last f a zero = elim (cases_Bool (f a)) [ inl h ↦ rw (h, ap f (add-zero a) ∙ h) | inr h ↦ rw (h, ap f (add-zero a) ∙ h) ]
passing_last f a (suc n) =
    let e : f (a + suc n) ≡ f (a + 1 + n) = ap f (omega arith) in
    rw e (elim (cases_Bool (f a)) [ inl h ↦ rw h (omega (arith, passing_last f (a + 1) n)) | inr h ↦ rw h (passing_last f (a + 1) n) ])

pub count_passing : (f : ℕ → Bool) (n : ℕ) → length (filter f (range_with_len 0 n)) ≡ count_below f n
count_passing f zero = refl
count_passing f (suc n) = passing_last f 0 n ∙ (λ i. cond (f (zero-add n i)) 1 0 + count_passing f n i)

capacity_deeper : (r : RowModel) (rs : List RowModel) (i : ℕ) → capacity_of (r ∷ rs) (i + 1 + 1) ≡ capacity_of rs (i + 1)
capacity_deeper r rs i = rw (ne_eqb (i + 1 + 1) 1 (λ e. omega arith)) (ap (λ j. capacity_of rs j) (omega arith))

capacities_up : (f : ℕ → Option ℕ) (a n : ℕ) → filter_map f (range_with_len (a + 1) n) ≡ filter_map (λ i. f (i + 1)) (range_with_len a n)
capacities_up f a zero = refl
capacities_up f a (suc n) = ap (λ xs. cons_option (f (a + 1)) xs) (capacities_up f (a + 1) n)

no_capacities : (a n : ℕ) → filter_map (λ i. capacity_of [] (i + 1)) (range_with_len a n) ≡ []
no_capacities a zero = refl
no_capacities a (suc n) = no_capacities (a + 1) n

-- the capacities of the first levels
capacities : (rs : List RowModel) (n : ℕ) → filter_map (λ i. capacity_of rs (i + 1)) (range_with_len 0 n) ≡ map (λ r. r.capacity) (take n rs)
capacities rs zero = refl
capacities [] (suc n) = no_capacities 0 (suc n)
capacities (r ∷ rs) (suc n) = ap (λ xs. r.capacity ∷ xs) (rest (capacities rs n))
  where
    rest : filter_map (λ i. capacity_of rs (i + 1)) (range_with_len 0 n) ≡ map (λ r. r.capacity) (take n rs)
        → filter_map (λ i. capacity_of (r ∷ rs) (i + 1)) (range_with_len 1 n) ≡ map (λ r. r.capacity) (take n rs)
    rest go = capacities_up (λ i. capacity_of (r ∷ rs) (i + 1)) 0 n
        ∙ (ap (λ (f : ℕ → Option ℕ). filter_map f (range_with_len 0 n)) (λ j i. capacity_deeper r rs i j) ∙ go)

summed_room : (rs : List RowModel) (a : ℕ) → fold (λ b x. b + x) a (map (λ r. r.capacity) rs) ≡ a + room rs
summed_room [] a = omega arith
summed_room (r ∷ rs) a = summed_room rs (a + r.capacity) ∙ omega arith

pub capacities_room : (rs : List RowModel) (n : ℕ) → sum (filter_map (λ i. capacity_of rs (i + 1)) (range_with_len 0 n)) ≡ room (take n rs)
capacities_room rs n = ap sum (capacities rs n) ∙ (summed_room (take n rs) 0 ∙ omega arith)

-- no capacity is large
pub bounded : (rs : List RowModel) (n : ℕ) → All LawfulRow rs → room (take n rs) ≤ 65536 * n
bounded rs zero l = omega arith
bounded [] (suc n) l = omega arith
bounded (r ∷ rs) (suc n) l = omega (arith, l.0.bounded, bounded rs n l.1)

-- of at most 8 levels the first 8 are all
pub room_all : (rs : List RowModel) (count : ℕ) → length rs ≤ 8 → room (take (min count 8) rs) ≡ room (take count rs)
room_all rs count h = elim (cases_lt count 8) [
  | inl l ↦ ap (λ n. room (take n rs)) (omega arith)
  | inr l ↦ ap room (take_all (min count 8) rs (omega arith) ∙ sym (take_all count rs (omega arith)))
]
