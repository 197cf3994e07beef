-- Lists of slots under a removal, and how long they can be.
use Rattle.std.proofs.Common.{◌≡◌, ℕ, zero, suc, ◌+◌, ◌<◌, ◌≤◌, true, false, cond, not, eqb, List, [], ◌∷◌, length, sym, refl, ap, ◌∙◌, inl, inr, arith}
use Rattle.std.specs.List.{AllByRecursion as All}
use Rattle.std.proofs.lemmas.Bool.{cases_Bool, and_parts, and_from, or_left, or_right, eqb-true, eqb-false, eq-eqb, ne_eqb, not-true, not_from_false, true≢false, both_ways}
use Rattle.rings.specs.Slots.{member, without, distinct, end, after}

pub member_without : (y x : ℕ) (xs : List ℕ) → member y (without x xs) ≡ cond (eqb y x) false (member y xs)
member_without y x [] = elim (cases_Bool (eqb y x)) [ inl h ↦ rw h | inr h ↦ rw h ]
member_without y x (z ∷ zs) =
    elim (cases_Bool (eqb x z)) [
      | inl h ↦ rw h (elim (cases_Bool (eqb y x)) [
        | inl k ↦ member_without y x zs ∙ rw k
        | inr k ↦ member_without y x zs ∙ rw (k, ne_eqb y z (λ e. absurd (eqb-false y x k (e ∙ sym (eqb-true x z h)))))
      ])
      | inr h ↦ rw h (elim (cases_Bool (eqb y x)) [
        | inl k ↦ rw (member_without y x zs, k, ne_eqb y z (λ e. absurd (eqb-false x z h (sym (eqb-true y x k) ∙ e))))
        | inr k ↦ rw (member_without y x zs, k)
      ])
    ]

pub without_none : (x : ℕ) (xs : List ℕ) → member x xs ≡ false → without x xs ≡ xs
without_none x [] h = refl
without_none x (y ∷ ys) h =
    elim (cases_Bool (eqb x y)) [
      | inl k ↦ absurd (both_ways (member x (y ∷ ys)) h (or_left (eqb x y) (member x ys) k))
      | inr k ↦ let h2 : member x ys ≡ false = (rw k at h) in rw k (ap (λ zs. y ∷ zs) (without_none x ys h2))
    ]

pub distinct_head : (x : ℕ) (xs : List ℕ) → distinct (x ∷ xs) ≡ true → member x xs ≡ false
distinct_head x xs d = not-true (member x xs) (and_parts (not (member x xs)) (distinct xs) d).0

pub distinct_tail : (x : ℕ) (xs : List ℕ) → distinct (x ∷ xs) ≡ true → distinct xs ≡ true
distinct_tail x xs d = (and_parts (not (member x xs)) (distinct xs) d).1

pub distinct_cons : (x : ℕ) (xs : List ℕ) → member x xs ≡ false → distinct xs ≡ true → distinct (x ∷ xs) ≡ true
distinct_cons x xs h d = and_from (not (member x xs)) (distinct xs) (not_from_false (member x xs) h) d

pub distinct_without : (x : ℕ) (xs : List ℕ) → distinct xs ≡ true → distinct (without x xs) ≡ true
distinct_without x [] d = refl
distinct_without x (y ∷ ys) d =
    let ih : distinct (without x ys) ≡ true = distinct_without x ys (distinct_tail y ys d) in
    elim (cases_Bool (eqb x y)) [
      | inl k ↦ rw k ih
      | inr k ↦ rw k (distinct_cons y (without x ys)
          (member_without y x ys ∙ (rw (distinct_head y ys d) (elim (cases_Bool (eqb y x)) [ inl q ↦ rw q | inr q ↦ rw q ]))) ih)
    ]

pub all_without : (P : ℕ → Type 0) (x : ℕ) (xs : List ℕ) → All P xs → All P (without x xs)
all_without P x [] a = tt
all_without P x (y ∷ ys) a =
    elim (cases_Bool (eqb x y)) [ inl k ↦ rw k (all_without P x ys a.1) | inr k ↦ rw k (a.0, all_without P x ys a.1) ]

-- a removal takes at most one slot from a list that has none twice, and one if the slot is there
pub length_without : (x : ℕ) (xs : List ℕ) → distinct xs ≡ true → length xs ≡ length (without x xs) + cond (member x xs) 1 0
length_without x [] d = refl
length_without x (y ∷ ys) d =
    elim (cases_Bool (eqb x y)) [
      | inl k ↦
          let e : x ≡ y = eqb-true x y k in
          let h : member x ys ≡ false = ap (λ z. member z ys) e ∙ distinct_head y ys d in
          rw (k, without_none x ys h) (omega arith)
      | inr k ↦ let ih = length_without x ys (distinct_tail y ys d) in rw k (omega arith)
    ]

below_without : (n : ℕ) (xs : List ℕ) → All (λ x. x < suc n) xs → All (λ x. x < n) (without n xs)
below_without n [] a = tt
below_without n (y ∷ ys) a =
    elim (cases_Bool (eqb n y)) [
      | inl k ↦ rw k (below_without n ys a.1)
      | inr k ↦ let e = eqb-false n y k in let h : y < suc n = a.0 in rw k (grind arith, below_without n ys a.1)
    ]

-- distinct numbers below n are at most n
pub length_distinct : (n : ℕ) (xs : List ℕ) → distinct xs ≡ true → All (λ x. x < n) xs → length xs ≤ n
length_distinct zero [] d a = omega arith
length_distinct zero (x ∷ xs) d a = absurd (let h : x < 0 = a.0 in omega arith)
length_distinct (suc n) xs d a =
    let ih = length_distinct n (without n xs) (distinct_without n xs d) (below_without n xs a) in
    let l = length_without n xs d in
    elim (cases_Bool (member n xs)) [
      | inl m ↦ let l2 : length xs ≡ length (without n xs) + 1 = rw m at l in omega arith
      | inr m ↦ let l2 : length xs ≡ length (without n xs) + 0 = rw m at l in omega arith
    ]

length_without_le : (x : ℕ) (xs : List ℕ) → member x xs ≡ true → length (without x xs) + 1 ≤ length xs
length_without_le x [] h = absurd (true≢false (sym h))
length_without_le x (y ∷ ys) h =
    elim (cases_Bool (eqb x y)) [
      | inl k ↦ elim (cases_Bool (member x ys)) [
        | inl m ↦ let ih = length_without_le x ys m in rw k (omega arith)
        | inr m ↦ let e = without_none x ys m in rw (k, e) (omega arith)
      ]
      | inr k ↦ let m : member x ys ≡ true = (rw k at h) in let ih = length_without_le x ys m in rw k (omega arith)
    ]

-- a list that has every number below n has at least n
pub length_covers : (n : ℕ) (xs : List ℕ) → ((x : ℕ) → x < n → member x xs ≡ true) → n ≤ length xs
length_covers zero xs f = omega arith
length_covers (suc n) xs f =
    let ih = length_covers n (without n xs) (λ x h. member_without x n xs ∙ (rw (ne_eqb x n (λ e. omega arith)) (f x (omega arith)))) in
    let l = length_without_le n xs (f n (omega arith)) in omega arith

pub member_end : (x : ℕ) (xs : List ℕ) → member (end x xs) (x ∷ xs) ≡ true
member_end x [] = or_left (eqb x x) false (eq-eqb x x refl)
member_end x (y ∷ ys) = or_right (eqb (end y ys) x) (member (end y ys) (y ∷ ys)) (member_end y ys)

pub member_after : (x y : ℕ) (xs ys : List ℕ) → after x xs ≡ y ∷ ys → member y xs ≡ true
member_after x y [] ys e = let z : ◌≡◌ {A = ℕ} 0 1 = cc in absurd (omega arith)
member_after x y (z ∷ zs) ys e =
    elim (cases_Bool (eqb x z)) [
      | inl k ↦ let q : zs ≡ y ∷ ys = (rw k at e) in or_right (eqb y z) (member y zs) (rw q (or_left (eqb y y) (member y ys) (eq-eqb y y refl)))
      | inr k ↦ or_right (eqb y z) (member y zs) (member_after x y zs ys (rw k at e))
    ]

-- what is behind the first of what is behind a slot
pub after_first : (x y : ℕ) (xs ys : List ℕ) → distinct xs ≡ true → after x xs ≡ y ∷ ys → after y xs ≡ ys
after_first x y [] ys d e = let z : ◌≡◌ {A = ℕ} 0 1 = cc in absurd (omega arith)
after_first x y (z ∷ zs) ys d e =
    let apart : member y zs ≡ true → eqb y z ≡ false = λ m. ne_eqb y z (λ q. both_ways (member z zs) (distinct_head z zs d) (ap (λ w. member w zs) (sym q) ∙ m)) in
    elim (cases_Bool (eqb x z)) [
      | inl k ↦
          let q : zs ≡ y ∷ ys = (rw k at e) in
          let m : member y zs ≡ true = rw q (or_left (eqb y y) (member y ys) (eq-eqb y y refl)) in
          rw (apart m, q, eq-eqb y y refl)
      | inr k ↦
          let q : after x zs ≡ y ∷ ys = (rw k at e) in
          rw (apart (member_after x y zs ys q)) (after_first x y zs ys (distinct_tail z zs d) q)
    ]
