-- The number that each slot is filed under, after an insertion and a removal, and what a search of its bucket finds.
use Rattle.std.proofs.Common.{◌≡◌, ℕ, ◌+◌, ◌<◌, true, false, cond, eqb, List, [], ◌∷◌, length, get_or, set, Some, None, Option, sym, refl, ap, ◌∙◌, inl, inr, arith, MatchOption}
use Rattle.std.proofs.lemmas.List.{get_or-set_same, get_or-set_other}
use Rattle.std.proofs.lemmas.Bool.{cases_Bool, or_left, or_right, eqb-true, eqb-false, eq-eqb, true≢false}
use Rattle.rings.specs.declared.rings.Rings.{Rings}
use Rattle.rings.specs.Slots.{member, without, distinct}
use Rattle.rings.specs.Places.{nexts, prevs}
use Rattle.rings.specs.Models.{ring, fronted}
use Rattle.rings.specs.Buckets.{bucket, Filed, key_in, sought}
use Rattle.std.specs.List.{AllByRecursion as All}
use Rattle.rings.proofs.Lists.{member_without}
use Rattle.rings.proofs.Chains.{chain_slots, closed_chain, closed_distinct}

pub bucket_few : (b : ℕ) → bucket b < 16
bucket_few b = omega arith

key_is : (s : Rings) (keys : List ℕ) (x : ℕ) → key_in s keys x ≡ cond (member x (ring s (bucket (get_or keys x 0)))) (Some (get_or keys x 0)) None
unfolding key_in
key_is s keys x = refl

pub member_fronted : (y x r q : ℕ) (xs : List ℕ) → member y (fronted x r q xs) ≡ cond (eqb y x) (eqb q r) (member y xs)
member_fronted y x r q xs =
    let w = member_without y x xs in
    elim (cases_Bool (eqb q r)) [
      | inl h ↦ elim (cases_Bool (eqb y x)) [ inl k ↦ rw (h, k) | inr k ↦ rw (h, k, w, k) ]
      | inr h ↦ elim (cases_Bool (eqb y x)) [ inl k ↦ rw (h, w, k) | inr k ↦ rw (h, w, k) ]
    ]

module _ (s t : Rings) (keys : List ℕ) (b x : ℕ) (wide : length keys ≡ 16) (low : x < 16) (moved : (q : ℕ) → q < 16 → ring t q ≡ fronted x (bucket b) q (ring s q)) where
  pub insert_filed : Filed s keys → Filed t (set keys x b)
  insert_filed f y r (lr, m) =
      let m2 : cond (eqb y x) (eqb r (bucket b)) (member y (ring s r)) ≡ true = sym (member_fronted y x (bucket b) r (ring s r)) ∙ (sym (ap (λ zs. member y zs) (moved r lr)) ∙ m) in
      elim (cases_Bool (eqb y x)) [
        | inl k ↦
            let e : y ≡ x = eqb-true y x k in
            let m3 : eqb r (bucket b) ≡ true = (rw k at m2) in
            ap bucket (ap (λ z. get_or (set keys x b) z 0) e ∙ get_or-set_same keys x b 0 (omega arith)) ∙ sym (eqb-true r (bucket b) m3)
        | inr k ↦
            let m3 : member y (ring s r) ≡ true = (rw k at m2) in
            ap bucket (get_or-set_other keys x y b 0 (eqb-false y x k)) ∙ f y r (lr, m3)
      ]

  pub insert_key : (y : ℕ) → y < 16 → key_in t (set keys x b) y ≡ cond (eqb y x) (Some b) (key_in s keys y)
  insert_key y ly =
      elim (cases_Bool (eqb y x)) [
        | inl k ↦
            let e : y ≡ x = eqb-true y x k in
            let g : get_or (set keys x b) y 0 ≡ b = ap (λ z. get_or (set keys x b) z 0) e ∙ get_or-set_same keys x b 0 (omega arith) in
            key_is t (set keys x b) y ∙ rw (g, moved (bucket b) (bucket_few b), member_fronted y x (bucket b) (bucket b) (ring s (bucket b)), k, eq-eqb (bucket b) (bucket b) refl)
        | inr k ↦
            let g : get_or (set keys x b) y 0 ≡ get_or keys y 0 = get_or-set_other keys x y b 0 (eqb-false y x k) in
            key_is t (set keys x b) y ∙ (rw (g, moved (bucket (get_or keys y 0)) (bucket_few (get_or keys y 0)), member_fronted y x (bucket b) (bucket (get_or keys y 0)) (ring s (bucket (get_or keys y 0))), k) (sym (key_is s keys y)))
      ]

module _ (s t : Rings) (keys : List ℕ) (x : ℕ) (gone : (q : ℕ) → q < 16 → ring t q ≡ without x (ring s q)) where
  pub remove_filed : Filed s keys → Filed t keys
  remove_filed f y r (lr, m) =
      let m2 : cond (eqb y x) false (member y (ring s r)) ≡ true = sym (member_without y x (ring s r)) ∙ (sym (ap (λ zs. member y zs) (gone r lr)) ∙ m) in
      elim (cases_Bool (eqb y x)) [ inl k ↦ absurd (true≢false (sym (rw k at m2))) | inr k ↦ f y r (lr, (rw k at m2)) ]

  pub remove_key : (y : ℕ) → y < 16 → key_in t keys y ≡ cond (eqb y x) None (key_in s keys y)
  remove_key y ly =
      key_is t keys y ∙ (rw (gone (bucket (get_or keys y 0)) (bucket_few (get_or keys y 0)), member_without y x (ring s (bucket (get_or keys y 0))))
      (elim (cases_Bool (eqb y x)) [ inl k ↦ rw k | inr k ↦ rw k (sym (key_is s keys y)) ]))

pub key_none : (s : Rings) (keys : List ℕ) (x : ℕ) → ((q : ℕ) → q < 16 → ring s q ≡ []) → key_in s keys x ≡ None
key_none s keys x f = key_is s keys x ∙ rw (f (bucket (get_or keys x 0)) (bucket_few (get_or keys x 0)))

-- the slots of a ring are slots
slot_low : (x : ℕ) (xs : List ℕ) → All (λ y. y < 16) xs → member x xs ≡ true → x < 16
slot_low x [] a m = absurd (true≢false (sym m))
slot_low x (y ∷ ys) a m =
    elim (cases_Bool (eqb x y)) [
      | inl k ↦ let e = eqb-true x y k in let h = a.0 in omega arith
      | inr k ↦ slot_low x ys a.1 (rw k at m)
    ]

pub ring_slots : (s : Rings) (r : ℕ) → r < 16 → All (λ y. y < 16) (ring s r)
ring_slots s r h = chain_slots (nexts s.links) (prevs s.links) (16 + r) (ring s r) (16 + r) (closed_chain (nexts s.links) (prevs s.links) r (s.closed r h))

pub ring_low : (s : Rings) (x r : ℕ) → r < 16 → member x (ring s r) ≡ true → x < 16
ring_low s x r h m = slot_low x (ring s r) (ring_slots s r h) m

pub ring_distinct : (s : Rings) (r : ℕ) → r < 16 → distinct (ring s r) ≡ true
ring_distinct s r h = closed_distinct (nexts s.links) (prevs s.links) r (s.closed r h)

-- what a search of a chain finds
pub sought_cases : (keys : List ℕ) (b : ℕ) (xs : List ℕ) → MatchOption (sought keys b xs) ((x : ℕ) → member x xs ≡ true → get_or keys x 0 ≡ b → ⊥) (λ x. (member x xs ≡ true) × (get_or keys x 0 ≡ b))
sought_cases keys b [] = λ x m e. true≢false (sym m)
sought_cases keys b (y ∷ ys) =
    elim (cases_Bool (eqb (get_or keys y 0) b)) [
      | inl k ↦ rw k (or_left (eqb y y) (member y ys) (eq-eqb y y refl), eqb-true (get_or keys y 0) b k)
      | inr k ↦ rw k (go (sought keys b ys) (sought_cases keys b ys) k)
    ]
  where
    go : (r : Option ℕ) → MatchOption r ((x : ℕ) → member x ys ≡ true → get_or keys x 0 ≡ b → ⊥) (λ x. (member x ys ≡ true) × (get_or keys x 0 ≡ b)) → eqb (get_or keys y 0) b ≡ false
        → MatchOption r ((x : ℕ) → member x (y ∷ ys) ≡ true → get_or keys x 0 ≡ b → ⊥) (λ x. (member x (y ∷ ys) ≡ true) × (get_or keys x 0 ≡ b))
    go None f k = λ x m e.
        elim (cases_Bool (eqb x y)) [
          | inl q ↦ eqb-false (get_or keys y 0) b k (sym (ap (λ z. get_or keys z 0) (eqb-true x y q)) ∙ e)
          | inr q ↦ f x (rw q at m) e
        ]
    go (Some x) f k = (or_right (eqb x y) (member x ys) f.0, f.1)

-- what a search of a number's bucket finds is what the index holds
pub found_key : (s : Rings) (keys : List ℕ) (b : ℕ) (r : Option ℕ) → r ≡ sought keys b (ring s (bucket b)) → MatchOption r ((x : ℕ) → x < 16 → key_in s keys x ≡ Some b → ⊥) (λ x. (x < 16) × (key_in s keys x ≡ Some b))
found_key s keys b r e = go r (rw e (sought_cases keys b (ring s (bucket b))))
  where
    go : (r : Option ℕ) → MatchOption r ((x : ℕ) → member x (ring s (bucket b)) ≡ true → get_or keys x 0 ≡ b → ⊥) (λ x. (member x (ring s (bucket b)) ≡ true) × (get_or keys x 0 ≡ b))
        → MatchOption r ((x : ℕ) → x < 16 → key_in s keys x ≡ Some b → ⊥) (λ x. (x < 16) × (key_in s keys x ≡ Some b))
    go None f = λ x low k.
        let e = key_is s keys x in
        elim (cases_Bool (member x (ring s (bucket (get_or keys x 0))))) [
          | inl m ↦
              let g : get_or keys x 0 ≡ b = (let q : ◌≡◌ (Some (get_or keys x 0)) (Some b) = sym (e ∙ rw m) ∙ k in cc) in
              f x (ap (λ z. member x (ring s (bucket z))) (sym g) ∙ m) g
          | inr m ↦ let q : ◌≡◌ {A = Option ℕ} None (Some b) = sym (e ∙ rw m) ∙ k in let z : ◌≡◌ {A = ℕ} 0 1 = cc in omega arith
        ]
    go (Some x) f = (ring_low s x (bucket b) (bucket_few b) f.0, key_is s keys x ∙ rw (f.1, f.0))
