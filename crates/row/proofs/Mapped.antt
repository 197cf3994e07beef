-- Entries read off a list of slots, under a removal, a search and a cut.
use Rattle.std.proofs.Common.{◌≡◌, ℕ, true, false, eqb, List, [], ◌∷◌, ◌++◌, map, Some, None, sym, refl, ap, ◌∙◌, inl, inr, arith}
use Rattle.std.proofs.lemmas.Bool.{cases_Bool, or_left, or_right, or_from, eqb-true, eqb-false, eq-eqb, ne_eqb, true≢false, both_ways}
use Rattle.std.specs.List.{AllByRecursion as All}
use Rattle.rings.specs.Slots as slots
use Rattle.rings.specs.Slots.{member, distinct, end, last, after}
use Rattle.rings.proofs.Lists.{distinct_head, distinct_tail, distinct_cons, member_end, member_after}
use Rattle.row.specs.Entries.{Entry, find_entry, without, start, front, numbers}
use Rattle.row.specs.Held.{before}

pub member_here : (x : ℕ) (xs : List ℕ) → member x (x ∷ xs) ≡ true
member_here x xs = or_left (eqb x x) (member x xs) (eq-eqb x x refl)

pub member_there : (x y : ℕ) (ys : List ℕ) → member x ys ≡ true → member x (y ∷ ys) ≡ true
member_there x y ys m = or_right (eqb x y) (member x ys) m

-- equal entries give equal lists
pub map_same : (f g : ℕ → Entry) (xs : List ℕ) → ((x : ℕ) → member x xs ≡ true → f x ≡ g x) → map f xs ≡ map g xs
map_same f g [] h = refl
map_same f g (x ∷ xs) h = let e = h x (member_here x xs) in let t = map_same f g xs (λ y m. h y (member_there y x xs m)) in rw (e, t)

module _ (f : ℕ → Entry) where
  -- no other slot of the list has the number of slot x
  abbrev pub Only : ℕ → List ℕ → Type 0
  Only x xs = (y : ℕ) → member y xs ≡ true → (f y).number ≡ (f x).number → y ≡ x

  pub map_without : (x : ℕ) (xs : List ℕ) → Only x xs → map f (slots.without x xs) ≡ without (f x).number (map f xs)
  map_without x [] only = refl
  map_without x (y ∷ ys) only =
      let ih = map_without x ys (λ z m e. only z (member_there z y ys m) e) in
      elim (cases_Bool (eqb x y)) [
        | inl k ↦ rw (k, eq-eqb (f y).number (f x).number (ap (λ z. (f z).number) (sym (eqb-true x y k)))) ih
        | inr k ↦
            let ne : eqb (f y).number (f x).number ≡ false = ne_eqb (f y).number (f x).number (λ e. eqb-false x y k (sym (only y (member_here y ys) e))) in
            rw (k, ne) (ap (λ es. f y ∷ es) ih)
      ]

  pub find_held : (x : ℕ) (xs : List ℕ) → Only x xs → member x xs ≡ true → find_entry (f x).number (map f xs) ≡ Some (f x)
  find_held x [] only m = absurd (true≢false (sym m))
  find_held x (y ∷ ys) only m =
      elim (cases_Bool (eqb x y)) [
        | inl k ↦ let e = eqb-true x y k in rw (eq-eqb (f y).number (f x).number (ap (λ z. (f z).number) (sym e))) (ap (λ z. Some (f z)) (sym e))
        | inr k ↦
            let ne : eqb (f y).number (f x).number ≡ false = ne_eqb (f y).number (f x).number (λ e. eqb-false x y k (sym (only y (member_here y ys) e))) in
            let m2 : member x ys ≡ true = (rw k at m) in
            rw ne (find_held x ys (λ z n e. only z (member_there z y ys n) e) m2)
      ]

  pub find_none : (b : ℕ) (xs : List ℕ) → ((y : ℕ) → member y xs ≡ true → (f y).number ≡ b → ⊥) → (find_entry b (map f xs) ≡ None) × (without b (map f xs) ≡ map f xs)
  find_none b [] h = (refl, refl)
  find_none b (y ∷ ys) h =
      let ih = find_none b ys (λ z m e. h z (member_there z y ys m) e) in
      let ne : eqb (f y).number b ≡ false = ne_eqb (f y).number b (h y (member_here y ys)) in
      (rw ne ih.0, rw ne (ap (λ es. f y ∷ es) ih.1))

  -- an entry that is not found is in no slot
  pub none_holds : (b : ℕ) (xs : List ℕ) → find_entry b (map f xs) ≡ None → (y : ℕ) → member y xs ≡ true → (f y).number ≡ b → ⊥
  none_holds b [] e y m q = true≢false (sym m)
  none_holds b (z ∷ zs) e y m q =
      elim (cases_Bool (eqb (f z).number b)) [
        | inl k ↦ let w : ◌≡◌ (Some (f z)) None = (rw k at e) in let n : ◌≡◌ {A = ℕ} 0 1 = cc in omega arith
        | inr k ↦ elim (cases_Bool (eqb y z)) [
          | inl j ↦ eqb-false (f z).number b k (ap (λ w. (f w).number) (sym (eqb-true y z j)) ∙ q)
          | inr j ↦ none_holds b zs (rw k at e) y (rw j at m) q
        ]
      ]

  end_map : (x : ℕ) (xs : List ℕ) → end (f x) (map f xs) ≡ f (end x xs)
  end_map x [] = refl
  end_map x (y ∷ ys) = end_map y ys

  pub last_map : (x : ℕ) (xs : List ℕ) → last xs ≡ Some x → last (map f xs) ≡ Some (f x)
  last_map x [] e = let n : ◌≡◌ {A = ℕ} 0 1 = cc in absurd (omega arith)
  last_map x (y ∷ ys) e = let q : end y ys ≡ x = cc in ap Some (end_map y ys ∙ ap f q)

  start_map : (x : ℕ) (xs : List ℕ) → map f (start x xs) ≡ start (f x) (map f xs)
  start_map x [] = refl
  start_map x (y ∷ ys) = ap (λ es. f x ∷ es) (start_map y ys)

  pub front_map : (xs : List ℕ) → map f (front xs) ≡ front (map f xs)
  front_map [] = refl
  front_map (x ∷ xs) = start_map x xs

  -- the entries before a slot, its own, and those behind it
  pub map_split : (x : ℕ) (xs : List ℕ) → member x xs ≡ true → map f xs ≡ map f (before x xs) ++ f x ∷ map f (after x xs)
  map_split x [] m = absurd (true≢false (sym m))
  map_split x (y ∷ ys) m =
      elim (cases_Bool (eqb x y)) [
        | inl k ↦ let e = eqb-true x y k in rw (k, e)
        | inr k ↦ let m2 : member x ys ≡ true = (rw k at m) in rw k (ap (λ es. f y ∷ es) (map_split x ys m2))
      ]

without_end : (x : ℕ) (xs : List ℕ) → distinct (x ∷ xs) ≡ true → slots.without (end x xs) (x ∷ xs) ≡ start x xs
without_end x [] d = rw (eq-eqb x x refl)
without_end x (y ∷ ys) d =
    let ne : eqb (end y ys) x ≡ false = ne_eqb (end y ys) x (λ q. both_ways (member x (y ∷ ys)) (distinct_head x (y ∷ ys) d) (ap (λ z. member z (y ∷ ys)) (sym q) ∙ member_end y ys)) in
    rw ne (ap (λ zs. x ∷ zs) (without_end y ys (distinct_tail x (y ∷ ys) d)))

-- leaving out the last
pub without_last : (x : ℕ) (xs : List ℕ) → distinct xs ≡ true → last xs ≡ Some x → slots.without x xs ≡ front xs
without_last x [] d e = refl
without_last x (y ∷ ys) d e = let q : end y ys ≡ x = cc in ap (λ z. slots.without z (y ∷ ys)) (sym q) ∙ without_end y ys d

-- what stands before the next slot
pub before_next : (x y : ℕ) (xs zs : List ℕ) → distinct xs ≡ true → member x xs ≡ true → after x xs ≡ y ∷ zs → before y xs ≡ before x xs ++ x ∷ []
before_next x y [] zs d m e = absurd (true≢false (sym m))
before_next x y (w ∷ ws) zs d m e =
    let apart : member y ws ≡ true → eqb y w ≡ false = λ n. ne_eqb y w (λ q. both_ways (member w ws) (distinct_head w ws d) (ap (λ v. member v ws) (sym q) ∙ n)) in
    elim (cases_Bool (eqb x w)) [
      | inl k ↦
          let q : ws ≡ y ∷ zs = (rw k at e) in
          let n : member y ws ≡ true = rw q (member_here y zs) in
          let b : before y ws ≡ [] = rw (q, eq-eqb y y refl) in
          rw (k, apart n, b) (ap (λ v. v ∷ []) (sym (eqb-true x w k)))
      | inr k ↦
          let q : after x ws ≡ y ∷ zs = (rw k at e) in
          let m2 : member x ws ≡ true = (rw k at m) in
          rw (k, apart (member_after x y ws zs q)) (ap (λ vs. w ∷ vs) (before_next x y ws zs (distinct_tail w ws d) m2 q))
    ]

pub member_before : (y x : ℕ) (xs : List ℕ) → member y (before x xs) ≡ true → (member y xs ≡ true) × (y ≡ x → ⊥)
member_before y x [] m = absurd (true≢false (sym m))
member_before y x (z ∷ zs) m =
    elim (cases_Bool (eqb x z)) [
      | inl k ↦ absurd (true≢false (sym (rw k at m)))
      | inr k ↦
          let m2 : member y (z ∷ before x zs) ≡ true = (rw k at m) in
          elim (cases_Bool (eqb y z)) [
            | inl j ↦ (or_left (eqb y z) (member y zs) j, λ q. eqb-false x z k (sym q ∙ eqb-true y z j))
            | inr j ↦ let m3 : member y (before x zs) ≡ true = (rw j at m2) in let r = member_before y x zs m3 in (or_right (eqb y z) (member y zs) r.0, r.1)
          ]
    ]

pub member_behind : (y x : ℕ) (xs : List ℕ) → distinct xs ≡ true → member y (after x xs) ≡ true → (member y xs ≡ true) × (y ≡ x → ⊥)
member_behind y x [] d m = absurd (true≢false (sym m))
member_behind y x (z ∷ zs) d m =
    elim (cases_Bool (eqb x z)) [
      | inl k ↦
          let m2 : member y zs ≡ true = (rw k at m) in
          (or_right (eqb y z) (member y zs) m2, λ q. both_ways (member z zs) (distinct_head z zs d) (ap (λ v. member v zs) (sym (q ∙ eqb-true x z k)) ∙ m2))
      | inr k ↦ let m2 : member y (after x zs) ≡ true = (rw k at m) in let r = member_behind y x zs (distinct_tail z zs d) m2 in (or_right (eqb y z) (member y zs) r.0, r.1)
    ]

-- what holds of the entry in each slot
pub all_held : (f : ℕ → Entry) (P : Entry → Type 0) (xs : List ℕ) → ((x : ℕ) → member x xs ≡ true → P (f x)) → All P (map f xs)
all_held f P [] h = tt
all_held f P (x ∷ xs) h = (h x (member_here x xs), all_held f P xs (λ y m. h y (member_there y x xs m)))

member_numbers : (f : ℕ → Entry) (b : ℕ) (xs : List ℕ) → ((y : ℕ) → member y xs ≡ true → (f y).number ≡ b → ⊥) → member b (numbers (map f xs)) ≡ false
member_numbers f b [] h = refl
member_numbers f b (x ∷ xs) h =
    or_from (eqb b (f x).number) (member b (numbers (map f xs))) (ne_eqb b (f x).number (λ e. h x (member_here x xs) (sym e))) (member_numbers f b xs (λ y m e. h y (member_there y x xs m) e))

pub distinct_numbers : (f : ℕ → Entry) (xs : List ℕ) → distinct xs ≡ true → ((x : ℕ) → member x xs ≡ true → Only f x xs) → distinct (numbers (map f xs)) ≡ true
distinct_numbers f [] d only = refl
distinct_numbers f (x ∷ xs) d only =
    let other : (y : ℕ) → member y xs ≡ true → (f y).number ≡ (f x).number → ⊥ = λ y m e.
    both_ways (member x xs) (distinct_head x xs d) (ap (λ z. member z xs) (sym (only x (member_here x xs) y (member_there y x xs m) e)) ∙ m) in
    distinct_cons (f x).number (numbers (map f xs)) (member_numbers f (f x).number xs other)
    (distinct_numbers f xs (distinct_tail x xs d) (λ z m y n e. only z (member_there z x xs m) y (member_there y x xs n) e))
