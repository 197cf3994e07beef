-- Lists of entries: which numbers they name, and what is left without one.
use Rattle.std.proofs.Common.{◌≡◌, ℕ, suc, Bool, true, false, not, ◌&&◌, ◌||◌, eqb, ◌⊎◌, List, [], ◌∷◌, ◌++◌, length, Some, None, Option, sym, refl, ap, ◌∙◌, inl, inr, arith}
use Rattle.std.proofs.lemmas.Bool.{cases_Bool, and_parts, and_from, or_parts, or_from, or_left, or_right, or_cases, not-true, not_from_false, eqb-true, true≢false, cond-false as cond_no}
use Rattle.row.specs.Entries.{Entry, find_entry as look, without, front}
use Rattle.rings.specs.Slots.{last}

-- whether some entry names b
abbrev pub names : ℕ → List Entry → Bool
names b [] = false
names b (e ∷ es) = eqb e.number b || names b es

-- no block is named twice
abbrev pub distinct : List Entry → Bool
distinct [] = true
distinct (e ∷ es) = not (names e.number es) && distinct es

pub option_cases : {X : Type 0} (o : Option X) → (o ≡ None) ⊎ ((x : X) × (o ≡ Some x))
option_cases None = inl refl
option_cases (Some x) = inr (x, refl)

pub without_fresh : (b : ℕ) (es : List Entry) → names b es ≡ false → without b es ≡ es
without_fresh b [] h = refl
without_fresh b (e ∷ es) h =
    let p = or_parts (eqb e.number b) (names b es) h in
    cond_no (eqb e.number b) (without b es) (e ∷ without b es) p.0 ∙ ap (λ xs. e ∷ xs) (without_fresh b es p.1)

pub names_append : (b : ℕ) (xs ys : List Entry) → names b xs ≡ false → names b ys ≡ false → names b (xs ++ ys) ≡ false
names_append b [] ys h k = k
names_append b (x ∷ xs) ys h k =
    let p = or_parts (eqb x.number b) (names b xs) h in
    or_from (eqb x.number b) (names b (xs ++ ys)) p.0 (names_append b xs ys p.1 k)

pub names_parts : (b : ℕ) (xs ys : List Entry) → names b (xs ++ ys) ≡ false → (names b xs ≡ false) × (names b ys ≡ false)
names_parts b [] ys h = (refl, h)
names_parts b (x ∷ xs) ys h =
    let p = or_parts (eqb x.number b) (names b (xs ++ ys)) h in
    let q = names_parts b xs ys p.1 in
    (or_from (eqb x.number b) (names b xs) p.0 q.0, q.1)

pub names_left : (b : ℕ) (xs ys : List Entry) → names b xs ≡ true → names b (xs ++ ys) ≡ true
names_left b [] ys h = absurd (true≢false (sym h))
names_left b (x ∷ xs) ys h =
    elim (or_cases (eqb x.number b) (names b xs) h) [ inl e ↦ or_left (eqb x.number b) (names b (xs ++ ys)) e | inr e ↦ or_right (eqb x.number b) (names b (xs ++ ys)) (names_left b xs ys e) ]

pub names_without : (b : ℕ) (es : List Entry) → names b (without b es) ≡ false
names_without b [] = refl
names_without b (e ∷ es) =
    elim (cases_Bool (eqb e.number b)) [ inl h ↦ rw h (names_without b es) | inr h ↦ rw h (or_from (eqb e.number b) (names b (without b es)) h (names_without b es)) ]

-- what is left out names no more than before
pub fresh_without : (a b : ℕ) (es : List Entry) → names a es ≡ false → names a (without b es) ≡ false
fresh_without a b [] h = refl
fresh_without a b (e ∷ es) h =
    let p = or_parts (eqb e.number a) (names a es) h in
    elim (cases_Bool (eqb e.number b)) [
      | inl k ↦ rw k (fresh_without a b es p.1)
      | inr k ↦ rw k (or_from (eqb e.number a) (names a (without b es)) p.0 (fresh_without a b es p.1))
    ]

pub without_append : (b : ℕ) (xs ys : List Entry) → without b (xs ++ ys) ≡ without b xs ++ without b ys
without_append b [] ys = refl
without_append b (x ∷ xs) ys =
    elim (cases_Bool (eqb x.number b)) [ inl h ↦ rw h (without_append b xs ys) | inr h ↦ rw h (ap (λ zs. x ∷ zs) (without_append b xs ys)) ]

pub look_none : (b : ℕ) (es : List Entry) → look b es ≡ None → names b es ≡ false
look_none b [] h = refl
look_none b (e ∷ es) h =
    elim (cases_Bool (eqb e.number b)) [
      | inl k ↦ absurd (let g : Some e ≡ None = rw k at h in let z : ◌≡◌ {A = ℕ} 0 1 = cc in omega arith)
      | inr k ↦ or_from (eqb e.number b) (names b es) k (look_none b es (rw k at h))
    ]

pub look_fresh : (b : ℕ) (es : List Entry) → names b es ≡ false → look b es ≡ None
look_fresh b [] h = refl
look_fresh b (e ∷ es) h = let p = or_parts (eqb e.number b) (names b es) h in cond_no (eqb e.number b) (Some e) (look b es) p.0 ∙ look_fresh b es p.1

pub look_some : (b : ℕ) (es : List Entry) (f : Entry) → look b es ≡ Some f → names b es ≡ true
look_some b [] f h = absurd (let z : ◌≡◌ {A = ℕ} 0 1 = cc in omega arith)
look_some b (e ∷ es) f h =
    elim (cases_Bool (eqb e.number b)) [ inl k ↦ or_left (eqb e.number b) (names b es) k | inr k ↦ or_right (eqb e.number b) (names b es) (look_some b es f (rw k at h)) ]

pub look_number : (b : ℕ) (es : List Entry) (f : Entry) → look b es ≡ Some f → f.number ≡ b
look_number b [] f h = absurd (let z : ◌≡◌ {A = ℕ} 0 1 = cc in omega arith)
look_number b (e ∷ es) f h =
    elim (cases_Bool (eqb e.number b)) [
      | inl k ↦ (let g : Some e ≡ Some f = rw k at h in let q : e ≡ f = cc in ap (λ x. x.number) (sym q) ∙ eqb-true e.number b k)
      | inr k ↦ look_number b es f (rw k at h)
    ]

-- an entry on a list is named by it
pub distinct_head : (e : Entry) (es : List Entry) → distinct (e ∷ es) ≡ true → (names e.number es ≡ false) × (distinct es ≡ true)
distinct_head e es h = let p = and_parts (not (names e.number es)) (distinct es) h in (not-true (names e.number es) p.0, p.1)

pub distinct_cons : (e : Entry) (es : List Entry) → names e.number es ≡ false → distinct es ≡ true → distinct (e ∷ es) ≡ true
distinct_cons e es h k = and_from (not (names e.number es)) (distinct es) (not_from_false (names e.number es) h) k

pub distinct_left : (xs ys : List Entry) → distinct (xs ++ ys) ≡ true → distinct xs ≡ true
distinct_left [] ys h = refl
distinct_left (x ∷ xs) ys h = let p = distinct_head x (xs ++ ys) h in distinct_cons x xs (names_parts x.number xs ys p.0).0 (distinct_left xs ys p.1)

pub distinct_right : (xs ys : List Entry) → distinct (xs ++ ys) ≡ true → distinct ys ≡ true
distinct_right [] ys h = h
distinct_right (x ∷ xs) ys h = distinct_right xs ys (distinct_head x (xs ++ ys) h).1

-- what the front names, the back does not
pub distinct_apart : (b : ℕ) (xs ys : List Entry) → distinct (xs ++ ys) ≡ true → names b xs ≡ true → names b ys ≡ false
distinct_apart b [] ys h k = absurd (true≢false (sym k))
distinct_apart b (x ∷ xs) ys h k =
    let p = distinct_head x (xs ++ ys) h in
    elim (or_cases (eqb x.number b) (names b xs) k) [ inl e ↦ names_at ys (eqb-true x.number b e) (names_parts x.number xs ys p.0).1 | inr e ↦ distinct_apart b xs ys p.1 e ]
  where
    names_at : (zs : List Entry) → x.number ≡ b → names x.number zs ≡ false → names b zs ≡ false
    names_at zs e h = ap (λ n. names n zs) (sym e) ∙ h

pub distinct_without : (b : ℕ) (es : List Entry) → distinct es ≡ true → distinct (without b es) ≡ true
distinct_without b [] h = refl
distinct_without b (e ∷ es) h =
    let p = distinct_head e es h in
    elim (cases_Bool (eqb e.number b)) [
      | inl k ↦ rw k (distinct_without b es p.1)
      | inr k ↦ rw k (distinct_cons e (without b es) (fresh_without e.number b es p.0) (distinct_without b es p.1))
    ]

-- one entry fewer
pub length_without : (b : ℕ) (es : List Entry) → distinct es ≡ true → names b es ≡ true → suc (length (without b es)) ≡ length es
length_without b [] h k = absurd (true≢false (sym k))
length_without b (e ∷ es) h k =
    let p = distinct_head e es h in
    elim (cases_Bool (eqb e.number b)) [
      | inl g ↦ rw g (ap (λ xs. suc (length xs)) (without_fresh b es (ap (λ n. names n es) (sym (eqb-true e.number b g)) ∙ p.0)))
      | inr g ↦ rw g (ap suc (length_without b es p.1 (elim (or_cases (eqb e.number b) (names b es) k) [ inl t ↦ absurd (true≢false (sym t ∙ g)) | inr t ↦ t ])))
    ]

pub init_last : (x : Entry) (xs : List Entry) → (w : Entry) × (last (x ∷ xs) ≡ Some w) × (front (x ∷ xs) ++ w ∷ [] ≡ x ∷ xs)
init_last x [] = (x, refl, refl)
init_last x (y ∷ ys) = let p = init_last y ys in (p.0, p.1, ap (λ zs. x ∷ zs) p.2)
