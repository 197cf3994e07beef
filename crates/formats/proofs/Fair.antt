-- Readers that go from the left: what one has read stays read whatever follows, and before a broken rule nothing is broken.
use Rattle.std.proofs.Common.{◌≡◌, ℕ, zero, suc, ◌+◌, ◌-◌, ◌*◌, ◌<◌, ◌≤◌, Bool, true, false, cond, ◌&&◌, eqb, leb, List, [], ◌∷◌, ◌++◌, length, get_or, Ok, Err, sym, refl, ap, ◌∙◌, inl, inr, append_assoc, subst, arith}
use Rattle.std.proofs.lemmas.Bool.{cases_Bool, and_parts, leb-true}
use Rattle.formats.specs.declared.sheet.Images.{Images}
use Rattle.formats.specs.declared.sheet.Images.TheVariants.{Single, Striped}
use Rattle.formats.specs.declared.sheet.SheetFault.TheVariants.{Cut, Broken, Extra, Memory}
use Rattle.formats.specs.Sheets.{Reading, then, byte_within, number_from, entries, capacity, capacities, levels_of, single, striped, images_of, rising, defects_of, Listed, lists_of}
use Rattle.formats.specs.SheetLaws.{Lawful, LawfulUnit}

-- an answer of the reader f on these bytes; Q holds of what it reads
abbrev pub Fair-at : {X : Type 0} → (X → Type 0) → (ℕ → List ℕ → Reading X) → ℕ → List ℕ → Reading X → Type 0
Fair-at Q f n bytes (Ok p) = Q p.0 × ((pre : List ℕ) × (bytes ≡ pre ++ p.1) × ((m : ℕ) (ys : List ℕ) → f m (pre ++ ys) ≡ Ok (p.0, ys)))
Fair-at Q f n bytes (Err (Cut o)) = o ≡ n
Fair-at Q f n bytes (Err (Broken o)) = (pre : List ℕ) × (tail : List ℕ) × (bytes ≡ pre ++ tail) × (0 < length tail) × (o ≡ n - length tail) × ((m : ℕ) → f m pre ≡ Err (Cut m))
Fair-at Q f n bytes (Err (Extra o)) = ⊥
Fair-at Q f n bytes (Err Memory) = ⊥

abbrev pub Fair : {X : Type 0} → (X → Type 0) → (ℕ → List ℕ → Reading X) → Type 0
Fair Q f = (n : ℕ) (bytes : List ℕ) → Fair-at Q f n bytes (f n bytes)

fair_pure : {X : Type 0} (Q : X → Type 0) (x : X) → Q x → Fair Q (λ n bytes. Ok (x, bytes))
fair_pure Q x q n bytes = (q, ([], refl, λ m ys. refl))

weaker_at : {X : Type 0} (P Q : X → Type 0) (f : ℕ → List ℕ → Reading X) → ((x : X) → P x → Q x) → (n : ℕ) (bytes : List ℕ) (r : Reading X) → Fair-at P f n bytes r → Fair-at Q f n bytes r
weaker_at P Q f w n bytes (Ok p) (h, t) = (w p.0 h, t)
weaker_at P Q f w n bytes (Err (Cut o)) h = h
weaker_at P Q f w n bytes (Err (Broken o)) h = h
weaker_at P Q f w n bytes (Err (Extra o)) h = h
weaker_at P Q f w n bytes (Err Memory) h = h

fair_weaker : {X : Type 0} (P Q : X → Type 0) (f : ℕ → List ℕ → Reading X) → ((x : X) → P x → Q x) → Fair P f → Fair Q f
fair_weaker P Q f w h n bytes = weaker_at P Q f w n bytes (f n bytes) (h n bytes)

module _ {X Y : Type 0} (P : X → Type 0) (Q : Y → Type 0) (f : ℕ → List ℕ → Reading X) (g : X → ℕ → List ℕ → Reading Y) where
  -- one reader after another
  abbrev both : ℕ → List ℕ → Reading Y
  both n bytes = then (f n bytes) (λ x rest. g x n rest)

  module _ (n : ℕ) (bytes : List ℕ) (x : X) (rest : List ℕ) (pre : List ℕ) (split : bytes ≡ pre ++ rest) (same : (m : ℕ) (ys : List ℕ) → f m (pre ++ ys) ≡ Ok (x, ys)) where
    second : (r : Reading Y) → Fair-at Q (g x) n rest r → Fair-at Q both n bytes r
    second (Ok p) (q, (pre', s, t)) = (
      q,
      (
        pre ++ pre',
        split ∙ (ap (λ z. pre ++ z) s ∙ sym (append_assoc pre pre' p.1)),
        λ m ys. ap (λ z. both m z) (append_assoc pre pre' ys) ∙ (ap (λ r. then r (λ x rest. g x m rest)) (same m (pre' ++ ys)) ∙ t m ys),
      ),
    )
    second (Err (Cut o)) h = h
    second (Err (Broken o)) (pre', tail, s, some, e, t) =
        (pre ++ pre', tail, split ∙ (ap (λ z. pre ++ z) s ∙ sym (append_assoc pre pre' tail)), some, e, λ m. ap (λ r. then r (λ x rest. g x m rest)) (same m pre') ∙ t m)
    second (Err (Extra o)) h = h
    second (Err Memory) h = h

  first : ((x : X) → P x → Fair Q (g x)) → (n : ℕ) (bytes : List ℕ) (r : Reading X) → Fair-at P f n bytes r → Fair-at Q both n bytes (then r (λ x rest. g x n rest))
  first h n bytes (Ok p) (q, (pre, s, t)) = second n bytes p.0 p.1 pre s t (g p.0 n p.1) (h p.0 q n p.1)
  first h n bytes (Err (Cut o)) e = e
  first h n bytes (Err (Broken o)) (pre, tail, s, some, e, t) = (pre, tail, s, some, e, λ m. ap (λ r. then r (λ x rest. g x m rest)) (t m))
  first h n bytes (Err (Extra o)) e = e
  first h n bytes (Err Memory) e = e

  fair_then : Fair P f → ((x : X) → P x → Fair Q (g x)) → Fair Q both
  fair_then h k n bytes = first k n bytes (f n bytes) (h n bytes)

abbrev Between : ℕ → ℕ → ℕ → Type 0
Between low high b = (low ≤ b) × (b ≤ high)

fair_byte : (low high : ℕ) → Fair (Between low high) (λ n bytes. byte_within n low high bytes)
fair_byte low high n [] = refl
fair_byte low high n (b ∷ rest) =
    elim (cases_Bool (leb low b && leb b high)) [
      | inl h ↦ let p = and_parts (leb low b) (leb b high) h in rw h ((leb-true low b p.0, leb-true b high p.1), (b ∷ [], refl, λ m ys. rw h))
      | inr h ↦ rw h ([], b ∷ rest, refl, omega arith, refl, λ m. refl)
    ]

fair_number : (least : ℕ) → Fair (λ x. least ≤ x) (λ n bytes. number_from n least bytes)
fair_number least n [] = refl
fair_number least n (high ∷ []) = refl
fair_number least n (high ∷ low ∷ rest) =
    elim (cases_Bool (leb least (256 * high + low))) [
      | inl h ↦ rw h (leb-true least (256 * high + low) h, (high ∷ low ∷ [], refl, λ m ys. rw h))
      | inr h ↦ rw h ([], high ∷ low ∷ rest, refl, omega arith, refl, λ m. refl)
    ]

module _ (P : ℕ → ℕ → Type 0) (to : ℕ → ℕ) where
  -- each entry keeps the rule that the one before it sets
  abbrev pub Chained : ℕ → List ℕ → Type 0
  Chained from [] = Unit {0}
  Chained from (x ∷ xs) = P from x × Chained (to x) xs

  fair_entries : (read : ℕ → ℕ → List ℕ → Reading ℕ) → ((from : ℕ) → Fair (P from) (λ n bytes. read n from bytes)) → (k from : ℕ)
      → Fair (λ xs. (length xs ≡ k) × Chained from xs) (λ n bytes. entries (read n) to from k bytes)
  fair_entries read h zero from = fair_pure (λ xs. (length xs ≡ 0) × Chained from xs) [] (refl, tt)
  fair_entries read h (suc k) from =
      fair_then (P from) (λ xs. (length xs ≡ suc k) × Chained from xs) (λ n bytes. read n from bytes) (λ x n rest. then (entries (read n) to (to x) k rest) (λ xs after. Ok (x ∷ xs, after))) (h from)
      (λ x p. fair_then (λ xs. (length xs ≡ k) × Chained (to x) xs) (λ xs. (length xs ≡ suc k) × Chained from xs) (λ n bytes. entries (read n) to (to x) k bytes) (λ xs n after. Ok (x ∷ xs, after))
      (fair_entries read h k (to x)) (λ xs q. fair_pure (λ xs. (length xs ≡ suc k) × Chained from xs) (x ∷ xs) (ap (λ m. suc m) q.0, (p, q.1))))

abbrev Capacities : List ℕ → Type 0
Capacities xs = (length xs ≤ 4) × Chained (λ from. Between 1 16) (λ x. 0) 0 xs

fair_levels : Fair Capacities levels_of
fair_levels =
    fair_then (Between 0 4) Capacities (λ n bytes. byte_within n 0 4 bytes) (λ k n rest. capacities n k rest) (fair_byte 0 4)
    (λ k p. fair_weaker (λ xs. (length xs ≡ k) × Chained (λ from. Between 1 16) (λ x. 0) 0 xs) Capacities (λ n rest. capacities n k rest) (λ xs q. (omega (arith, q.0, p.1), q.1))
    (fair_entries (λ from. Between 1 16) (λ x. 0) capacity (λ from. fair_byte 1 16) k 0))

abbrev Rising : List ℕ → Type 0
Rising xs = (length xs ≤ 16) × Chained (λ from x. from ≤ x) (λ x. x + 1) 0 xs

fair_defects : Fair Rising defects_of
fair_defects =
    fair_then (Between 0 16) Rising (λ n bytes. byte_within n 0 16 bytes) (λ k n rest. rising n k rest) (fair_byte 0 16)
    (λ k p. fair_weaker (λ xs. (length xs ≡ k) × Chained (λ from x. from ≤ x) (λ x. x + 1) 0 xs) Rising (λ n rest. rising n k rest) (λ xs q. (omega (arith, q.0, p.1), q.1))
    (fair_entries (λ from x. from ≤ x) (λ x. x + 1) number_from fair_number k 0))

fair_single : Fair LawfulUnit single
fair_single = fair_then (Between 1 1) LawfulUnit (λ n bytes. byte_within n 1 1 bytes) (λ u n rest. Ok (Single, rest)) (fair_byte 1 1) (λ u p. fair_pure LawfulUnit Single tt)

fair_striped : Fair LawfulUnit striped
fair_striped =
    fair_then (Between 1 64) LawfulUnit (λ n bytes. byte_within n 1 64 bytes) (λ u n rest. then (byte_within n u u rest) (λ v after. Ok (Striped u, after))) (fair_byte 1 64)
    (λ u p. fair_then (Between u u) LawfulUnit (λ n bytes. byte_within n u u bytes) (λ v n after. Ok (Striped u, after)) (fair_byte u u) (λ v q. fair_pure LawfulUnit (Striped u) p))

abbrev by_count : Bool → ℕ → List ℕ → Reading Images
by_count t n rest = cond t (single n rest) (striped n rest)

fair_count : (t : Bool) → Fair LawfulUnit (by_count t)
fair_count true = fair_single
fair_count false = fair_striped

fair_images : Fair LawfulUnit images_of
fair_images = fair_then (Between 1 2) LawfulUnit (λ n bytes. byte_within n 1 2 bytes) (λ k n rest. by_count (eqb k 1) n rest) (fair_byte 1 2) (λ k p. fair_count (eqb k 1))

-- the rules by index
capacity_at : (xs : List ℕ) → Chained (λ from. Between 1 16) (λ x. 0) 0 xs → (k : ℕ) → k < length xs → (1 ≤ get_or xs k 0) × (get_or xs k 0 ≤ 16)
capacity_at [] h k i = absurd (omega arith)
capacity_at (x ∷ xs) (p, h) zero i = p
capacity_at (x ∷ xs) (p, h) (suc k) i = capacity_at xs h k (omega arith)

rising_from : (from : ℕ) (xs : List ℕ) → Chained (λ from x. from ≤ x) (λ x. x + 1) from xs → (k : ℕ) → k < length xs → from ≤ get_or xs k 0
rising_from from [] h k i = absurd (omega arith)
rising_from from (x ∷ xs) (p, h) zero i = p
rising_from from (x ∷ xs) (p, h) (suc k) i = omega (arith, rising_from (x + 1) xs h k (omega arith))

rising_at : (from : ℕ) (xs : List ℕ) → Chained (λ from x. from ≤ x) (λ x. x + 1) from xs → (j k : ℕ) → j < k → k < length xs → get_or xs j 0 < get_or xs k 0
rising_at from [] h j k l i = absurd (omega arith)
rising_at from (x ∷ xs) (p, h) j zero l i = absurd (omega arith)
rising_at from (x ∷ xs) (p, h) zero (suc k) l i = omega (arith, rising_from (x + 1) xs h k (omega arith))
rising_at from (x ∷ xs) (p, h) (suc j) (suc k) l i = rising_at (x + 1) xs h j k (omega arith) (omega arith)

pub fair_lists : Fair Lawful lists_of
fair_lists =
    fair_then Capacities Lawful levels_of (λ ls n rest. then (images_of n rest) (λ is more. then (defects_of n more) (λ ds end. Ok (record { levels = ls; images = is; defects = ds }, end)))) fair_levels
    (λ ls p. fair_then LawfulUnit Lawful images_of (λ is n more. then (defects_of n more) (λ ds end. Ok (record { levels = ls; images = is; defects = ds }, end))) fair_images
    (λ is u. fair_then Rising Lawful defects_of (λ ds n end. Ok (record { levels = ls; images = is; defects = ds }, end)) fair_defects
    (λ ds q. fair_pure Lawful (record { levels = ls; images = is; defects = ds })
    (record { few_levels = p.0; capacities = capacity_at ls p.1; unit = u; few_defects = q.0; rising = rising_at 0 ds q.1 }))))

lawful_at : (n : ℕ) (bytes : List ℕ) (l : Listed) (end : List ℕ) (r : Reading Listed) → Fair-at Lawful lists_of n bytes r → ◌≡◌ {A = Reading Listed} (Ok (l, end)) r → Lawful l
lawful_at n bytes l end r h e = (subst (λ r. Fair-at Lawful lists_of n bytes r) (sym e) h).0

-- what the three sections list is lawful
pub lists_lawful : (n : ℕ) (bytes : List ℕ) {ls : List ℕ} {more : List ℕ} {is : Images} {rest : List ℕ} {ds : List ℕ} {end : List ℕ} {t u : ℕ}
    → ◌≡◌ {A = Reading (List ℕ)} (Ok (ls, more)) (levels_of n bytes) → t ≡ n → ◌≡◌ {A = Reading Images} (Ok (is, rest)) (images_of t more) → u ≡ t → ◌≡◌ {A = Reading (List ℕ)} (Ok (ds, end)) (defects_of u rest)
    → Lawful (record { levels = ls; images = is; defects = ds })
lists_lawful n bytes {ls} {more} {is} {rest} {ds} {end} a p b q d =
    let b' : ◌≡◌ {A = Reading Images} (Ok (is, rest)) (images_of n more) = b ∙ ap (λ m. images_of m more) p in
    let d' : ◌≡◌ {A = Reading (List ℕ)} (Ok (ds, end)) (defects_of n rest) = d ∙ ap (λ m. defects_of m rest) (q ∙ p) in
    lawful_at n bytes (record { levels = ls; images = is; defects = ds }) end (lists_of n bytes) (fair_lists n bytes) (rw (← a, ← b', ← d'))
