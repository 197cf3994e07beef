-- A text cut at the first byte of a kind, and a trace cut into lines.
use Rattle.std.proofs.Common.{◌≡◌, ℕ, suc, ◌+◌, ◌-◌, Bool, true, false, cond, eqb, ltb, List, [], ◌∷◌, ◌++◌, length, take, drop, position, Some, None, Option, sym, refl, ap, ◌∙◌, inl, inr, arith}
use Rattle.std.specs.List.{position_or_len}
use Rattle.std.proofs.lemmas.List.{take_rest}
use Rattle.std.proofs.lemmas.Bool.{cases_Bool, eqb-true, lt-ltb, le-ltb, ltb-true, ltb-false}
use Rattle.formats.specs.Traces.{cut, fronted, lines, with_byte}

-- the parts before and after a place, where there is one
abbrev at_place : List ℕ → Bool → ℕ → Option (List ℕ × List ℕ)
at_place text some i = cond some (Some (take i text, drop (i + 1) text)) None

abbrev place : ℕ → List ℕ → ℕ
place c text = position_or_len (λ b. eqb b c) text

fronted_place : (b : ℕ) (bs : List ℕ) (some : Bool) (i : ℕ) → fronted b (at_place bs some i) ≡ at_place (b ∷ bs) some (1 + i)
fronted_place b bs true i = let e : 1 + i + 1 ≡ suc (i + 1) = omega arith in let f : 1 + i ≡ suc i = omega arith in rw (e, f)
fronted_place b bs false i = refl

one_more : (n m : ℕ) → ltb n m ≡ ltb (1 + n) (suc m)
one_more n m = elim (cases_Bool (ltb n m)) [ inl t ↦ t ∙ sym (lt-ltb (1 + n) (suc m) (omega (arith, ltb-true n m t))) | inr t ↦ t ∙ sym (le-ltb (1 + n) (suc m) (omega (arith, ltb-false n m t))) ]

cut_place : (c : ℕ) (text : List ℕ) → cut c text ≡ at_place text (ltb (place c text) (length text)) (place c text)
cut_place c [] = refl
cut_place c (b ∷ bs) =
    elim (cases_Bool (eqb b c)) [
      | inl t ↦ rw t (ap (λ t. cond t (Some ([], bs)) None) (sym (lt-ltb 0 (suc (length bs)) (omega arith))))
      | inr t ↦ rw t (ap (λ o. fronted b o) (cut_place c bs) ∙ (fronted_place b bs (ltb (place c bs) (length bs)) (place c bs) ∙ ap (λ t. at_place (b ∷ bs) t (1 + place c bs)) (one_more (place c bs) (length bs))))
    ]

module _ (text : List ℕ) (k : ℕ) where
  some_place : (some : Bool) (i : ℕ) → ◌≡◌ {A = Option ℕ} (Some i) (cond some (Some k) None) → at_place text some k ≡ Some (take i text, drop (i + 1) text)
  some_place true i h = let e : i ≡ k = cc in rw e
  some_place false i h = let z : ◌≡◌ {A = ℕ} 0 1 = cc in absurd (omega arith)

  no_place : (some : Bool) → ◌≡◌ {A = Option ℕ} None (cond some (Some k) None) → at_place text some k ≡ None
  no_place true h = let z : ◌≡◌ {A = ℕ} 0 1 = cc in absurd (omega arith)
  no_place false h = refl

-- what stands before and after the place of the first c
pub cut_found : (c : ℕ) (text : List ℕ) (i : ℕ) → ◌≡◌ {A = Option ℕ} (Some i) (position (λ b. eqb b c) text)
    → ◌≡◌ {A = Option (List ℕ × List ℕ)} (Some (take i text, take (length text - (i + 1)) (drop (i + 1) text))) (cut c text)
cut_found c text i h =
    ap (λ zs. Some (take i text, zs)) (take_rest text (i + 1)) ∙ sym (cut_place c text ∙ some_place text (place c text) (ltb (place c text) (length text)) i h)

pub cut_nowhere : (c : ℕ) (text : List ℕ) → ◌≡◌ {A = Option ℕ} None (position (λ b. eqb b c) text) → ◌≡◌ {A = Option (List ℕ × List ℕ)} None (cut c text)
cut_nowhere c text h = sym (cut_place c text ∙ no_place text (place c text) (ltb (place c text) (length text)) h)

-- the parts that a cut gives
cut_here : (c x : ℕ) (xs : List ℕ) (p : List ℕ × List ℕ) → eqb x c ≡ true → ◌≡◌ {A = Option (List ℕ × List ℕ)} (Some ([], xs)) (Some p) → x ∷ xs ≡ p.0 ++ c ∷ p.1
cut_here c x xs p t h = let q : ◌≡◌ {A = List ℕ × List ℕ} ([], xs) p = cc in ap (λ y. y ∷ xs) (eqb-true x c t) ∙ ap (λ w. w.0 ++ c ∷ w.1) q

cut_later : (c x : ℕ) (xs : List ℕ) (p : List ℕ × List ℕ) (o : Option (List ℕ × List ℕ)) → ((q : List ℕ × List ℕ) → o ≡ Some q → xs ≡ q.0 ++ c ∷ q.1) → fronted x o ≡ Some p
    → x ∷ xs ≡ p.0 ++ c ∷ p.1
cut_later c x xs p None f h = let z : ◌≡◌ {A = ℕ} 0 1 = cc in absurd (omega arith)
cut_later c x xs p (Some q) f h = let r : ◌≡◌ {A = List ℕ × List ℕ} (x ∷ q.0, q.1) p = cc in ap (λ zs. x ∷ zs) (f q refl) ∙ ap (λ w. w.0 ++ c ∷ w.1) r

pub cut_parts : (c : ℕ) (xs : List ℕ) (p : List ℕ × List ℕ) → cut c xs ≡ Some p → xs ≡ p.0 ++ c ∷ p.1
cut_parts c [] p e = let z : ◌≡◌ {A = ℕ} 0 1 = cc in absurd (omega arith)
cut_parts c (x ∷ xs) p e =
    elim (cases_Bool (eqb x c)) [ inl t ↦ cut_here c x xs p t (rw t at e) | inr t ↦ cut_later c x xs p (cut c xs) (λ q h. cut_parts c xs q h) (rw t at e) ]

-- the lines by the first cut
abbrev pub lines_by : List ℕ → Option (List ℕ × List ℕ) → List (Option (List ℕ))
lines_by bs (Some p) = Some p.0 ∷ lines p.1
lines_by [] None = []
lines_by (b ∷ bs) None = None ∷ []

with_later : (b : ℕ) (bs : List ℕ) (o : Option (List ℕ × List ℕ)) → lines bs ≡ lines_by bs o → with_byte b (lines bs) ≡ lines_by (b ∷ bs) (fronted b o)
with_later b bs (Some p) h = ap (λ ls. with_byte b ls) h
with_later b [] None h = refl
with_later b (d ∷ ds) None h = ap (λ ls. with_byte b ls) h

pub lines_cut : (bs : List ℕ) → lines bs ≡ lines_by bs (cut 10 bs)
lines_cut [] = refl
lines_cut (b ∷ bs) = elim (cases_Bool (eqb b 10)) [ inl t ↦ rw t | inr t ↦ rw t (with_later b bs (cut 10 bs) (lines_cut bs)) ]
