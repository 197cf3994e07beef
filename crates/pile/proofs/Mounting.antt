-- Which rows have an entry, as their first places tell.
use Rattle.std.proofs.Common.{◌≡◌, ℕ, zero, suc, ◌+◌, Bool, true, false, ◌||◌, ltb, List, [], ◌∷◌, ◌++◌, length, is_some, Ok, refl, ap, ◌∙◌, inl, inr, arith}
use Rattle.std.specs.List.{list_any, range_with_len}
use Rattle.std.proofs.lemmas.Bool.{cases_Bool, ne_eqb, or_parts, true≢false}
use Rattle.row.specs.Entries.{Entry, RowModel}
use Rattle.tier.specs.Models.{Model, LawfulModel}
use Rattle.tier.specs.Questions.{entry_of}
use Rattle.pile.specs.Laws.{Mountable}
use Rattle.pile.specs.Mounts.{some, has_entry, mount_answer}
use Rattle.pile.specs.Recency.{flat}

-- the first place of the top row
first_of : (r : RowModel) (rs : List RowModel) (es : List Entry) → r.entries ≡ es → is_some (entry_of (r ∷ rs) 1 1) ≡ some es
first_of r rs [] q = rw q
first_of r rs (e ∷ es) q = rw q

deeper : (r : RowModel) (rs : List RowModel) (i : ℕ) → entry_of (r ∷ rs) (i + 1 + 1) 1 ≡ entry_of rs (i + 1) 1
deeper r rs i = rw (ne_eqb (i + 1 + 1) 1 (λ e. omega arith)) (ap (λ j. entry_of rs j 1) (omega arith))

any_up : (f : ℕ → Bool) (a n : ℕ) → list_any f (range_with_len (a + 1) n) ≡ list_any (λ i. f (i + 1)) (range_with_len a n)
any_up f a zero = refl
any_up f a (suc n) = ap (λ t. f (a + 1) || t) (any_up f (a + 1) n)

-- an entry at any first place
pub any_first : (rs : List RowModel) → list_any (λ i. is_some (entry_of rs (i + 1) 1)) (range_with_len 0 (length rs)) ≡ has_entry rs
any_first [] = refl
any_first (r ∷ rs) = λ j. first_of r rs r.entries refl j || rest (any_first rs) j
  where
    rest : list_any (λ i. is_some (entry_of rs (i + 1) 1)) (range_with_len 0 (length rs)) ≡ has_entry rs
        → list_any (λ i. is_some (entry_of (r ∷ rs) (i + 1) 1)) (range_with_len 1 (length rs)) ≡ has_entry rs
    rest go = any_up (λ i. is_some (entry_of (r ∷ rs) (i + 1) 1)) 0 (length rs)
        ∙ (ap (λ (f : ℕ → Bool). list_any f (range_with_len 0 (length rs))) (λ j i. is_some (deeper r rs i j)) ∙ go)

none_in : (es : List Entry) → some es ≡ false → es ≡ []
none_in [] h = refl
none_in (e ∷ es) h = absurd (true≢false h)

-- no entry at all
pub flat_empty : (rs : List RowModel) → has_entry rs ≡ false → flat rs ≡ []
flat_empty [] h = refl
flat_empty (r ∷ rs) h = let p = or_parts (some r.entries) (has_entry rs) h in λ i. none_in r.entries p.0 i ++ flat_empty rs p.1 i

-- a tier that is not refused can be mounted
pub mountable : (m : Model) → LawfulModel m → mount_answer m ≡ Ok tt → Mountable m
mountable m l h = record { lawful = l; empty = elim (cases_Bool (has_entry m.rows)) [ inl k ↦ absurd (never k) | inr k ↦ flat_empty m.rows k ] }
  where
    never : has_entry m.rows ≡ true → ⊥
    never k = elim (cases_Bool (ltb 8 (length m.rows))) [
      | inl g ↦ let z : ◌≡◌ {A = ℕ} 0 1 = cc (rw (g, mount_answer) at h) in omega arith
      | inr g ↦ let z : ◌≡◌ {A = ℕ} 0 1 = cc (rw (g, k, mount_answer) at h) in omega arith
    ]
