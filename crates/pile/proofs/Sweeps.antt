-- A sync saves every unsaved entry, moves none, and leaves the stored blocks as they are wanted.
use Rattle.std.proofs.Common.{◌≡◌, ℕ, true, false, eqb, List, [], ◌∷◌, ◌++◌, map, length, Some, None, Option, sym, refl, ap, ◌∙◌, subst, inl, inr, arith}
use lib.ListN.{length-map}
use Rattle.std.specs.Option.{option_map}
use Rattle.std.proofs.lemmas.List.{map-append}
use Rattle.std.proofs.lemmas.Bool.{cases_Bool, eqb-true, eqb-false, eq-eqb, ne_eqb, cond-true as cond_yes, cond-false as cond_no}
use Rattle.device.specs.Answers.{answer, checked}
use Rattle.device.specs.Store.{Store, put}
use Rattle.row.specs.Entries.{Entry, is_saved, find_entry as look, RowModel}
use Rattle.tier.specs.Demotions.{Outcome, raised}
use Rattle.tier.specs.Syncs.{Swept, saved_copy, before, saved_or_stop, swept, resumed, synced}
use Rattle.tier.proofs.Sweeping.{saved_same}
use Rattle.pile.specs.Recency.{flat, numbers}
use Rattle.pile.proofs.Agrees.{fits, Agree, Ready}
use Rattle.pile.proofs.Entries.{names, distinct, look_fresh, distinct_head, distinct_right}
use Rattle.pile.proofs.Settling.{Packed, caps}

pub answer_same : (s t : Store) → s.size ≡ t.size → s.sound ≡ t.sound → (b n : ℕ) → answer s b n ≡ answer t b n
answer_same s t e f b n = ap (λ k. checked n b k (s.sound b)) e ∙ ap (λ g. checked n b t.size (g b)) f

pub ready_same : (s t : Store) → s.size ≡ t.size → s.sound ≡ t.sound → (es : List Entry) → Ready s es → Ready t es
ready_same s t e f [] h = tt
ready_same s t e f (x ∷ xs) h = (sym (answer_same s t e f x.number (length x.bytes)) ∙ h.0, ready_same s t e f xs h.1)

ready_left : (s : Store) (xs ys : List Entry) → Ready s (xs ++ ys) → Ready s xs
ready_left s [] ys r = tt
ready_left s (x ∷ xs) ys r = (r.0, ready_left s xs ys r.1)

ready_right : (s : Store) (xs ys : List Entry) → Ready s (xs ++ ys) → Ready s ys
ready_right s [] ys r = r
ready_right s (x ∷ xs) ys r = ready_right s xs ys r.1

-- the first entry is out of the way: its stored block is as wanted
module _ (e : Entry) (zs : List Entry) (s t : Store) (w : ℕ → List ℕ) (a : Agree (e ∷ zs) s w) (fresh : names e.number zs ≡ false)
    (here : t.at e.number ≡ w e.number) (others : (n : ℕ) → eqb e.number n ≡ false → t.at n ≡ s.at n) where
  pub agree_rest : Agree zs t w
  agree_rest n = elim (cases_Bool (eqb e.number n)) [
    | inl h ↦ at_it (eqb-true e.number n h)
    | inr h ↦ subst (λ x. fits (look n zs) x (w n)) (sym (others n h)) (subst (λ o. fits o (s.at n) (w n)) (cond_no (eqb e.number n) (Some e) (look n zs) h) (a n))
  ]
    where
      at_it : e.number ≡ n → fits (look n zs) (t.at n) (w n)
      at_it q = subst (λ o. fits o (t.at n) (w n)) (sym (look_fresh n zs (ap (λ k. names k zs) (sym q) ∙ fresh))) (ap t.at (sym q) ∙ (here ∙ ap w q))

first_fits : (e : Entry) (zs : List Entry) (s : Store) (w : ℕ → List ℕ) → Agree (e ∷ zs) s w → (e.bytes ≡ w e.number) × (is_saved e.mark ≡ true → s.at e.number ≡ w e.number)
first_fits e zs s w a = subst (λ o. fits o (s.at e.number) (w e.number)) (cond_yes (eqb e.number e.number) (Some e) (look e.number zs) (eq-eqb e.number e.number refl)) (a e.number)

-- what sweeping a row leaves, the entries of the rows below it being `rest`
pub record Clean (es rest : List Entry) (s : Store) (w : ℕ → List ℕ) (x : Swept) : Type 0 where
  pub entries : x.entries ≡ map saved_copy es
  pub stopped : x.stopped ≡ None
  pub agree : Agree rest x.store w
  pub size : x.store.size ≡ s.size
  pub sound : x.store.sound ≡ s.sound

pub clean : (es rest : List Entry) (s : Store) (w : ℕ → List ℕ) → Ready s es → distinct (es ++ rest) ≡ true → Agree (es ++ rest) s w → Clean es rest s w (swept es s)
clean [] rest s w r once a = record { entries = refl; stopped = refl; agree = a; size = refl; sound = refl }
clean (e ∷ es) rest s w r once a =
    elim (cases_Bool (is_saved e.mark)) [
      | inl h ↦ subst (λ x. Clean (e ∷ es) rest s w x) (sym (cond_yes (is_saved e.mark) (before e (swept es s)) unsaved_way h)) (kept h (clean es rest s w r.1 p.1))
      | inr h ↦ subst (λ x. Clean (e ∷ es) rest s w x) (sym (cond_no (is_saved e.mark) (before e (swept es s)) unsaved_way h ∙ ap (λ q. saved_or_stop q e es s (swept es (put s e.number e.bytes))) r.0))
          (written (clean es rest (put s e.number e.bytes) w r.1 p.1))
    ]
  where
    p : (names e.number (es ++ rest) ≡ false) × (distinct (es ++ rest) ≡ true)
    p = distinct_head e (es ++ rest) once

    unsaved_way : Swept
    unsaved_way = saved_or_stop (answer s e.number (length e.bytes)) e es s (swept es (put s e.number e.bytes))

    f : (e.bytes ≡ w e.number) × (is_saved e.mark ≡ true → s.at e.number ≡ w e.number)
    f = first_fits e (es ++ rest) s w a

    kept : is_saved e.mark ≡ true → (Agree (es ++ rest) s w → Clean es rest s w (swept es s)) → Clean (e ∷ es) rest s w (before e (swept es s))
    kept h go =
        let c = go (agree_rest e (es ++ rest) s s w a p.0 (f.1 h) (λ n k. refl)) in
        record { entries = ap (λ x. x ∷ (swept es s).entries) (saved_same e h) ∙ ap (λ xs. saved_copy e ∷ xs) c.entries; stopped = c.stopped; agree = c.agree; size = c.size; sound = c.sound }

    written : (Agree (es ++ rest) (put s e.number e.bytes) w → Clean es rest (put s e.number e.bytes) w (swept es (put s e.number e.bytes)))
        → Clean (e ∷ es) rest s w (before (saved_copy e) (swept es (put s e.number e.bytes)))
    written go =
        let c = go (agree_rest e (es ++ rest) s (put s e.number e.bytes) w a p.0 (cond_yes (eqb e.number e.number) e.bytes (s.at e.number) (eq-eqb e.number e.number refl) ∙ f.0)
        (λ n k. cond_no (eqb n e.number) e.bytes (s.at n) (ne_eqb n e.number (λ q. eqb-false e.number n k (sym q))))) in
        record { entries = ap (λ xs. saved_copy e ∷ xs) c.entries; stopped = c.stopped; agree = c.agree; size = c.size; sound = c.sound }

-- rows of which every entry is saved
abbrev pub cleaned : List RowModel → List RowModel
cleaned [] = []
cleaned (r ∷ rs) = record { capacity = r.capacity; entries = map saved_copy r.entries } ∷ cleaned rs

pub record Cleaned (rs : List RowModel) (s : Store) (w : ℕ → List ℕ) (o : Outcome) : Type 0 where
  pub rows : o.rows ≡ cleaned rs
  pub none : o.dropped ≡ None
  pub agree : Agree [] o.store w
  pub size : o.store.size ≡ s.size
  pub sound : o.store.sound ≡ s.sound

-- rows that hold no more than the stored blocks take
pub sweep_all : (rs : List RowModel) (s : Store) (w : ℕ → List ℕ) → Ready s (flat rs) → distinct (flat rs) ≡ true → Agree (flat rs) s w → Cleaned rs s w (synced rs s)
sweep_all [] s w r once a = record { rows = refl; none = refl; agree = a; size = refl; sound = refl }
sweep_all (q ∷ rs) s w r once a = go (sweep_all rs (swept q.entries s).store w)
  where
    c : Clean q.entries (flat rs) s w (swept q.entries s)
    c = clean q.entries (flat rs) s w (ready_left s q.entries (flat rs) r) once a

    go : (Ready (swept q.entries s).store (flat rs) → distinct (flat rs) ≡ true → Agree (flat rs) (swept q.entries s).store w → Cleaned rs (swept q.entries s).store w (synced rs (swept q.entries s).store))
        → Cleaned (q ∷ rs) s w (synced (q ∷ rs) s)
    go below =
        let b = below (ready_same s (swept q.entries s).store (sym c.size) (sym c.sound) (flat rs) (ready_right s q.entries (flat rs) r)) (distinct_right q.entries (flat rs) once) c.agree in
        subst (λ o. Cleaned (q ∷ rs) s w o)
        (sym (ap (λ o. resumed q o (swept q.entries s).entries (swept q.entries s).store rs (synced rs (swept q.entries s).store)) c.stopped))
        (record { rows = (λ i. record { capacity = q.capacity; entries = c.entries i } ∷ b.rows i); none = ap (λ o. option_map raised o) b.none; agree = b.agree; size = b.size ∙ c.size; sound = b.sound ∙ c.sound })

pub flat_cleaned : (rs : List RowModel) → flat (cleaned rs) ≡ map saved_copy (flat rs)
flat_cleaned [] = refl
flat_cleaned (r ∷ rs) = ap (λ xs. map saved_copy r.entries ++ xs) (flat_cleaned rs) ∙ sym (map-append saved_copy r.entries (flat rs))

pub packed_cleaned : (rs : List RowModel) → Packed rs → Packed (cleaned rs)
packed_cleaned [] p = tt
packed_cleaned (r ∷ rs) p =
    (omega (arith, p.0, length-map r.entries saved_copy), λ l. flat_cleaned rs ∙ ap (λ xs. map saved_copy xs) (p.1 (omega (arith, l, length-map r.entries saved_copy))), packed_cleaned rs p.2)

pub caps_cleaned : (rs : List RowModel) → caps (cleaned rs) ≡ caps rs
caps_cleaned [] = refl
caps_cleaned (r ∷ rs) = ap (λ xs. r.capacity ∷ xs) (caps_cleaned rs)

pub numbers_saved : (es : List Entry) → numbers (map saved_copy es) ≡ numbers es
numbers_saved [] = refl
numbers_saved (e ∷ es) = ap (λ xs. e.number ∷ xs) (numbers_saved es)

pub ready_saved : (s : Store) (es : List Entry) → Ready s es → Ready s (map saved_copy es)
ready_saved s [] r = tt
ready_saved s (e ∷ es) r = (r.0, ready_saved s es r.1)

pub agree_saved : (es : List Entry) (s t : Store) (w : ℕ → List ℕ) → Agree es s w → Agree [] t w → Agree (map saved_copy es) t w
agree_saved es s t w a k n = subst (λ o. fits o (t.at n) (w n)) (sym (look_saved es)) (copy (look n es) (a n))
  where
    look_saved : (xs : List Entry) → look n (map saved_copy xs) ≡ option_map saved_copy (look n xs)
    look_saved [] = refl
    look_saved (x ∷ xs) = elim (cases_Bool (eqb x.number n)) [ inl h ↦ rw h | inr h ↦ rw h (look_saved xs) ]

    copy : (o : Option Entry) → fits o (s.at n) (w n) → fits (option_map saved_copy o) (t.at n) (w n)
    copy None f = k n
    copy (Some e) f = (f.0, λ _. k n)
