-- A level takes an entry in and hands down what has to leave; a block that its row does not have is lifted from below.
use Rattle.std.proofs.Common.{◌≡◌, ℕ, suc, ◌<◌, ◌≤◌, eqb, List, [], ◌∷◌, length, Some, None, sym, refl, ap, ◌∙◌, inl, inr, arith}
use Rattle.std.proofs.lemmas.Bool.{cases_Bool, eqb-true, eqb-false, cond-false as cond_no}
use Rattle.row.specs.Entries.{Entry, RowModel, Lawful, find_entry, without, holding, front, start, full, left}
use Rattle.tier.specs.Levels.{level_model, lost_in}
use Rattle.tier.specs.Lifts.{lift_after, lose_or_below, lifted}
use Rattle.tier.specs.Models.{Model}

pub find_without : (b : ℕ) (es : List Entry) → find_entry b (without b es) ≡ None
find_without b [] = refl
find_without b (e ∷ es) = elim (cases_Bool (eqb e.number b)) [ inl h ↦ rw h (find_without b es) | inr h ↦ rw h (cond_no (eqb e.number b) (Some e) (find_entry b (without b es)) h ∙ find_without b es) ]

pub without_none : (b : ℕ) (es : List Entry) → find_entry b es ≡ None → without b es ≡ es
without_none b [] h = refl
without_none b (e ∷ es) h =
    elim (cases_Bool (eqb e.number b)) [
      | inl k ↦ absurd (let g : Some e ≡ None = rw k at h in let z : ◌≡◌ {A = ℕ} 0 1 = cc in omega arith)
      | inr k ↦ rw k (ap (λ xs. e ∷ xs) (without_none b es (rw k at h)))
    ]

find_start : (b : ℕ) (x : Entry) (xs : List Entry) → find_entry b (x ∷ xs) ≡ None → find_entry b (start x xs) ≡ None
find_start b x [] h = refl
find_start b x (y ∷ ys) h =
    elim (cases_Bool (eqb x.number b)) [
      | inl k ↦ absurd (let g : Some x ≡ None = rw k at h in let z : ◌≡◌ {A = ℕ} 0 1 = cc in omega arith)
      | inr k ↦ rw k (find_start b y ys (rw k at h))
    ]

find_front : (b : ℕ) (xs : List Entry) → find_entry b xs ≡ None → find_entry b (front xs) ≡ None
find_front b [] h = refl
find_front b (x ∷ xs) h = find_start b x xs h

length_start : (x : Entry) (xs : List Entry) → length (start x xs) ≡ length xs
length_start x [] = refl
length_start x (y ∷ ys) = ap suc (length_start y ys)

pub length_less : (b : ℕ) (es : List Entry) → length (without b es) ≤ length es
length_less b [] = omega arith
length_less b (x ∷ xs) = elim (cases_Bool (eqb x.number b)) [ inl k ↦ rw k (omega (arith, length_less b xs)) | inr k ↦ rw k (omega (arith, length_less b xs)) ]

-- a row of at least one place, after its entry of a number is lost and the last has left where it was full
module _ (m : RowModel) (some : 1 ≤ m.capacity) (short : length m.entries ≤ m.capacity) where
  left_room : length (left m).entries < m.capacity
  left_room = elim (cases_Bool (full m)) [ inl h ↦ rw h (fewer m.entries refl (eqb-true (length m.entries) m.capacity h)) | inr h ↦ rw h (not_full (eqb-false (length m.entries) m.capacity h)) ]
    where
      fewer : (es : List Entry) → m.entries ≡ es → length m.entries ≡ m.capacity → length (front m.entries) < m.capacity
      fewer [] e q = absurd (omega (arith, ap length e))
      fewer (x ∷ xs) e q = omega (arith, ap (λ ys. length (front ys)) e, length_start x xs, ap length e)

      not_full : (length m.entries ≡ m.capacity → ⊥) → length m.entries < m.capacity
      not_full n = grind arith

  left_fresh : (b : ℕ) → find_entry b m.entries ≡ None → find_entry b (left m).entries ≡ None
  left_fresh b h = elim (cases_Bool (full m)) [ inl k ↦ rw k (find_front b m.entries h) | inr k ↦ rw k h ]

  left_capacity : (left m).capacity ≡ m.capacity
  left_capacity = elim (cases_Bool (full m)) [ inl k ↦ rw k | inr k ↦ rw k ]

module _ (r : RowModel) (l : Lawful r) (b : ℕ) where
  lost_short : length (lost_in b r).entries ≤ (lost_in b r).capacity
  lost_short = omega (arith, length_less b r.entries, l.room)

  pub room_made : length (left (lost_in b r)).entries < (left (lost_in b r)).capacity
  room_made = omega (arith, left_room (lost_in b r) l.some lost_short, left_capacity (lost_in b r) l.some lost_short)

  pub none_left : find_entry b (left (lost_in b r)).entries ≡ None
  none_left = left_fresh (lost_in b r) l.some lost_short b (find_without b r.entries)

-- lifting what the row does not have
module _ (r : RowModel) (m : Model) (b : ℕ) (none : find_entry b r.entries ≡ None) where
  pub below_after : (len : ℕ) → level_model (lost_in b r) (lift_after m b len) ≡ lift_after (level_model r m) b len
  below_after len =
      ap (λ xs. level_model (holding xs r) (lift_after m b len)) (without_none b r.entries none)
      ∙ elim (cases_Bool (eqb len 256)) [ inl h ↦ rw h (ap (λ o. record { store = m.store; rows = lose_or_below o b r m.rows (lifted b m.rows) }) (sym none)) | inr h ↦ rw h ]
