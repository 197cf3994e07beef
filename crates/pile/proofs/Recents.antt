-- Numbers in order of recency, and how packed rows hold a front of them.
use Rattle.std.proofs.Common.{◌≡◌, ℕ, zero, suc, ◌+◌, ◌<◌, ◌≤◌, Bool, true, false, not, ◌&&◌, ◌||◌, eqb, List, [], ◌∷◌, ◌++◌, length, take, sym, refl, ap, ◌∙◌, inl, inr, arith, length-append}
use Rattle.std.proofs.lemmas.List.{take_all, take-take}
use Rattle.std.proofs.lemmas.Bool.{cases_Bool, cases_lt, and_parts, and_from, or_parts, or_from, not-true, not_from_false, eqb-true, cond-false as cond_no}
use Rattle.row.specs.Entries.{Entry, without, RowModel}
use Rattle.pile.specs.Recency.{has, leave, once, flat, numbers, room, total}
use Rattle.pile.proofs.Entries.{names, distinct}
use Rattle.pile.proofs.Settling.{Packed, caps, take_front}

abbrev pub nodup : List ℕ → Bool
nodup [] = true
nodup (x ∷ xs) = not (has x xs) && nodup xs

pub numbers_without : (b : ℕ) (es : List Entry) → numbers (without b es) ≡ leave b (numbers es)
numbers_without b [] = refl
numbers_without b (e ∷ es) =
    elim (cases_Bool (eqb e.number b)) [ inl h ↦ rw h (numbers_without b es) | inr h ↦ rw h (ap (λ xs. e.number ∷ xs) (numbers_without b es)) ]

pub has_numbers : (b : ℕ) (es : List Entry) → has b (numbers es) ≡ names b es
has_numbers b [] = refl
has_numbers b (e ∷ es) = ap (λ t. eqb e.number b || t) (has_numbers b es)

pub distinct_numbers : (es : List Entry) → distinct es ≡ nodup (numbers es)
distinct_numbers [] = refl
distinct_numbers (e ∷ es) = ap (λ t. not t && distinct es) (sym (has_numbers e.number es)) ∙ ap (λ t. not (has e.number (numbers es)) && t) (distinct_numbers es)

pub has_leave : (b : ℕ) (xs : List ℕ) → has b (leave b xs) ≡ false
has_leave b [] = refl
has_leave b (x ∷ xs) = elim (cases_Bool (eqb x b)) [ inl h ↦ rw h (has_leave b xs) | inr h ↦ rw h (or_from (eqb x b) (has b (leave b xs)) h (has_leave b xs)) ]

pub leave_fresh : (b : ℕ) (xs : List ℕ) → has b xs ≡ false → leave b xs ≡ xs
leave_fresh b [] h = refl
leave_fresh b (x ∷ xs) h = let p = or_parts (eqb x b) (has b xs) h in cond_no (eqb x b) (leave b xs) (x ∷ leave b xs) p.0 ∙ ap (λ ys. x ∷ ys) (leave_fresh b xs p.1)

pub fresh_leave : (a b : ℕ) (xs : List ℕ) → has a xs ≡ false → has a (leave b xs) ≡ false
fresh_leave a b [] h = refl
fresh_leave a b (x ∷ xs) h =
    let p = or_parts (eqb x a) (has a xs) h in
    elim (cases_Bool (eqb x b)) [ inl k ↦ rw k (fresh_leave a b xs p.1) | inr k ↦ rw k (or_from (eqb x a) (has a (leave b xs)) p.0 (fresh_leave a b xs p.1)) ]

pub nodup_head : (x : ℕ) (xs : List ℕ) → nodup (x ∷ xs) ≡ true → (has x xs ≡ false) × (nodup xs ≡ true)
nodup_head x xs h = let p = and_parts (not (has x xs)) (nodup xs) h in (not-true (has x xs) p.0, p.1)

pub nodup_cons : (x : ℕ) (xs : List ℕ) → has x xs ≡ false → nodup xs ≡ true → nodup (x ∷ xs) ≡ true
nodup_cons x xs h k = and_from (not (has x xs)) (nodup xs) (not_from_false (has x xs) h) k

pub nodup_leave : (b : ℕ) (xs : List ℕ) → nodup xs ≡ true → nodup (leave b xs) ≡ true
nodup_leave b [] h = refl
nodup_leave b (x ∷ xs) h =
    let p = nodup_head x xs h in
    elim (cases_Bool (eqb x b)) [ inl k ↦ rw k (nodup_leave b xs p.1) | inr k ↦ rw k (nodup_cons x (leave b xs) (fresh_leave x b xs p.0) (nodup_leave b xs p.1)) ]

pub nodup_once : (bs : List ℕ) → nodup (once bs) ≡ true
nodup_once [] = refl
nodup_once (b ∷ bs) = nodup_cons b (leave b (once bs)) (has_leave b (once bs)) (nodup_leave b (once bs) (nodup_once bs))

pub fresh_take : (a n : ℕ) (xs : List ℕ) → has a xs ≡ false → has a (take n xs) ≡ false
fresh_take a zero xs h = refl
fresh_take a (suc n) [] h = refl
fresh_take a (suc n) (x ∷ xs) h = let p = or_parts (eqb x a) (has a xs) h in or_from (eqb x a) (has a (take n xs)) p.0 (fresh_take a n xs p.1)

pub nodup_take : (n : ℕ) (xs : List ℕ) → nodup xs ≡ true → nodup (take n xs) ≡ true
nodup_take zero xs h = refl
nodup_take (suc n) [] h = refl
nodup_take (suc n) (x ∷ xs) h = let p = nodup_head x xs h in nodup_cons x (take n xs) (fresh_take x n xs p.0) (nodup_take n xs p.1)

-- leaving a number out of a front of n + 1, cut to n
leave_take : (b n : ℕ) (xs : List ℕ) → nodup xs ≡ true → take n (leave b (take (suc n) xs)) ≡ take n (leave b xs)
leave_take b n [] h = refl
leave_take b n (x ∷ xs) h = elim (cases_Bool (eqb x b)) [ inl k ↦ rw k (same k) | inr k ↦ rw k (more n (λ m. leave_take b m xs (nodup_head x xs h).1)) ]
  where
    same : eqb x b ≡ true → take n (leave b (take n xs)) ≡ take n (leave b xs)
    same k =
        let f : has b xs ≡ false = ap (λ y. has y xs) (sym (eqb-true x b k)) ∙ (nodup_head x xs h).0 in
        ap (λ ys. take n ys) (leave_fresh b (take n xs) (fresh_take b n xs f)) ∙ (take-take n n xs (omega arith) ∙ ap (λ ys. take n ys) (sym (leave_fresh b xs f)))

    more : (m : ℕ) → ((k : ℕ) → take k (leave b (take (suc k) xs)) ≡ take k (leave b xs)) → take m (x ∷ leave b (take m xs)) ≡ take m (x ∷ leave b xs)
    more zero go = refl
    more (suc m) go = ap (λ ys. x ∷ ys) (go m)

-- the front of n most recent, after one more touch
pub recent_more : (b n : ℕ) (bs : List ℕ) → take n (b ∷ leave b (take n (once bs))) ≡ take n (once (b ∷ bs))
recent_more b zero bs = refl
recent_more b (suc n) bs = ap (λ ys. b ∷ ys) (leave_take b n (once bs) (nodup_once bs))

-- the first rows hold a front of what all hold
pub flat_take : (rs : List RowModel) (j : ℕ) → Packed rs → flat (take j rs) ≡ take (room (take j rs)) (flat rs)
flat_take rs zero p = refl
flat_take [] (suc j) p = refl
flat_take (r ∷ rs) (suc j) p =
    elim (cases_lt (length r.entries) r.capacity) [ inl l ↦ part l (flat_take rs j p.2) | inr l ↦ full l (flat_take rs j p.2) ]
  where
    full : r.capacity ≤ length r.entries → flat (take j rs) ≡ take (room (take j rs)) (flat rs)
        → r.entries ++ flat (take j rs) ≡ take (r.capacity + room (take j rs)) (r.entries ++ flat rs)
    full l go =
        let e : r.capacity ≡ length r.entries = omega (arith, p.0, l) in
        ap (λ xs. r.entries ++ xs) go ∙ (sym (take_front r.entries (flat rs) (room (take j rs))) ∙ ap (λ n. take (n + room (take j rs)) (r.entries ++ flat rs)) (sym e))

    part : length r.entries < r.capacity → flat (take j rs) ≡ take (room (take j rs)) (flat rs)
        → r.entries ++ flat (take j rs) ≡ take (r.capacity + room (take j rs)) (r.entries ++ flat rs)
    part l go =
        let e : flat rs ≡ [] = p.1 l in
        let f : flat (take j rs) ≡ [] = go ∙ (ap (λ xs. take (room (take j rs)) xs) e ∙ take_all (room (take j rs)) [] (omega arith)) in
        ap (λ xs. r.entries ++ xs) (f ∙ sym e) ∙ sym (take_all (r.capacity + room (take j rs)) (r.entries ++ flat rs) (omega (arith, length-append r.entries (flat rs), ap length e, l)))

-- the room of rows is the sum of their capacities
pub room_caps : (rs : List RowModel) → room rs ≡ total (caps rs)
room_caps [] = refl
room_caps (r ∷ rs) = ap (λ n. r.capacity + n) (room_caps rs)

take_caps : (j : ℕ) (rs : List RowModel) → caps (take j rs) ≡ take j (caps rs)
take_caps zero rs = refl
take_caps (suc j) [] = refl
take_caps (suc j) (r ∷ rs) = ap (λ xs. r.capacity ∷ xs) (take_caps j rs)

pub same_room : (rs qs : List RowModel) (j : ℕ) → caps rs ≡ caps qs → room (take j rs) ≡ room (take j qs)
same_room rs qs j e =
    room_caps (take j rs) ∙ (ap total (take_caps j rs ∙ (ap (λ xs. take j xs) e ∙ sym (take_caps j qs))) ∙ sym (room_caps (take j qs)))

pub same_room_all : (rs qs : List RowModel) → caps rs ≡ caps qs → room rs ≡ room qs
same_room_all rs qs e = room_caps rs ∙ (ap total e ∙ sym (room_caps qs))
