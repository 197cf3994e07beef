-- A block lifted out of packed rows and demoted from the top leaves packed rows, and what they hold is the entry in front of the rest, cut to their room.
use Rattle.std.proofs.Common.{◌≡◌, ℕ, suc, ◌+◌, ◌<◌, ◌≤◌, true, false, eqb, List, [], ◌∷◌, ◌++◌, map, length, take, drop, Some, None, Option, sym, refl, ap, ◌∙◌, subst, inl, inr, append_assoc, arith, length-append}
use Rattle.std.specs.Option.{option_map}
use Rattle.std.proofs.lemmas.List.{take_all, drop_all}
use Rattle.std.proofs.lemmas.Bool.{cases_Bool, cases_lt, le-leb, lt-leb, or_left, or_right, or_cases, eq-eqb, eqb-true}
use Rattle.device.specs.Store.{Store}
use Rattle.rings.specs.Slots.{last}
use Rattle.row.specs.Entries.{Entry, is_saved, find_entry as look, without, RowModel, front}
use Rattle.tier.specs.declared.faults.Dropped.{Dropped}
use Rattle.tier.specs.Demotions.{Outcome, settled, in_front, over, passed, demoted, raised}
use Rattle.tier.specs.Lifts.{lifted, lose_in, lose_or_below}
use Rattle.pile.specs.Recency.{flat, room}
use Rattle.pile.proofs.Entries.{names, distinct, option_cases, without_fresh, names_parts, without_append, look_none, look_some, distinct_left, distinct_right, distinct_apart, length_without, init_last, fresh_without}

-- rows below a row that has room are empty
abbrev pub Packed : List RowModel → Type 0
Packed [] = Unit {0}
Packed (r ∷ rs) = (length r.entries ≤ r.capacity) × (length r.entries < r.capacity → flat rs ≡ []) × Packed rs

-- the capacities of rows
abbrev pub caps : List RowModel → List ℕ
caps rs = map (λ r. r.capacity) rs

-- what the stored blocks come to where these entries fall off the last row: at most one does
abbrev pub fall_store : List Entry → Store → Store
fall_store [] s = s
fall_store (f ∷ fs) s = (settled f s).store

abbrev pub fall_drop : List Entry → Store → Option Dropped
fall_drop [] s = None
fall_drop (f ∷ fs) s = (settled f s).dropped

settled_rows : (v : Entry) (s : Store) → (settled v s).rows ≡ []
settled_rows v s = elim (cases_Bool (is_saved v.mark)) [ inl h ↦ rw h | inr h ↦ rw h ]

row : ℕ → List Entry → RowModel
row c es = record { capacity = c; entries = es }

module _ (r : RowModel) (rs : List RowModel) (s : Store) (v : Entry) where
  demoted_room : length (in_front v r) ≤ r.capacity
      → demoted (r ∷ rs) s v ≡ record { rows = record { capacity = r.capacity; entries = in_front v r } ∷ rs; store = s; dropped = None }
  demoted_room h = rw (le-leb (length (in_front v r)) r.capacity h)

  demoted_full : r.capacity < length (in_front v r) → (w : Entry) → last (in_front v r) ≡ Some w
      → demoted (r ∷ rs) s v ≡ over record { capacity = r.capacity; entries = front (in_front v r) } (demoted rs s w)
  demoted_full h w e = rw (lt-leb (length (in_front v r)) r.capacity h) (ap (λ o. over record { capacity = r.capacity; entries = front (in_front v r) } (passed o (λ u. demoted rs s u) rs s)) e)

-- rows without entries
no_entries : (b : ℕ) (rs : List RowModel) → flat rs ≡ [] → lifted b rs ≡ rs
no_entries b [] h = refl
no_entries b (r ∷ rs) h = none r.entries refl (λ g. no_entries b rs g)
  where
    none : (es : List Entry) → r.entries ≡ es → (flat rs ≡ [] → lifted b rs ≡ rs) → lifted b (r ∷ rs) ≡ r ∷ rs
    none [] e go = ap (λ xs. lose_or_below (look b xs) b r rs (lifted b rs)) e ∙ ap (λ xs. r ∷ xs) (go (ap (λ xs. xs ++ flat rs) (sym e) ∙ h))
    none (x ∷ xs) e go = absurd (let g : x ∷ (xs ++ flat rs) ≡ [] = ap (λ ys. ys ++ flat rs) (sym e) ∙ h in let z : ◌≡◌ {A = ℕ} 0 1 = cc in omega arith)

pub take_front : (xs ys : List Entry) (n : ℕ) → take (length xs + n) (xs ++ ys) ≡ xs ++ take n ys
take_front [] ys n = ap (λ k. take k ys) (omega arith)
take_front (x ∷ xs) ys n = let e : length (x ∷ xs) + n ≡ suc (length xs + n) = omega arith in rw e (ap (λ zs. x ∷ zs) (take_front xs ys n))

pub drop_front : (xs ys : List Entry) (n : ℕ) → drop (length xs + n) (xs ++ ys) ≡ drop n ys
drop_front [] ys n = ap (λ k. drop k ys) (omega arith)
drop_front (x ∷ xs) ys n = let e : length (x ∷ xs) + n ≡ suc (length xs + n) = omega arith in rw e (drop_front xs ys n)

pub packed_fits : (rs : List RowModel) → Packed rs → length (flat rs) ≤ room rs
packed_fits [] p = omega arith
packed_fits (r ∷ rs) p = omega (arith, p.0, packed_fits rs p.2, length-append r.entries (flat rs))

-- every number that the first list names, the second does not
Apart : List Entry → List Entry → Type 0
Apart xs ys = (n : ℕ) → names n xs ≡ true → names n ys ≡ false

last_named : (x : Entry) (xs : List Entry) (w : Entry) → last (x ∷ xs) ≡ Some w → names w.number (x ∷ xs) ≡ true
last_named x [] w h = let q : x ≡ w = cc in or_left (eqb x.number w.number) false (eq-eqb x.number w.number (ap (λ e. e.number) q))
last_named x (y ∷ ys) w h = or_right (eqb x.number w.number) (names w.number (y ∷ ys)) (last_named y ys w h)

front_apart : (v : Entry) (es ys : List Entry) → names v.number ys ≡ false → Apart es ys → Apart (v ∷ es) ys
unfolding Apart
front_apart v es ys h k n e =
    elim (or_cases (eqb v.number n) (names n es) e) [ inl t ↦ (ap (λ m. names m ys) (sym (eqb-true v.number n t)) ∙ h) | inr t ↦ k n t ]

-- rows after a demotion, of which X is what they held with the new entry in front
pub record Settled (held : List Entry) (rs : List RowModel) (s : Store) (o : Outcome) : Type 0 where
  pub holds : flat o.rows ≡ take (room rs) held
  pub packed : Packed o.rows
  pub same_caps : caps o.rows ≡ caps rs
  pub stored : o.store ≡ fall_store (drop (room rs) held) s
  pub taken : fall_drop (drop (room rs) held) s ≡ None → o.dropped ≡ None

module _ (b : ℕ) (r : RowModel) (rs : List RowModel) (s : Store) (v : Entry) (p : Packed (r ∷ rs)) (once : distinct (flat (r ∷ rs)) ≡ true)
    (fresh : names v.number (without b (flat (r ∷ rs))) ≡ false) where
  parts : (names v.number (without b r.entries) ≡ false) × (names v.number (without b (flat rs)) ≡ false)
  parts = names_parts v.number (without b r.entries) (without b (flat rs)) (ap (λ xs. names v.number xs) (sym (without_append b r.entries (flat rs))) ∙ fresh)

  -- the top row has the block
  module _ (e : Entry) (h : look b r.entries ≡ Some e) where
    named : names b r.entries ≡ true
    named = look_some b r.entries e h

    same_length : length (v ∷ without b r.entries) ≡ length r.entries
    same_length = length_without b r.entries (distinct_left r.entries (flat rs) once) named

    new_front : in_front v (lose_in b r) ≡ v ∷ without b r.entries
    new_front = ap (λ xs. v ∷ xs) (without_fresh v.number (without b r.entries) parts.0)

    found_out : demoted (lifted b (r ∷ rs)) s v ≡ record { rows = record { capacity = r.capacity; entries = v ∷ without b r.entries } ∷ rs; store = s; dropped = None }
    found_out =
        ap (λ o. demoted (lose_or_below o b r rs (lifted b rs)) s v) h
        ∙ (demoted_room (lose_in b r) rs s v (omega (arith, ap length new_front, same_length, p.0))
        ∙ ap (λ xs. record { rows = record { capacity = r.capacity; entries = xs } ∷ rs; store = s; dropped = None }) new_front)

    found_held : v ∷ without b (flat (r ∷ rs)) ≡ (v ∷ without b r.entries) ++ flat rs
    found_held =
        ap (λ xs. v ∷ xs) (without_append b r.entries (flat rs)
        ∙ ap (λ xs. without b r.entries ++ xs) (without_fresh b (flat rs) (distinct_apart b r.entries (flat rs) once named)))

    found_fits : length (v ∷ without b (flat (r ∷ rs))) ≤ room (r ∷ rs)
    found_fits = omega (arith, ap length found_held, length-append (v ∷ without b r.entries) (flat rs), same_length, p.0, packed_fits rs p.2)

    found_settled : Settled (v ∷ without b (flat (r ∷ rs))) (r ∷ rs) s (demoted (lifted b (r ∷ rs)) s v)
    found_settled = subst (λ o. Settled (v ∷ without b (flat (r ∷ rs))) (r ∷ rs) s o) (sym found_out) (record {
      holds = sym (take_all (room (r ∷ rs)) (v ∷ without b (flat (r ∷ rs))) found_fits ∙ found_held);
      packed = (omega (arith, same_length, p.0), λ k. p.1 (omega (arith, same_length)), p.2);
      same_caps = refl;
      stored = ap (λ xs. fall_store xs s) (sym (drop_all (room (r ∷ rs)) (v ∷ without b (flat (r ∷ rs))) found_fits));
      taken = λ k. refl;
    })

  -- the top row does not have it
  module _ (h : look b r.entries ≡ None) where
    same_front : without b r.entries ≡ r.entries
    same_front = without_fresh b r.entries (look_none b r.entries h)

    top_fresh : names v.number r.entries ≡ false
    top_fresh = ap (λ xs. names v.number xs) (sym same_front) ∙ parts.0

    in_top : in_front v r ≡ v ∷ r.entries
    in_top = ap (λ xs. v ∷ xs) (without_fresh v.number r.entries top_fresh)

    passed_by : demoted (lifted b (r ∷ rs)) s v ≡ demoted (r ∷ lifted b rs) s v
    passed_by = ap (λ o. demoted (lose_or_below o b r rs (lifted b rs)) s v) h

    below_held : v ∷ without b (flat (r ∷ rs)) ≡ (v ∷ r.entries) ++ without b (flat rs)
    below_held = ap (λ xs. v ∷ xs) (without_append b r.entries (flat rs) ∙ ap (λ xs. xs ++ without b (flat rs)) same_front)

    -- and has room: the rows below it are empty
    module _ (l : length r.entries < r.capacity) where
      none_below : flat rs ≡ []
      none_below = p.1 l

      room_out : demoted (lifted b (r ∷ rs)) s v ≡ record { rows = record { capacity = r.capacity; entries = v ∷ r.entries } ∷ rs; store = s; dropped = None }
      room_out =
          passed_by ∙ (ap (λ xs. demoted (r ∷ xs) s v) (no_entries b rs none_below)
          ∙ (demoted_room r rs s v (omega (arith, ap length in_top, l))
          ∙ ap (λ xs. record { rows = record { capacity = r.capacity; entries = xs } ∷ rs; store = s; dropped = None }) in_top))

      room_held : v ∷ without b (flat (r ∷ rs)) ≡ (v ∷ r.entries) ++ flat rs
      room_held = below_held ∙ ap (λ xs. (v ∷ r.entries) ++ xs) (ap (λ xs. without b xs) none_below ∙ sym none_below)

      room_fits : length (v ∷ without b (flat (r ∷ rs))) ≤ room (r ∷ rs)
      room_fits = omega (arith, ap length room_held, length-append (v ∷ r.entries) (flat rs), ap length none_below, l)

      room_settled : Settled (v ∷ without b (flat (r ∷ rs))) (r ∷ rs) s (demoted (lifted b (r ∷ rs)) s v)
      room_settled = subst (λ o. Settled (v ∷ without b (flat (r ∷ rs))) (r ∷ rs) s o) (sym room_out) (record {
        holds = sym (take_all (room (r ∷ rs)) (v ∷ without b (flat (r ∷ rs))) room_fits ∙ room_held);
        packed = (omega (arith, l), λ k. none_below, p.2);
        same_caps = refl;
        stored = ap (λ xs. fall_store xs s) (sym (drop_all (room (r ∷ rs)) (v ∷ without b (flat (r ∷ rs))) room_fits));
        taken = λ k. refl;
      })

    -- and is full: its last entry goes down
    module _ (l : r.capacity ≤ length r.entries) where
      down : (w : Entry) × (last (v ∷ r.entries) ≡ Some w) × (front (v ∷ r.entries) ++ w ∷ [] ≡ v ∷ r.entries)
      down = init_last v r.entries

      init_length : length (front (v ∷ r.entries)) ≡ r.capacity
      init_length = omega (arith, ap length down.2, length-append (front (v ∷ r.entries)) (down.0 ∷ []), p.0, l)

      below_fresh : names down.0.number (without b (flat rs)) ≡ false
      unfolding Apart
      below_fresh =
          front_apart v r.entries (without b (flat rs)) parts.1 (λ n e. fresh_without n b (flat rs) (distinct_apart n r.entries (flat rs) once e))
          down.0.number (last_named v r.entries down.0 down.1)

      full_out : demoted (lifted b (r ∷ rs)) s v ≡ over record { capacity = r.capacity; entries = front (v ∷ r.entries) } (demoted (lifted b rs) s down.0)
      full_out =
          passed_by ∙ (demoted_full r (lifted b rs) s v (omega (arith, ap length in_top, l)) down.0 (ap last in_top ∙ down.1)
          ∙ ap (λ xs. over record { capacity = r.capacity; entries = front xs } (demoted (lifted b rs) s down.0)) in_top)

      full_held : v ∷ without b (flat (r ∷ rs)) ≡ front (v ∷ r.entries) ++ (down.0 ∷ without b (flat rs))
      full_held = below_held ∙ (ap (λ xs. xs ++ without b (flat rs)) (sym down.2) ∙ append_assoc (front (v ∷ r.entries)) (down.0 ∷ []) (without b (flat rs)))

      module _ (below : Settled (down.0 ∷ without b (flat rs)) rs s (demoted (lifted b rs) s down.0)) where
        all_room : room (r ∷ rs) ≡ length (front (v ∷ r.entries)) + room rs
        all_room = ap (λ n. n + room rs) (sym init_length)

        full_taken : take (room (r ∷ rs)) (v ∷ without b (flat (r ∷ rs))) ≡ front (v ∷ r.entries) ++ take (room rs) (down.0 ∷ without b (flat rs))
        full_taken =
            ap (λ n. take n (v ∷ without b (flat (r ∷ rs)))) all_room ∙ (ap (λ xs. take (length (front (v ∷ r.entries)) + room rs) xs) full_held
            ∙ take_front (front (v ∷ r.entries)) (down.0 ∷ without b (flat rs)) (room rs))

        full_left : drop (room (r ∷ rs)) (v ∷ without b (flat (r ∷ rs))) ≡ drop (room rs) (down.0 ∷ without b (flat rs))
        full_left =
            ap (λ n. drop n (v ∷ without b (flat (r ∷ rs)))) all_room ∙ (ap (λ xs. drop (length (front (v ∷ r.entries)) + room rs) xs) full_held
            ∙ drop_front (front (v ∷ r.entries)) (down.0 ∷ without b (flat rs)) (room rs))

        full_settled : Settled (v ∷ without b (flat (r ∷ rs))) (r ∷ rs) s (demoted (lifted b (r ∷ rs)) s v)
        full_settled = subst (λ o. Settled (v ∷ without b (flat (r ∷ rs))) (r ∷ rs) s o) (sym full_out) (record {
          holds = ap (λ xs. front (v ∷ r.entries) ++ xs) below.holds ∙ sym full_taken;
          packed = (omega (arith, init_length), λ k. absurd (omega (arith, init_length, k)), below.packed);
          same_caps = ap (λ xs. r.capacity ∷ xs) below.same_caps;
          stored = below.stored ∙ ap (λ xs. fall_store xs s) (sym full_left);
          taken = λ k. ap (λ o. option_map raised o) (below.taken (ap (λ xs. fall_drop xs s) (sym full_left) ∙ k));
        })

-- every touch: the block is lifted from wherever it is, and its entry is demoted from the top
pub settle : (b : ℕ) (rs : List RowModel) (s : Store) (v : Entry) → Packed rs → distinct (flat rs) ≡ true → names v.number (without b (flat rs)) ≡ false
    → Settled (v ∷ without b (flat rs)) rs s (demoted (lifted b rs) s v)
settle b [] s v p once fresh = record {
  holds = ap flat (settled_rows v s);
  packed = subst Packed (sym (settled_rows v s)) tt;
  same_caps = ap caps (settled_rows v s);
  stored = refl;
  taken = λ h. h;
}
settle b (r ∷ rs) s v p once fresh =
    elim (option_cases (look b r.entries)) [
      | inr k ↦ found_settled b r rs s v p once fresh k.0 k.1
      | inl h ↦ elim (cases_lt (length r.entries) r.capacity) [
        | inl l ↦ room_settled b r rs s v p once fresh h l
        | inr l ↦ full_settled b r rs s v p once fresh h l
            (settle b rs s (down b r rs s v p once fresh h l).0 p.2 (distinct_right r.entries (flat rs) once) (below_fresh b r rs s v p once fresh h l))
      ]
    ]
