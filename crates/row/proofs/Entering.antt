-- The entries of a shelf and its frames, after a slot is emptied, filled and saved, and around a slot.
use Rattle.std.proofs.Common.{◌≡◌, ℕ, ◌<◌, ◌≤◌, true, false, cond, eqb, List, [], ◌∷◌, ◌++◌, map, length, get_or, set, is_some, Some, None, Option, unwrap_or, sym, refl, ap, ◌∙◌, inl, inr, arith, MatchOption}
use Rattle.std.proofs.lemmas.List.{length-map, map-append, get_or-set_same, get_or-set_other}
use Rattle.std.proofs.lemmas.Bool.{cases_Bool, eqb-true, eqb-false, eq-eqb, ne_eqb, true≢false, both_ways}
use Rattle.rings.specs.Slots as slots
use Rattle.rings.specs.Slots.{member, distinct, first, last, after}
use Rattle.rings.proofs.Lists.{length_without, member_without, member_end, member_after, after_first}
use Rattle.rings.proofs.Filing.{ring_distinct, ring_low}
use Rattle.row.specs.declared.frame.Frame.{Frame}
use Rattle.row.specs.declared.shelf.Shelf.{Shelf}
use Rattle.row.specs.Frames.{blank, saved_frame}
use Rattle.row.specs.Orders.{order, key}
use Rattle.row.specs.Entries.{find_entry, without, front, save}
use Rattle.row.specs.Held.{Whole, On, Found, Last, entry_in, entries_in, above_in, below_in, before}
use Rattle.row.proofs.Mapped.{map_same, Only, map_without, find_held, find_none, none_holds, last_map, front_map, map_split, without_last, before_next, member_before, member_behind, member_here}

pub entries_is : (s : Shelf) (fs : List Frame) → entries_in s fs ≡ map (entry_in s fs) (order s)
unfolding entries_in
entries_is s fs = refl

above_is : (s : Shelf) (fs : List Frame) (x : ℕ) → above_in s fs x ≡ map (entry_in s fs) (before x (order s))
unfolding above_in
above_is s fs x = refl

below_is : (s : Shelf) (fs : List Frame) (x : ℕ) → below_in s fs x ≡ map (entry_in s fs) (after x (order s))
unfolding below_in
below_is s fs x = refl

pub length_entries : (s : Shelf) (fs : List Frame) → length (entries_in s fs) ≡ length (order s)
length_entries s fs = ap length (entries_is s fs) ∙ length-map (order s) (entry_in s fs)

pub order_low : (s : Shelf) (x : ℕ) → member x (order s) ≡ true → x < 16
order_low s x m = ring_low s.places x 0 (omega arith) m

pub order_distinct : (s : Shelf) → distinct (order s) ≡ true
order_distinct s = ring_distinct s.places 0 (omega arith)

some_value : (o : Option ℕ) → is_some o ≡ true → o ≡ Some (unwrap_or o 0)
some_value None h = absurd (true≢false (sym h))
some_value (Some x) h = refl

has_number : (s : Shelf) (x : ℕ) → member x (order s) ≡ true → is_some (key s x) ≡ true
has_number s x m = sym (s.listed x (order_low s x m)) ∙ m

pub only : (s : Shelf) (fs : List Frame) (x : ℕ) → member x (order s) ≡ true → Only (entry_in s fs) x (order s)
only s fs x mx y my e =
    s.single y x (
      order_low s y my,
      order_low s x mx,
      has_number s y my,
      some_value (key s y) (has_number s y my) ∙ (ap Some e ∙ sym (some_value (key s x) (has_number s x mx))),
    )

entry_same : (s s' : Shelf) (fs fs' : List Frame) (y : ℕ) → key s' y ≡ key s y → get_or fs' y blank ≡ get_or fs y blank → entry_in s' fs' y ≡ entry_in s fs y
entry_same s s' fs fs' y e f = rw (e, f)

-- a slot is emptied
pub released_entries : (s s' : Shelf) (fs : List Frame) (x : ℕ) → On s x → order s' ≡ slots.without x (order s) → ((y : ℕ) → y < 16 → key s' y ≡ cond (eqb y x) None (key s y)) → entries_in s' fs ≡ without (entry_in s fs x).number (entries_in s fs)
released_entries s s' fs x m o k =
    entries_is s' fs ∙ (ap (λ xs. map (entry_in s' fs) xs) o
    ∙ (map_same (entry_in s' fs) (entry_in s fs) (slots.without x (order s)) same
    ∙ (map_without (entry_in s fs) x (order s) (only s fs x m) ∙ sym (ap (λ es. without (entry_in s fs x).number es) (entries_is s fs)))))
  where
    same : (y : ℕ) → member y (slots.without x (order s)) ≡ true → entry_in s' fs y ≡ entry_in s fs y
    same y n =
        let n2 : cond (eqb y x) false (member y (order s)) ≡ true = sym (member_without y x (order s)) ∙ n in
        elim (cases_Bool (eqb y x)) [
          | inl j ↦ absurd (true≢false (sym (rw j at n2)))
          | inr j ↦ let n3 : member y (order s) ≡ true = (rw j at n2) in entry_same s s' fs fs y (k y (order_low s y n3) ∙ rw j) refl
        ]

-- a free slot is filled
pub admitted_entries : (s s' : Shelf) (fs : List Frame) (x b : ℕ) (f : Frame) → length fs ≡ 16 → x < 16 → member x (order s) ≡ false → order s' ≡ x ∷ order s → ((y : ℕ) → y < 16 → key s' y ≡ cond (eqb y x) (Some b) (key s y)) → entries_in s' (set fs x f) ≡ record { number = b; bytes = f.bytes; mark = f.mark } ∷ entries_in s fs
admitted_entries s s' fs x b f wide low free o k =
    let h : key s' x ≡ Some b = k x low ∙ rw (eq-eqb x x refl) in
    let g : get_or (set fs x f) x blank ≡ f = get_or-set_same fs x f blank (omega arith) in
    let e : entry_in s' (set fs x f) x ≡ record { number = b; bytes = f.bytes; mark = f.mark } = rw (h, g) in
    entries_is s' (set fs x f) ∙ (ap (λ xs. map (entry_in s' (set fs x f)) xs) o
    ∙ (ap (λ z. z ∷ map (entry_in s' (set fs x f)) (order s)) e
    ∙ ap (λ es. record { number = b; bytes = f.bytes; mark = f.mark } ∷ es) (map_same (entry_in s' (set fs x f)) (entry_in s fs) (order s) same ∙ sym (entries_is s fs))))
  where
    same : (y : ℕ) → member y (order s) ≡ true → entry_in s' (set fs x f) y ≡ entry_in s fs y
    same y m =
        let ne : y ≡ x → ⊥ = λ q. both_ways (member y (order s)) (ap (λ z. member z (order s)) q ∙ free) m in
        entry_same s s' fs (set fs x f) y (k y (order_low s y m) ∙ rw (ne_eqb y x ne)) (get_or-set_other fs x y f blank ne)

-- a number that no entry names is the number of no slot
pub none_keyed : (s : Shelf) (fs : List Frame) (b : ℕ) → find_entry b (entries_in s fs) ≡ None → (y : ℕ) → y < 16 → key s y ≡ Some b → ⊥
none_keyed s fs b e y low k =
    none_holds (entry_in s fs) b (order s) (sym (ap (λ es. find_entry b es) (entries_is s fs)) ∙ e) y (s.listed y low ∙ ap is_some k) (ap (λ o. unwrap_or o 0) k)

pub found : (s : Shelf) (fs : List Frame) (b : ℕ) (r : Option ℕ) → MatchOption r ((x : ℕ) → x < 16 → key s x ≡ Some b → ⊥) (λ x. (x < 16) × (key s x ≡ Some b)) → Found s fs b r
found s fs b None f =
    let q = find_none (entry_in s fs) b (order s) (λ y m e. f y (order_low s y m) (some_value (key s y) (has_number s y m) ∙ ap Some e)) in
    (ap (λ es. find_entry b es) (entries_is s fs) ∙ q.0, ap (λ es. without b es) (entries_is s fs) ∙ (q.1 ∙ sym (entries_is s fs)))
found s fs b (Some x) f =
    let m : member x (order s) ≡ true = s.listed x f.0 ∙ ap is_some f.1 in
    let n : unwrap_or (key s x) 0 ≡ b = ap (λ o. unwrap_or o 0) f.1 in
    (m, n, ap (λ z. find_entry z (entries_in s fs)) (sym n) ∙ (ap (λ es. find_entry (entry_in s fs x).number es) (entries_is s fs) ∙ find_held (entry_in s fs) x (order s) (only s fs x m) m))

pub entries_none : (s : Shelf) (fs : List Frame) → order s ≡ [] → entries_in s fs ≡ []
entries_none s fs e = entries_is s fs ∙ ap (λ xs. map (entry_in s fs) xs) e

-- the last slot
pub last_slot : (s : Shelf) (fs : List Frame) (r : Option ℕ) → r ≡ last (order s) → Last s fs r
last_slot s fs None e = entries_none s fs (go (order s) e)
  where
    go : (xs : List ℕ) → ◌≡◌ {A = Option ℕ} None (last xs) → xs ≡ []
    go [] q = refl
    go (x ∷ xs) q = let z : ◌≡◌ {A = ℕ} 0 1 = cc in absurd (omega arith)
last_slot s fs (Some x) e =
    let m : member x (order s) ≡ true = go (order s) e in (
      m,
      ap (λ es. last es) (entries_is s fs) ∙ last_map (entry_in s fs) x (order s) (sym e),
      ap (λ es. without (entry_in s fs x).number es) (entries_is s fs)
          ∙ (sym (map_without (entry_in s fs) x (order s) (only s fs x m))
          ∙ (ap (λ xs. map (entry_in s fs) xs) (without_last x (order s) (order_distinct s) (sym e)) ∙ (front_map (entry_in s fs) (order s) ∙ sym (ap (λ es. front es) (entries_is s fs))))),
    )
  where
    go : (xs : List ℕ) → Some x ≡ last xs → member x xs ≡ true
    go [] q = let z : ◌≡◌ {A = ℕ} 0 1 = cc in absurd (omega arith)
    go (y ∷ ys) q = let w : x ≡ slots.end y ys = cc in ap (λ z. member z (y ∷ ys)) w ∙ member_end y ys

-- a slot parts the entries
pub entries_around : (s : Shelf) (fs : List Frame) (x : ℕ) → On s x → entries_in s fs ≡ above_in s fs x ++ entry_in s fs x ∷ below_in s fs x
entries_around s fs x m =
    entries_is s fs ∙ (map_split (entry_in s fs) x (order s) m ∙ rw (above_is s fs x, below_is s fs x))

pub first_slot : (s : Shelf) (fs : List Frame) (r : Option ℕ) → r ≡ first (order s) → MatchOption r (entries_in s fs ≡ []) (λ x. On s x × (above_in s fs x ≡ []) × (entries_in s fs ≡ entry_in s fs x ∷ below_in s fs x))
first_slot s fs r e = go (order s) refl r e
  where
    go : (xs : List ℕ) → order s ≡ xs → (r : Option ℕ) → r ≡ first xs → MatchOption r (entries_in s fs ≡ []) (λ x. On s x × (above_in s fs x ≡ []) × (entries_in s fs ≡ entry_in s fs x ∷ below_in s fs x))
    go [] o None q = entries_none s fs o
    go [] o (Some x) q = let z : ◌≡◌ {A = ℕ} 0 1 = cc in absurd (omega arith)
    go (x ∷ xs) o None q = let z : ◌≡◌ {A = ℕ} 0 1 = cc in absurd (omega arith)
    go (x ∷ xs) o (Some y) q =
        let w : x ≡ y = cc in
        let p : order s ≡ y ∷ xs = o ∙ ap (λ v. v ∷ xs) w in
        let m : member y (order s) ≡ true = ap (λ zs. member y zs) p ∙ member_here y xs in
        let a : above_in s fs y ≡ [] = above_is s fs y ∙ (ap (λ zs. map (entry_in s fs) (before y zs)) p ∙ rw (eq-eqb y y refl)) in
        (m, a, entries_around s fs y m ∙ ap (λ es. es ++ entry_in s fs y ∷ below_in s fs y) a)

pub next_slot : (s : Shelf) (fs : List Frame) (x : ℕ) (r : Option ℕ) → On s x → r ≡ first (after x (order s)) → MatchOption r (below_in s fs x ≡ []) (λ y. On s y × (above_in s fs y ≡ above_in s fs x ++ entry_in s fs x ∷ []) × (below_in s fs x ≡ entry_in s fs y ∷ below_in s fs y))
next_slot s fs x r m e = go (after x (order s)) refl r e
  where
    go : (zs : List ℕ) → after x (order s) ≡ zs → (r : Option ℕ) → r ≡ first zs → MatchOption r (below_in s fs x ≡ []) (λ y. On s y × (above_in s fs y ≡ above_in s fs x ++ entry_in s fs x ∷ []) × (below_in s fs x ≡ entry_in s fs y ∷ below_in s fs y))
    go [] o None q = below_is s fs x ∙ ap (λ xs. map (entry_in s fs) xs) o
    go [] o (Some y) q = let z : ◌≡◌ {A = ℕ} 0 1 = cc in absurd (omega arith)
    go (z ∷ zs) o None q = let n : ◌≡◌ {A = ℕ} 0 1 = cc in absurd (omega arith)
    go (z ∷ zs) o (Some y) q =
        let w : z ≡ y = cc in
        let p : after x (order s) ≡ y ∷ zs = o ∙ ap (λ v. v ∷ zs) w in
        let n : member y (order s) ≡ true = member_after x y (order s) zs p in (
          n,
          above_is s fs y ∙ (ap (λ xs. map (entry_in s fs) xs) (before_next x y (order s) zs (order_distinct s) m p)
              ∙ (map-append (entry_in s fs) (before x (order s)) (x ∷ []) ∙ ap (λ es. es ++ entry_in s fs x ∷ []) (sym (above_is s fs x)))),
          below_is s fs x ∙ (ap (λ xs. map (entry_in s fs) xs) p ∙ ap (λ es. entry_in s fs y ∷ es) (ap (λ xs. map (entry_in s fs) xs) (sym (after_first x y (order s) zs (order_distinct s) p)) ∙ sym (below_is s fs y))),
        )

-- a slot is saved
module _ (s : Shelf) (fs : List Frame) (x : ℕ) (wide : length fs ≡ 16) (here : On s x) where
  abbrev fs' : List Frame
  fs' = set fs x (saved_frame (get_or fs x blank))

  pub saved_held : entry_in s fs' x ≡ save (entry_in s fs x)
  saved_held = let l = order_low s x here in let g : get_or fs' x blank ≡ saved_frame (get_or fs x blank) = get_or-set_same fs x (saved_frame (get_or fs x blank)) blank (omega arith) in rw g

  other : (y : ℕ) → (y ≡ x → ⊥) → entry_in s fs' y ≡ entry_in s fs y
  other y ne = entry_same s s fs fs' y refl (get_or-set_other fs x y (saved_frame (get_or fs x blank)) blank ne)

  pub saved_above : above_in s fs' x ≡ above_in s fs x
  saved_above = above_is s fs' x ∙ (map_same (entry_in s fs') (entry_in s fs) (before x (order s)) (λ y m. other y (member_before y x (order s) m).1) ∙ sym (above_is s fs x))

  pub saved_below : below_in s fs' x ≡ below_in s fs x
  saved_below = below_is s fs' x ∙ (map_same (entry_in s fs') (entry_in s fs) (after x (order s)) (λ y m. other y (member_behind y x (order s) (order_distinct s) m).1) ∙ sym (below_is s fs x))

  pub saved_entries : entries_in s fs' ≡ above_in s fs x ++ save (entry_in s fs x) ∷ below_in s fs x
  saved_entries = entries_around s fs' x here ∙ rw (saved_held, saved_above, saved_below)

pub whole_set : (fs : List Frame) (x : ℕ) (f : Frame) → length fs ≡ 16 → x < 16 → length f.bytes ≡ 256 → Whole fs → Whole (set fs x f)
whole_set fs x f wide low h w y ly =
    elim (cases_Bool (eqb y x)) [
      | inl k ↦ let e = eqb-true y x k in rw (e, get_or-set_same fs x f blank (omega arith)) h
      | inr k ↦ rw (get_or-set_other fs x y f blank (eqb-false y x k)) (w y ly)
    ]

-- a slot that is emptied leaves no more slots in order
pub released_fewer : (s : Shelf) (x : ℕ) (xs : List ℕ) → xs ≡ slots.without x (order s) → length xs ≤ length (order s)
released_fewer s x xs o =
    let l = length_without x (order s) (order_distinct s) in
    let e = ap length o in
    omega arith
