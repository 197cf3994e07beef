-- One touch keeps what holds from mounting on.
use Rattle.std.proofs.Common.{◌≡◌, ℕ, zero, suc, ◌+◌, ◌<◌, ◌≤◌, true, false, cond, eqb, List, [], ◌∷◌, ◌++◌, length, take, drop, Some, None, Ok, Option, sym, refl, ap, ◌∙◌, subst, inl, inr, arith, length-drop}
use lib.ListN.{length-map}
use Rattle.std.proofs.lemmas.List.{take_all, take-take, take-map, take-append-drop, append-nil}
use Rattle.std.proofs.ByRecursion.{All-take, All-drop}
use Rattle.std.proofs.lemmas.Bool.{cases_Bool}
use Rattle.device.specs.Answers.{answer}
use Rattle.device.specs.Store.{Store}
use Rattle.row.specs.Entries.{Entry, is_saved, find_entry as look, without, RowModel}
use Rattle.tier.specs.Lifts.{Found, found, or_below}
use Rattle.tier.specs.Models.{Model}
use Rattle.tier.proofs.Intake.{length_less}
use Rattle.pile.specs.Bare.{Bare}
use Rattle.pile.specs.Piles.{Pile, touches, counted, moved, touched}
use Rattle.pile.specs.Recency.{has, leave, once, within, flat, numbers, room, total}
use Rattle.pile.proofs.Agrees.{Agree, Ready, ready_without, agree_front, agree_fall, settled_taken, settled_size, settled_sound}
use Rattle.pile.proofs.Entries.{names, distinct, option_cases, look_some, names_without, distinct_cons, distinct_without}
use Rattle.pile.proofs.Hits.{hit, hits_count, length_hit}
use Rattle.pile.proofs.Recents.{numbers_without, has_numbers, distinct_numbers, nodup, nodup_once, nodup_take, recent_more, flat_take, same_room, same_room_all}
use Rattle.pile.proofs.Sweeps.{answer_same, ready_same}
use Rattle.pile.proofs.Settling.{Packed, caps, fall_store, fall_drop, packed_fits, Settled, settle}

pub record Inv (m : Model) (p : Pile) (d : Bare) : Type 0 where
  pub packed : Packed p.tier.rows
  pub same_caps : caps p.tier.rows ≡ caps m.rows
  pub recent : numbers (flat p.tier.rows) ≡ take (room p.tier.rows) (once d.trail)
  pub agree : Agree (flat p.tier.rows) p.tier.store d.store.at
  pub ready : Ready d.store (flat p.tier.rows)
  pub size : p.tier.store.size ≡ d.store.size
  pub sound : p.tier.store.sound ≡ d.store.sound
  pub whole : (b : ℕ) → b < d.store.size → length (d.store.at b) ≡ 256
  pub many : length p.hits ≡ length p.tier.rows
  pub served : (j : ℕ) → total (take j p.hits) ≡ within (room (take j p.tier.rows)) d.trail
  pub all : touches p ≡ length d.trail

look_left : (b : ℕ) (xs ys : List Entry) (e : Entry) → look b xs ≡ Some e → look b (xs ++ ys) ≡ Some e
look_left b [] ys e h = absurd (let z : ◌≡◌ {A = ℕ} 0 1 = cc in omega arith)
look_left b (x ∷ xs) ys e h = elim (cases_Bool (eqb x.number b)) [ inl k ↦ rw k (rw k at h) | inr k ↦ rw k (look_left b xs ys e (rw k at h)) ]

look_past : (b : ℕ) (xs ys : List Entry) → look b xs ≡ None → look b (xs ++ ys) ≡ look b ys
look_past b [] ys h = refl
look_past b (x ∷ xs) ys h =
    elim (cases_Bool (eqb x.number b)) [ inl k ↦ absurd (let g : Some x ≡ None = rw k at h in let z : ◌≡◌ {A = ℕ} 0 1 = cc in omega arith) | inr k ↦ rw k (look_past b xs ys (rw k at h)) ]

abbrev pub entry_in : Option Found → Option Entry
entry_in None = None
entry_in (Some f) = Some f.entry

-- the entry that is found is the one that the rows hold
pub found_look : (b : ℕ) (rs : List RowModel) → entry_in (found b rs) ≡ look b (flat rs)
found_look b [] = refl
found_look b (r ∷ rs) = elim (option_cases (look b r.entries)) [
  | inr k ↦ (ap (λ o. entry_in (or_below o (found b rs))) k.1 ∙ sym (look_left b r.entries (flat rs) k.0 k.1))
  | inl k ↦ (ap (λ o. entry_in (or_below o (found b rs))) k ∙ (deep (found b rs) ∙ (found_look b rs ∙ sym (look_past b r.entries (flat rs) k))))
]
  where
    deep : (q : Option Found) → entry_in (or_below None q) ≡ entry_in q
    deep None = refl
    deep (Some f) = refl

counted_hits : (q : Option Found) (m : Model) (p : Pile) → (counted q m p).hits ≡ hit q p.hits
counted_hits None m p = refl
counted_hits (Some f) m p = refl

pub counted_tier : (q : Option Found) (m : Model) (p : Pile) → (counted q m p).tier ≡ m
counted_tier None m p = refl
counted_tier (Some f) m p = refl

take_whole : {X : Type 0} (xs : List X) (n : ℕ) → n ≡ length xs → take n xs ≡ xs
take_whole xs n e = take_all n xs (omega (arith, e))

touches_more : (b : ℕ) (m : Model) (p : Pile) → length p.hits ≡ length p.tier.rows → touches (counted (found b p.tier.rows) m p) ≡ suc (touches p)
touches_more b m p l = go (found b p.tier.rows) refl
  where
    all_hits : total (hit (found b p.tier.rows) p.hits) ≡ cond (names b (flat p.tier.rows)) 1 0 + total p.hits
    all_hits =
        ap total (sym (take_whole (hit (found b p.tier.rows) p.hits) (length p.hits) (sym (length_hit (found b p.tier.rows) p.hits))))
        ∙ (hits_count b p.tier.rows p.hits (length p.hits) l
        ∙ (ap (λ xs. cond (names b (flat xs)) 1 0 + total (take (length p.hits) p.hits)) (take_whole p.tier.rows (length p.hits) l)
        ∙ ap (λ xs. cond (names b (flat p.tier.rows)) 1 0 + total xs) (take_whole p.hits (length p.hits) refl)))

    go : (q : Option Found) → found b p.tier.rows ≡ q → touches (counted (found b p.tier.rows) m p) ≡ suc (touches p)
    go None h =
        ap (λ o. touches (counted o m p)) h ∙ omega arith
    go (Some f) h =
        let n : names b (flat p.tier.rows) ≡ true = look_some b (flat p.tier.rows) f.entry (sym (found_look b p.tier.rows) ∙ ap entry_in h) in
        let e : total (hit (Some f) p.hits) ≡ 1 + total p.hits = ap (λ o. total (hit o p.hits)) (sym h) ∙ (all_hits ∙ ap (λ t. cond t 1 0 + total p.hits) n) in
        ap (λ o. touches (counted o m p)) h ∙ omega (arith, e)

pub room_take : (j : ℕ) (rs : List RowModel) → room (take j rs) ≤ room rs
room_take zero rs = omega arith
room_take (suc j) [] = omega arith
room_take (suc j) (r ∷ rs) = omega (arith, room_take j rs)

pub same_count : (rs qs : List RowModel) → caps rs ≡ caps qs → length rs ≡ length qs
same_count rs qs h = sym (length-map rs (λ r. r.capacity)) ∙ (ap length h ∙ length-map qs (λ r. r.capacity))

-- a touch that puts the entry e in front, where the bare device comes to hold t
module _ (m : Model) (p : Pile) (d : Bare) (inv : Inv m p d) (e : Entry) (t : Store) (t_size : t.size ≡ d.store.size) (t_sound : t.sound ≡ d.store.sound)
    (takes : answer d.store e.number (length e.bytes) ≡ Ok tt) (bytes : e.bytes ≡ t.at e.number)
    (saved : is_saved e.mark ≡ true → p.tier.store.at e.number ≡ t.at e.number) (others : (n : ℕ) → eqb e.number n ≡ false → t.at n ≡ d.store.at n)
    (t_whole : (b : ℕ) → b < t.size → length (t.at b) ≡ 256) where
  once_each : distinct (flat p.tier.rows) ≡ true
  once_each = distinct_numbers (flat p.tier.rows) ∙ (ap nodup inv.recent ∙ nodup_take (room p.tier.rows) (once d.trail) (nodup_once d.trail))

  -- what the rows hold with the entry in front, before they are cut to their room
  abbrev held : List Entry
  held = e ∷ without e.number (flat p.tier.rows)

  out : Settled held p.tier.rows p.tier.store (moved p e)
  out = settle e.number p.tier.rows p.tier.store e inv.packed once_each (names_without e.number (flat p.tier.rows))

  held_once : distinct held ≡ true
  held_once = distinct_cons e (without e.number (flat p.tier.rows)) (names_without e.number (flat p.tier.rows)) (distinct_without e.number (flat p.tier.rows) once_each)

  held_agrees : Agree held p.tier.store t.at
  held_agrees = agree_front (flat p.tier.rows) p.tier.store d.store.at t.at e inv.agree bytes saved others

  held_ready : Ready d.store held
  held_ready = (takes, ready_without d.store e.number (flat p.tier.rows) inv.ready)

  at_most_one : length (drop (room p.tier.rows) held) ≤ 1
  at_most_one = omega (arith, length-drop (room p.tier.rows) held, length_less e.number (flat p.tier.rows), packed_fits p.tier.rows inv.packed)

  cut : take (room p.tier.rows) held ++ drop (room p.tier.rows) held ≡ held
  cut = take-append-drop (room p.tier.rows) held

  pub record Fallen (fs : List Entry) : Type 0 where
    pub agrees : Agree (take (room p.tier.rows) held) (fall_store fs p.tier.store) t.at
    pub size : (fall_store fs p.tier.store).size ≡ p.tier.store.size
    pub sound : (fall_store fs p.tier.store).sound ≡ p.tier.store.sound
    pub none : fall_drop fs p.tier.store ≡ None

  fallen : (fs : List Entry) → drop (room p.tier.rows) held ≡ fs → length fs ≤ 1 → Fallen fs
  fallen [] h l = record {
    agrees = subst (λ es. Agree es p.tier.store t.at) (sym (sym (append-nil (take (room p.tier.rows) held)) ∙ (ap (λ xs. take (room p.tier.rows) held ++ xs) (sym h) ∙ cut))) held_agrees;
    size = refl;
    sound = refl;
    none = refl;
  }
  fallen (f ∷ (g ∷ gs)) h l = absurd (omega arith)
  fallen (f ∷ []) h l =
      let whole : take (room p.tier.rows) held ++ f ∷ [] ≡ held = ap (λ xs. take (room p.tier.rows) held ++ xs) (sym h) ∙ cut in
      let r : Ready d.store (f ∷ []) = subst (λ es. Ready d.store es) h (All-drop (λ x. answer d.store x.number (length x.bytes) ≡ Ok tt) (room p.tier.rows) held held_ready) in
      let ok : answer p.tier.store f.number (length f.bytes) ≡ Ok tt = answer_same p.tier.store d.store inv.size inv.sound f.number (length f.bytes) ∙ r.0 in
      record {
        agrees = agree_fall (take (room p.tier.rows) held) f p.tier.store t.at ok (ap distinct whole ∙ held_once) (subst (λ es. Agree es p.tier.store t.at) (sym whole) held_agrees);
        size = settled_size f p.tier.store ok;
        sound = settled_sound f p.tier.store ok;
        none = settled_taken f p.tier.store ok;
      }

  fell : Fallen (drop (room p.tier.rows) held)
  fell = fallen (drop (room p.tier.rows) held) refl at_most_one

  -- the stored blocks refuse nothing
  pub touch_taken : (moved p e).dropped ≡ None
  touch_taken = out.taken fell.none

  new_recent : numbers (flat (moved p e).rows) ≡ take (room (moved p e).rows) (once (e.number ∷ d.trail))
  new_recent =
      ap numbers out.holds ∙ (sym (take-map (λ x. x.number) (room p.tier.rows) held)
      ∙ (ap (λ xs. take (room p.tier.rows) (e.number ∷ xs)) (numbers_without e.number (flat p.tier.rows) ∙ ap (λ xs. leave e.number xs) inv.recent)
      ∙ (recent_more e.number (room p.tier.rows) d.trail
      ∙ ap (λ n. take n (once (e.number ∷ d.trail))) (sym (same_room_all (moved p e).rows p.tier.rows out.same_caps)))))

  top_names : (j : ℕ) → names e.number (flat (take j p.tier.rows)) ≡ has e.number (take (room (take j p.tier.rows)) (once d.trail))
  top_names j =
      sym (has_numbers e.number (flat (take j p.tier.rows)))
      ∙ ap (λ xs. has e.number xs) (ap numbers (flat_take p.tier.rows j inv.packed)
      ∙ (sym (take-map (λ x. x.number) (room (take j p.tier.rows)) (flat p.tier.rows))
      ∙ (ap (λ xs. take (room (take j p.tier.rows)) xs) inv.recent
      ∙ take-take (room (take j p.tier.rows)) (room p.tier.rows) (once d.trail) (room_take j p.tier.rows))))

  new_served : (j : ℕ) → total (take j (hit (found e.number p.tier.rows) p.hits)) ≡ within (room (take j (moved p e).rows)) (e.number ∷ d.trail)
  new_served j =
      hits_count e.number p.tier.rows p.hits j inv.many
      ∙ (ap (λ b. cond b 1 0 + total (take j p.hits)) (top_names j)
      ∙ (ap (λ n. cond (has e.number (take (room (take j p.tier.rows)) (once d.trail))) 1 0 + n) (inv.served j)
      ∙ ap (λ n. within n (e.number ∷ d.trail)) (sym (same_room (moved p e).rows p.tier.rows j out.same_caps))))

  new_tier : (touched p e).tier ≡ record { store = (moved p e).store; rows = (moved p e).rows }
  new_tier = counted_tier (found e.number p.tier.rows) record { store = (moved p e).store; rows = (moved p e).rows } p

  new_hits : (touched p e).hits ≡ hit (found e.number p.tier.rows) p.hits
  new_hits = counted_hits (found e.number p.tier.rows) record { store = (moved p e).store; rows = (moved p e).rows } p

  settled_agrees : Agree (flat (moved p e).rows) (moved p e).store t.at
  settled_agrees =
      subst (λ es. Agree es (moved p e).store t.at) (sym out.holds) (subst (λ s. Agree (take (room p.tier.rows) held) s t.at) (sym out.stored) fell.agrees)

  settled_ready : Ready t (flat (moved p e).rows)
  settled_ready =
      subst (λ es. Ready t es) (sym out.holds) (All-take (λ x. answer t x.number (length x.bytes) ≡ Ok tt) (room p.tier.rows) held
      (ready_same d.store t (sym t_size) (sym t_sound) held held_ready))

  -- what holds of a pile over a tier that is put in place of its own
  Over : Model → Type 0
  Over x = (Packed x.rows × (caps x.rows ≡ caps m.rows)) × ((numbers (flat x.rows) ≡ take (room x.rows) (once (e.number ∷ d.trail)))
      × (Agree (flat x.rows) x.store t.at × (Ready t (flat x.rows) × ((x.store.size ≡ t.size) × ((x.store.sound ≡ t.sound)
      × ((length (hit (found e.number p.tier.rows) p.hits) ≡ length x.rows)
      × ((j : ℕ) → total (take j (hit (found e.number p.tier.rows) p.hits)) ≡ within (room (take j x.rows)) (e.number ∷ d.trail))))))))

  over : Over record { store = (moved p e).store; rows = (moved p e).rows }
  unfolding Over
  over = (
    (out.packed, out.same_caps ∙ inv.same_caps),
    (
      new_recent,
      (
        settled_agrees,
        (
          settled_ready,
          (
            ap (λ s. s.size) out.stored ∙ (fell.size ∙ (inv.size ∙ sym t_size)),
            (
              ap (λ s. s.sound) out.stored ∙ (fell.sound ∙ (inv.sound ∙ sym t_sound)),
              (length_hit (found e.number p.tier.rows) p.hits ∙ (inv.many ∙ sym (same_count (moved p e).rows p.tier.rows out.same_caps)), new_served),
            ),
          ),
        ),
      ),
    ),
  )

  pub touch_kept : Inv m (touched p e) record { store = t; trail = e.number ∷ d.trail }
  unfolding Over
  touch_kept =
      let o = subst Over (sym new_tier) over in
      record {
        packed = o.0.0;
        same_caps = o.0.1;
        recent = o.1.0;
        agree = o.1.1.0;
        ready = o.1.1.1.0;
        size = o.1.1.1.1.0;
        sound = o.1.1.1.1.1.0;
        whole = t_whole;
        many = ap length new_hits ∙ o.1.1.1.1.1.1.0;
        served = λ j. ap (λ hs. total (take j hs)) new_hits ∙ o.1.1.1.1.1.1.1 j;
        all = touches_more e.number record { store = (moved p e).store; rows = (moved p e).rows } p inv.many ∙ ap suc inv.all;
      }
