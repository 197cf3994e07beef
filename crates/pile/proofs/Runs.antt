-- What holds from mounting on: one call, and a list of calls.
use Rattle.std.proofs.Common.{◌≡◌, ℕ, ◌<◌, true, false, cond, eqb, ltb, List, [], ◌∷◌, ◌++◌, length, take, replicate, is_ok, Some, None, Ok, Err, Option, Result, sym, refl, ap, ◌∙◌, subst, inl, inr, arith}
use Rattle.std.proofs.lemmas.List.{length-replicate, take_all}
use Rattle.std.proofs.lemmas.Bool.{cases_Bool, eqb-false, eq-eqb, ne_eqb, true≢false, cond-true as cond_yes, cond-false as cond_no}
use Rattle.device.specs.declared.fault.DeviceFault.{DeviceFault}
use Rattle.device.specs.Answers.{answer}
use Rattle.device.specs.Store.{put}
use Rattle.device.proofs.Outcomes.{admitted as passed}
use Rattle.row.specs.Entries.{Entry, is_saved, RowModel}
use Rattle.tier.specs.Lifts.{Found, found}
use Rattle.tier.specs.Models.{Model}
use Rattle.pile.specs.declared.faults.PileFault.{PileFault}
use Rattle.pile.specs.declared.faults.PileFault.TheVariants.{Full}
use Rattle.pile.specs.Bare.{Bare, bare, bare_admitted, bare_answered, bare_stepped, bare_after, bare_answers}
use Rattle.pile.specs.Laws.{Mountable}
use Rattle.pile.specs.Piles.{Pile, Call, read, write, sync, touches, mounted, wrapped, admitted, dropped_result, fetched, moved, touched, read_entry, write_entry, sweep, answered, stepped, after, answers}
use Rattle.pile.specs.Recency.{once, within, flat, numbers, room, total}
use Rattle.pile.proofs.Agrees.{fits, Agree, Ready}
use Rattle.pile.proofs.Hits.{no_hits}
use Rattle.pile.proofs.Recents.{distinct_numbers, nodup, nodup_once, nodup_take, same_room, same_room_all}
use Rattle.pile.proofs.Settling.{Packed, caps}
use Rattle.pile.proofs.Sweeps.{answer_same, Cleaned, cleaned, sweep_all, flat_cleaned, packed_cleaned, caps_cleaned, numbers_saved, ready_saved, agree_saved, ready_same}
use Rattle.pile.proofs.Touches.{Inv, found_look, entry_in, touch_taken, touch_kept, same_count}

pub ok_is : {E : Type 0} (r : Result (Unit {0}) E) → is_ok r ≡ true → r ≡ Ok tt
ok_is (Ok u) h = refl
ok_is (Err e) h = absurd (true≢false (sym h))

pub wrapped_ok : (r : Result (Unit {0}) DeviceFault) (q : Result (Unit {0}) PileFault) → is_ok (wrapped r q) ≡ true → r ≡ Ok tt
wrapped_ok (Ok u) q h = refl
wrapped_ok (Err f) q h = absurd (true≢false (sym h))

module _ (m : Model) (p : Pile) (d : Bare) (inv : Inv m p d) where
  same_admitted : (b n : ℕ) → admitted p b n ≡ bare_admitted d b n
  same_admitted b n =
      ap (λ r. wrapped r (cond (ltb (touches p) 4000000000) (Ok tt) (Err Full))) (answer_same p.tier.store d.store inv.size inv.sound b n)
      ∙ ap (λ k. wrapped (answer d.store b n) (cond (ltb k 4000000000) (Ok tt) (Err Full))) inv.all

  -- the entry of a read has what the bare device has
  read_fits : (b : ℕ) → ((read_entry p b).bytes ≡ d.store.at b) × (is_saved (read_entry p b).mark ≡ true → p.tier.store.at b ≡ d.store.at b)
  read_fits b = go (found b p.tier.rows) refl
    where
      go : (o : Option Found) → found b p.tier.rows ≡ o
          → ((fetched (found b p.tier.rows) b (p.tier.store.at b)).bytes ≡ d.store.at b) × (is_saved (fetched (found b p.tier.rows) b (p.tier.store.at b)).mark ≡ true → p.tier.store.at b ≡ d.store.at b)
      go None h =
          let k : p.tier.store.at b ≡ d.store.at b = subst (λ o. fits o (p.tier.store.at b) (d.store.at b)) (sym (found_look b p.tier.rows) ∙ ap entry_in h) (inv.agree b) in
          subst (λ o. ((fetched o b (p.tier.store.at b)).bytes ≡ d.store.at b) × (is_saved (fetched o b (p.tier.store.at b)).mark ≡ true → p.tier.store.at b ≡ d.store.at b)) (sym h) (k, λ _. k)
      go (Some f) h =
          let k : fits (Some f.entry) (p.tier.store.at b) (d.store.at b) = subst (λ o. fits o (p.tier.store.at b) (d.store.at b)) (sym (found_look b p.tier.rows) ∙ ap entry_in h) (inv.agree b) in
          subst (λ o. ((fetched o b (p.tier.store.at b)).bytes ≡ d.store.at b) × (is_saved (fetched o b (p.tier.store.at b)).mark ≡ true → p.tier.store.at b ≡ d.store.at b)) (sym h) k

  read_number : (b : ℕ) → (read_entry p b).number ≡ b
  read_number b = go (found b p.tier.rows)
    where
      go : (o : Option Found) → (fetched o b (p.tier.store.at b)).number ≡ b
      go None = refl
      go (Some f) = refl

  -- an accepted read
  module _ (b n : ℕ) (ok : answer d.store b n ≡ Ok tt) where
    abbrev e : Entry
    e = read_entry p b

    there : b < d.store.size
    there = (passed d.store b n ok).there

    bytes_at : e.bytes ≡ d.store.at e.number
    bytes_at = (read_fits b).0 ∙ ap d.store.at (sym (read_number b))

    saved_at : is_saved e.mark ≡ true → p.tier.store.at e.number ≡ d.store.at e.number
    saved_at k = ap p.tier.store.at (read_number b) ∙ ((read_fits b).1 k ∙ ap d.store.at (sym (read_number b)))

    takes : answer d.store e.number (length e.bytes) ≡ Ok tt
    takes =
        ap (λ x. answer d.store x (length e.bytes)) (read_number b)
        ∙ (ap (λ x. answer d.store b x) (ap length (read_fits b).0 ∙ (inv.whole b there ∙ sym (passed d.store b n ok).full)) ∙ ok)

    read_kept : Inv m (touched p e) record { store = d.store; trail = b ∷ d.trail }
    read_kept = subst (λ k. Inv m (touched p e) record { store = d.store; trail = k ∷ d.trail }) (read_number b)
        (touch_kept m p d inv e d.store refl refl takes bytes_at saved_at (λ _ _. refl) inv.whole)

    read_taken : (moved p e).dropped ≡ None
    read_taken = touch_taken m p d inv e d.store refl refl takes bytes_at saved_at (λ _ _. refl) inv.whole

  -- an accepted write
  module _ (b : ℕ) (v : List ℕ) (ok : answer d.store b (length v) ≡ Ok tt) where
    put_here : (put d.store b v).at b ≡ v
    put_here = cond_yes (eqb b b) v (d.store.at b) (eq-eqb b b refl)

    put_there : (n : ℕ) → eqb b n ≡ false → (put d.store b v).at n ≡ d.store.at n
    put_there n h = cond_no (eqb n b) v (d.store.at n) (ne_eqb n b (λ q. eqb-false b n h (sym q)))

    put_whole : (n : ℕ) → n < d.store.size → length ((put d.store b v).at n) ≡ 256
    put_whole n h = elim (cases_Bool (eqb n b)) [ inl k ↦ rw k (passed d.store b (length v) ok).full | inr k ↦ rw k (inv.whole n h) ]

    write_kept : Inv m (touched p (write_entry b v)) record { store = put d.store b v; trail = b ∷ d.trail }
    write_kept = touch_kept m p d inv (write_entry b v) (put d.store b v) refl refl ok (sym put_here) (λ k. absurd (true≢false (sym k))) put_there put_whole

    write_taken : (moved p (write_entry b v)).dropped ≡ None
    write_taken = touch_taken m p d inv (write_entry b v) (put d.store b v) refl refl ok (sym put_here) (λ k. absurd (true≢false (sym k))) put_there put_whole

  swept_out : Cleaned p.tier.rows p.tier.store d.store.at (sweep p)
  swept_out = sweep_all p.tier.rows p.tier.store d.store.at (ready_same d.store p.tier.store (sym inv.size) (sym inv.sound) (flat p.tier.rows) inv.ready)
      (distinct_numbers (flat p.tier.rows) ∙ (ap nodup inv.recent ∙ nodup_take (room p.tier.rows) (once d.trail) (nodup_once d.trail))) inv.agree

  sync_kept : Inv m (stepped sync p) d
  sync_kept =
      let o = swept_out in
      let c : caps (sweep p).rows ≡ caps p.tier.rows = ap caps o.rows ∙ caps_cleaned p.tier.rows in
      let f : flat (sweep p).rows ≡ flat (cleaned p.tier.rows) = ap flat o.rows in
      record {
        packed = subst Packed (sym o.rows) (packed_cleaned p.tier.rows inv.packed);
        same_caps = c ∙ inv.same_caps;
        recent = ap numbers (f ∙ flat_cleaned p.tier.rows) ∙ (numbers_saved (flat p.tier.rows) ∙ (inv.recent ∙ ap (λ n. take n (once d.trail)) (sym (same_room_all (sweep p).rows p.tier.rows c))));
        agree = subst (λ es. Agree es (sweep p).store d.store.at) (sym (f ∙ flat_cleaned p.tier.rows)) (agree_saved (flat p.tier.rows) p.tier.store (sweep p).store d.store.at inv.agree o.agree);
        ready = subst (λ es. Ready d.store es) (sym (f ∙ flat_cleaned p.tier.rows)) (ready_saved d.store (flat p.tier.rows) inv.ready);
        size = o.size ∙ inv.size;
        sound = o.sound ∙ inv.sound;
        whole = inv.whole;
        many = inv.many ∙ sym (same_count (sweep p).rows p.tier.rows c);
        served = λ j. inv.served j ∙ ap (λ n. within n d.trail) (sym (same_room (sweep p).rows p.tier.rows j c));
        all = inv.all;
      }

  -- after a sync the stored blocks are the bare device's
  pub sync_stored : (stepped sync p).tier.store ≡ d.store
  sync_stored = λ i. record { size = (swept_out.size ∙ inv.size) i; at = λ n. swept_out.agree n i; sound = (swept_out.sound ∙ inv.sound) i }

  pub call_kept : (c : Call) → Inv m (stepped c p) (bare_stepped c d) × (answered c p ≡ bare_answered c d)
  call_kept sync = (sync_kept, ap (λ o. record { result = dropped_result o; buffer = [] }) swept_out.none)
  call_kept (read b v) = elim (cases_Bool (is_ok (bare_admitted d b (length v)))) [ inl h ↦ took h | inr h ↦ left h ]
    where
      q : admitted p b (length v) ≡ bare_admitted d b (length v)
      q = same_admitted b (length v)

      took : is_ok (bare_admitted d b (length v)) ≡ true → Inv m (stepped (read b v) p) (bare_stepped (read b v) d) × (answered (read b v) p ≡ bare_answered (read b v) d)
      took h =
          let ok : answer d.store b (length v) ≡ Ok tt = wrapped_ok (answer d.store b (length v)) (cond (ltb (length d.trail) 4000000000) (Ok tt) (Err Full)) h in
          let h' : is_ok (admitted p b (length v)) ≡ true = ap is_ok q ∙ h in (
            subst (λ x. Inv m (stepped (read b v) p) x) (sym (cond_yes (is_ok (bare_admitted d b (length v))) record { store = d.store; trail = b ∷ d.trail } d h))
                (subst (λ x. Inv m x record { store = d.store; trail = b ∷ d.trail }) (sym (cond_yes (is_ok (admitted p b (length v))) (touched p (read_entry p b)) p h')) (read_kept b (length v) ok)),
            cond_yes (is_ok (admitted p b (length v))) record { result = dropped_result (moved p (read_entry p b)).dropped; buffer = (read_entry p b).bytes } record { result = admitted p b (length v); buffer = v } h'
                ∙ (λ i. record {
                  result = (ap dropped_result (read_taken b (length v) ok) ∙ sym (ok_is (bare_admitted d b (length v)) h)) i;
                  buffer = ((read_fits b).0 ∙ sym (cond_yes (is_ok (bare_admitted d b (length v))) (d.store.at b) v h)) i;
                }),
          )

      left : is_ok (bare_admitted d b (length v)) ≡ false → Inv m (stepped (read b v) p) (bare_stepped (read b v) d) × (answered (read b v) p ≡ bare_answered (read b v) d)
      left h =
          let h' : is_ok (admitted p b (length v)) ≡ false = ap is_ok q ∙ h in (
            subst (λ x. Inv m (stepped (read b v) p) x) (sym (cond_no (is_ok (bare_admitted d b (length v))) record { store = d.store; trail = b ∷ d.trail } d h))
                (subst (λ x. Inv m x d) (sym (cond_no (is_ok (admitted p b (length v))) (touched p (read_entry p b)) p h')) inv),
            cond_no (is_ok (admitted p b (length v))) record { result = dropped_result (moved p (read_entry p b)).dropped; buffer = (read_entry p b).bytes } record { result = admitted p b (length v); buffer = v } h'
                ∙ (λ i. record { result = q i; buffer = sym (cond_no (is_ok (bare_admitted d b (length v))) (d.store.at b) v h) i }),
          )
  call_kept (write b v) = elim (cases_Bool (is_ok (bare_admitted d b (length v)))) [ inl h ↦ took h | inr h ↦ left h ]
    where
      q : admitted p b (length v) ≡ bare_admitted d b (length v)
      q = same_admitted b (length v)

      took : is_ok (bare_admitted d b (length v)) ≡ true → Inv m (stepped (write b v) p) (bare_stepped (write b v) d) × (answered (write b v) p ≡ bare_answered (write b v) d)
      took h =
          let ok : answer d.store b (length v) ≡ Ok tt = wrapped_ok (answer d.store b (length v)) (cond (ltb (length d.trail) 4000000000) (Ok tt) (Err Full)) h in
          let h' : is_ok (admitted p b (length v)) ≡ true = ap is_ok q ∙ h in (
            subst (λ x. Inv m (stepped (write b v) p) x) (sym (cond_yes (is_ok (bare_admitted d b (length v))) record { store = put d.store b v; trail = b ∷ d.trail } d h))
                (subst (λ x. Inv m x record { store = put d.store b v; trail = b ∷ d.trail }) (sym (cond_yes (is_ok (admitted p b (length v))) (touched p (write_entry b v)) p h')) (write_kept b v ok)),
            cond_yes (is_ok (admitted p b (length v))) record { result = dropped_result (moved p (write_entry b v)).dropped; buffer = v } record { result = admitted p b (length v); buffer = v } h'
                ∙ (λ i. record { result = (ap dropped_result (write_taken b v ok) ∙ sym (ok_is (bare_admitted d b (length v)) h)) i; buffer = v }),
          )

      left : is_ok (bare_admitted d b (length v)) ≡ false → Inv m (stepped (write b v) p) (bare_stepped (write b v) d) × (answered (write b v) p ≡ bare_answered (write b v) d)
      left h =
          let h' : is_ok (admitted p b (length v)) ≡ false = ap is_ok q ∙ h in (
            subst (λ x. Inv m (stepped (write b v) p) x) (sym (cond_no (is_ok (bare_admitted d b (length v))) record { store = put d.store b v; trail = b ∷ d.trail } d h))
                (subst (λ x. Inv m x d) (sym (cond_no (is_ok (admitted p b (length v))) (touched p (write_entry b v)) p h')) inv),
            cond_no (is_ok (admitted p b (length v))) record { result = dropped_result (moved p (write_entry b v)).dropped; buffer = v } record { result = admitted p b (length v); buffer = v } h'
                ∙ (λ i. record { result = q i; buffer = v }),
          )

pub run_kept : (m : Model) (cs : List Call) (p : Pile) (d : Bare) → Inv m p d → Inv m (after cs p) (bare_after cs d)
run_kept m [] p d inv = inv
run_kept m (c ∷ cs) p d inv = run_kept m cs (stepped c p) (bare_stepped c d) (call_kept m p d inv c).0

pub run_answers : (m : Model) (cs : List Call) (p : Pile) (d : Bare) → Inv m p d → answers cs p ≡ bare_answers cs d
run_answers m [] p d inv = refl
run_answers m (c ∷ cs) p d inv = let k = call_kept m p d inv c in λ i. k.1 i ∷ run_answers m cs (stepped c p) (bare_stepped c d) k.0 i

-- rows with no entries
empty_packed : (rs : List RowModel) → flat rs ≡ [] → Packed rs
empty_packed [] h = tt
empty_packed (r ∷ rs) h = go r.entries refl (λ k. empty_packed rs k)
  where
    go : (es : List Entry) → r.entries ≡ es → (flat rs ≡ [] → Packed rs) → Packed (r ∷ rs)
    go [] e rest = let k : flat rs ≡ [] = ap (λ xs. xs ++ flat rs) (sym e) ∙ h in (omega (arith, ap length e), λ l. k, rest k)
    go (x ∷ xs) e rest = absurd (let g : x ∷ (xs ++ flat rs) ≡ [] = ap (λ ys. ys ++ flat rs) (sym e) ∙ h in let z : ◌≡◌ {A = ℕ} 0 1 = cc in omega arith)

pub mount_kept : (m : Model) → Mountable m → Inv m (mounted m) (bare m.store)
mount_kept m ok = record {
  packed = empty_packed m.rows ok.empty;
  same_caps = refl;
  recent = ap numbers ok.empty ∙ sym (take_all (room m.rows) [] (omega arith));
  agree = subst (λ es. Agree es m.store m.store.at) (sym ok.empty) (λ n. refl);
  ready = subst (λ es. Ready m.store es) (sym ok.empty) tt;
  size = refl;
  sound = refl;
  whole = ok.lawful.store.whole;
  many = length-replicate (length m.rows) 0;
  served = λ j. no_hits (length m.rows) j;
  all = omega (arith, ap total (take_all (length m.rows) (replicate (length m.rows) 0) (omega (arith, length-replicate {A = ℕ} (length m.rows) 0))), no_hits (length m.rows) (length m.rows));
}
