-- What the rings are after a slot is taken out of its ring, and after it is put in front of another.
use Rattle.std.proofs.Common.{◌≡◌, ℕ, ◌+◌, ◌<◌, ◌≤◌, true, false, cond, eqb, List, [], ◌∷◌, length, get_or, set, Some, sym, refl, ap, ◌∙◌, inl, inr, arith}
use Rattle.std.specs.List.{AllByRecursion as All}
use Rattle.std.proofs.lemmas.List.{get_or-set_same, get_or-set_other, length-set, length-map}
use Rattle.std.proofs.lemmas.Bool.{cases_Bool, cases_eq, or_parts, eqb-true, eqb-false, lt-ltb}
use Rattle.rings.specs.declared.rings.Rings.{Rings}
use Rattle.rings.specs.Slots.{member, without, distinct, first, after}
use Rattle.rings.specs.Places.{next_of, prev_of, nexts, prevs}
use Rattle.rings.specs.Links.{ring_of, slot_at, closed, Closed, Paired, out_links, in_links}
use Rattle.rings.proofs.Lists.{distinct_head, distinct_tail, distinct_cons, distinct_without, without_none, after_first}
use Rattle.rings.proofs.Chains.{Link, Chain, frame, all_apart, chain_slots, chain_next, ring_chain, closed_chain, closed_distinct, closed_to}

-- two writes: the later one stands, the earlier one stands elsewhere, and other places are as they were
module _ (l : List ℕ) (a v x w : ℕ) where
  two_later : x < length l → get_or (set (set l a v) x w) x 0 ≡ w
  two_later h = let k : x < length (set l a v) = simp length-set h in get_or-set_same (set l a v) x w 0 k

  two_earlier : a < length l → (a ≡ x → ⊥) → get_or (set (set l a v) x w) a 0 ≡ v
  two_earlier h ne = get_or-set_other (set l a v) x a w 0 ne ∙ get_or-set_same l a v 0 h

  two_other : (i : ℕ) → (i ≡ a → ⊥) → (i ≡ x → ⊥) → get_or (set (set l a v) x w) i 0 ≡ get_or l i 0
  two_other i na nx = get_or-set_other (set l a v) x i w 0 nx ∙ get_or-set_other l a i v 0 na

pub two_length : (l : List ℕ) (a v x w : ℕ) → length l ≡ 32 → length (set (set l a v) x w) ≡ 32
two_length l a v x w h = length-set (set l a v) x w ∙ (length-set l a v ∙ h)

module _ (n p : List ℕ) (wn : length n ≡ 32) (wp : length p ≡ 32) (there : Paired n p) (back : Paired p n) (x : ℕ) (in' : x < 32) where
  out_at_prev : (get_or p x 0 ≡ x → ⊥) → get_or (out_links n p x) (get_or p x 0) 0 ≡ get_or n x 0
  out_at_prev ne = two_earlier n (get_or p x 0) (get_or n x 0) x x (let q = (back x in').0 in omega arith) ne

  pub out_paired : Paired (out_links n p x) (out_links p n x)
  out_paired i h =
      elim (cases_eq i x) [
        | inl ix ↦
            let e : get_or (out_links n p x) i 0 ≡ x = ap (λ j. get_or (out_links n p x) j 0) ix ∙ two_later n (get_or p x 0) (get_or n x 0) x x (omega arith) in
            (omega arith, ap (λ j. get_or (out_links p n x) j 0) e ∙ (two_later p (get_or n x 0) (get_or p x 0) x x (omega arith) ∙ sym ix))
        | inr ix ↦ elim (cases_eq i (get_or p x 0)) [
          | inl ia ↦
              let ax : get_or p x 0 ≡ x → ⊥ = λ q. ix (ia ∙ q) in
              let bx : get_or n x 0 ≡ x → ⊥ = λ q. ax (sym (ap (λ j. get_or p j 0) q) ∙ (there x in').1) in
              let e : get_or (out_links n p x) i 0 ≡ get_or n x 0 = ap (λ j. get_or (out_links n p x) j 0) ia ∙ out_at_prev ax in
              (let q = (there x in').0 in omega arith, ap (λ j. get_or (out_links p n x) j 0) e ∙ (two_earlier p (get_or n x 0) (get_or p x 0) x x (let q = (there x in').0 in omega arith) bx ∙ sym ia))
          | inr ia ↦
              let e : get_or (out_links n p x) i 0 ≡ get_or n i 0 = two_other n (get_or p x 0) (get_or n x 0) x x i ia ix in
              let jx : get_or n i 0 ≡ x → ⊥ = λ q. ia (sym (there i h).1 ∙ ap (λ j. get_or p j 0) q) in
              let jb : get_or n i 0 ≡ get_or n x 0 → ⊥ = λ q. ix (sym (there i h).1 ∙ (ap (λ j. get_or p j 0) q ∙ (there x in').1)) in
              (let q = (there i h).0 in omega arith, ap (λ j. get_or (out_links p n x) j 0) e ∙ (two_other p (get_or n x 0) (get_or p x 0) x x (get_or n i 0) jb jx ∙ (there i h).1))
        ]
      ]

  keeps : (c d : ℕ) → (c ≡ x → ⊥) → (d ≡ x → ⊥) → Link n p c d → Link (out_links n p x) (out_links p n x) c d
  keeps c d cx dx l = (
    two_other n (get_or p x 0) (get_or n x 0) x x c (λ q. dx (sym l.0 ∙ (ap (λ j. get_or n j 0) q ∙ (back x in').1))) cx ∙ l.0,
    two_other p (get_or n x 0) (get_or p x 0) x x d (λ q. cx (sym l.1 ∙ (ap (λ j. get_or p j 0) q ∙ (there x in').1))) dx ∙ l.1,
  )

  -- the slot's neighbours are linked to one another
  joins : (c d : ℕ) → (c ≡ x → ⊥) → (d ≡ x → ⊥) → Link n p c x → Link n p x d → Link (out_links n p x) (out_links p n x) c d
  joins c d cx dx l m = (
    ap (λ j. get_or (out_links n p x) j 0) (sym l.1) ∙ (out_at_prev (λ q. cx (sym l.1 ∙ q)) ∙ m.0),
    ap (λ j. get_or (out_links p n x) j 0) (sym m.0) ∙ (two_earlier p (get_or n x 0) (get_or p x 0) x x (let q = (there x in').0 in omega arith) (λ q. dx (sym m.0 ∙ q)) ∙ l.1),
  )

  bridge : (c : ℕ) (ys : List ℕ) (e : ℕ) → (c ≡ x → ⊥) → (e ≡ x → ⊥) → member x ys ≡ false → Link n p c x → Chain n p x ys e → Chain (out_links n p x) (out_links p n x) c ys e
  bridge c [] e cx ex m l h = joins c e cx ex l h
  bridge c (z ∷ zs) e cx ex m l h =
      let a = all_apart x (z ∷ zs) m in
      (h.0, joins c z cx a.0 l h.1, frame n p (out_links n p x) (out_links p n x) (λ y. y ≡ x → ⊥) (λ y. y ≡ x → ⊥) keeps z zs e a.0 ex a.1 a.1 h.2)

  out_chain : (c : ℕ) (xs : List ℕ) (e : ℕ) → (c ≡ x → ⊥) → (e ≡ x → ⊥) → distinct xs ≡ true → Chain n p c xs e → Chain (out_links n p x) (out_links p n x) c (without x xs) e
  out_chain c [] e cx ex d h = keeps c e cx ex h
  out_chain c (y ∷ ys) e cx ex d h =
      elim (cases_Bool (eqb x y)) [
        | inl k ↦
            let q : x ≡ y = eqb-true x y k in
            let m : member x ys ≡ false = ap (λ z. member z ys) q ∙ distinct_head y ys d in
            let l : Link n p c x = (h.1.0 ∙ sym q, ap (λ z. get_or p z 0) q ∙ h.1.1) in
            let t : Chain n p x ys e = rw q h.2 in
            rw (k, without_none x ys m) (bridge c ys e cx ex m l t)
        | inr k ↦
            let yx : y ≡ x → ⊥ = λ q. eqb-false x y k (sym q) in
            rw k (h.0, keeps c y cx yx h.1, out_chain y ys e yx ex (distinct_tail y ys d) h.2)
      ]

  pub out_ring : x < 16 → (r : ℕ) → closed n p r ≡ true → ring_of (out_links n p x) r ≡ without x (ring_of n r)
  out_ring low r h =
      ring_chain (out_links n p x) (out_links p n x) r (without x (ring_of n r))
      (out_chain (16 + r) (ring_of n r) (16 + r) (λ q. omega arith) (λ q. omega arith) (closed_distinct n p r h) (closed_chain n p r h))
      (distinct_without x (ring_of n r) (closed_distinct n p r h))

  pub out_closed : x < 16 → Closed n p → Closed (out_links n p x) (out_links p n x)
  out_closed low h r few =
      closed_to (out_links n p x) (out_links p n x) r (without x (ring_of n r))
      (out_chain (16 + r) (ring_of n r) (16 + r) (λ q. omega arith) (λ q. omega arith) (closed_distinct n p r (h r few)) (closed_chain n p r (h r few)))
      (distinct_without x (ring_of n r) (closed_distinct n p r (h r few)))

-- a slot that stands alone is put between two places that are linked
module _ (n p : List ℕ) (wn : length n ≡ 32) (wp : length p ≡ 32) (there : Paired n p) (back : Paired p n) (x u v : ℕ) (in' : x < 32) (alone : get_or n x 0 ≡ x) (alone_back : get_or p x 0 ≡ x) (uin : u < 32) (vin : v < 32) (uv : get_or n u 0 ≡ v) (vu : get_or p v 0 ≡ u) (ux : u ≡ x → ⊥) where
  vx : v ≡ x → ⊥
  vx q = ux (sym vu ∙ (ap (λ j. get_or p j 0) q ∙ alone_back))

  pub in_paired : Paired (in_links n u x v) (in_links p v x u)
  in_paired i h =
      elim (cases_eq i x) [
        | inl ix ↦
            let e : get_or (in_links n u x v) i 0 ≡ v = ap (λ j. get_or (in_links n u x v) j 0) ix ∙ two_later n u x x v (omega arith) in
            (omega arith, ap (λ j. get_or (in_links p v x u) j 0) e ∙ (two_earlier p v x x u (omega arith) vx ∙ sym ix))
        | inr ix ↦ elim (cases_eq i u) [
          | inl iu ↦
              let e : get_or (in_links n u x v) i 0 ≡ x = ap (λ j. get_or (in_links n u x v) j 0) iu ∙ two_earlier n u x x v (omega arith) ux in
              (omega arith, ap (λ j. get_or (in_links p v x u) j 0) e ∙ (two_later p v x x u (omega arith) ∙ sym iu))
          | inr iu ↦
              let e : get_or (in_links n u x v) i 0 ≡ get_or n i 0 = two_other n u x x v i iu ix in
              let jx : get_or n i 0 ≡ x → ⊥ = λ q. ix (sym (there i h).1 ∙ (ap (λ j. get_or p j 0) q ∙ alone_back)) in
              let jv : get_or n i 0 ≡ v → ⊥ = λ q. iu (sym (there i h).1 ∙ (ap (λ j. get_or p j 0) q ∙ vu)) in
              (let q = (there i h).0 in omega arith, ap (λ j. get_or (in_links p v x u) j 0) e ∙ (two_other p v x x u (get_or n i 0) jv jx ∙ (there i h).1))
        ]
      ]

  in_keeps : (c d : ℕ) → (c ≡ u → ⊥) × (c ≡ x → ⊥) → (d ≡ x → ⊥) → Link n p c d → Link (in_links n u x v) (in_links p v x u) c d
  in_keeps c d cn dx l = (
    two_other n u x x v c cn.0 cn.1 ∙ l.0,
    two_other p v x x u d (λ q. cn.0 (sym l.1 ∙ (ap (λ j. get_or p j 0) q ∙ vu))) dx ∙ l.1,
  )

  in_before : Link (in_links n u x v) (in_links p v x u) u x
  in_before = (two_earlier n u x x v (omega arith) ux, two_later p v x x u (omega arith))

  in_behind : Link (in_links n u x v) (in_links p v x u) x v
  in_behind = (two_later n u x x v (omega arith), two_earlier p v x x u (omega arith) vx)

apart_both : (u x : ℕ) (xs : List ℕ) → 16 ≤ u → All (λ y. y < 16) xs → All (λ y. y ≡ x → ⊥) xs → All (λ y. (y ≡ u → ⊥) × (y ≡ x → ⊥)) xs
apart_both u x [] big a b = tt
apart_both u x (y ∷ ys) big a b = (((λ q. let k = a.0 in omega arith), b.0), apart_both u x ys big a.1 b.1)

module _ (n p : List ℕ) (wn : length n ≡ 32) (wp : length p ≡ 32) (there : Paired n p) (back : Paired p n) (shut : Closed n p) (x r : ℕ) (low : x < 16) (few : r < 16) (alone : get_or n x 0 ≡ x) (alone_back : get_or p x 0 ≡ x) where
  abbrev front : ℕ
  front = get_or n (16 + r) 0

  abbrev n' : List ℕ
  n' = in_links n (16 + r) x front

  abbrev p' : List ℕ
  p' = in_links p front x (16 + r)

  pub in_there : Paired n' p'
  in_there = in_paired n p wn wp there back x (16 + r) front (omega arith) alone alone_back (omega arith) (there (16 + r) (omega arith)).0 refl (there (16 + r) (omega arith)).1 (λ e. omega arith)

  pub in_back : Paired p' n'
  in_back =
      in_paired p n wp wn back there x front (16 + r) (omega arith) alone_back alone (there (16 + r) (omega arith)).0 (omega arith) (there (16 + r) (omega arith)).1 refl
      (vx n p wn wp there back x (16 + r) front (omega arith) alone alone_back (omega arith) (there (16 + r) (omega arith)).0 refl (there (16 + r) (omega arith)).1 (λ e. omega arith))

  kept : (q : ℕ) (c : ℕ) (xs : List ℕ) → (c ≡ 16 + r → ⊥) × (c ≡ x → ⊥) → member x xs ≡ false → Chain n p c xs (16 + q) → Chain n' p' c xs (16 + q)
  kept q c xs cn m h =
      let a = all_apart x xs m in
      frame n p n' p' (λ y. (y ≡ 16 + r → ⊥) × (y ≡ x → ⊥)) (λ y. y ≡ x → ⊥)
      (in_keeps n p wn wp there back x (16 + r) front (omega arith) alone alone_back (omega arith) (there (16 + r) (omega arith)).0 refl (there (16 + r) (omega arith)).1 (λ e. omega arith))
      c xs (16 + q) cn (λ e. omega arith) (apart_both (16 + r) x xs (omega arith) (chain_slots n p c xs (16 + q) h) a) a h

  other : (q : ℕ) (xs : List ℕ) → (q ≡ r → ⊥) → member x xs ≡ false → Chain n p (16 + q) xs (16 + q) → Chain n' p' (16 + q) xs (16 + q)
  other q xs ne m h = kept q (16 + q) xs ((λ e. ne (omega arith)), (λ e. omega arith)) m h

  before : Link n' p' (16 + r) x
  before = in_before n p wn wp there back x (16 + r) front (omega arith) alone alone_back (omega arith) (there (16 + r) (omega arith)).0 refl (there (16 + r) (omega arith)).1 (λ e. omega arith)

  behind : (y : ℕ) → front ≡ y → Link n' p' x y
  behind y e =
      let l = in_behind n p wn wp there back x (16 + r) front (omega arith) alone alone_back (omega arith) (there (16 + r) (omega arith)).0 refl (there (16 + r) (omega arith)).1 (λ e. omega arith) in
      (l.0 ∙ e, ap (λ j. get_or p' j 0) (sym e) ∙ l.1)

  rest : (xs : List ℕ) → member x xs ≡ false → Chain n p (16 + r) xs (16 + r) → Chain n' p' x xs (16 + r)
  rest [] m h = behind (16 + r) h.0
  rest (y ∷ ys) m h =
      let a = or_parts (eqb x y) (member x ys) m in
      (h.0, behind y h.1.0, kept r y ys ((λ e. let k = h.0 in omega arith), (λ e. eqb-false x y a.0 (sym e))) a.1 h.2)

  fronted : (xs : List ℕ) → member x xs ≡ false → Chain n p (16 + r) xs (16 + r) → Chain n' p' (16 + r) (x ∷ xs) (16 + r)
  fronted xs m h = (low, before, rest xs m h)

  module _ (free : (q : ℕ) → q < 16 → member x (ring_of n q) ≡ false) where
    now_chain : (q : ℕ) → q < 16 → Chain n' p' (16 + q) (cond (eqb q r) (x ∷ ring_of n q) (ring_of n q)) (16 + q)
    now_chain q h =
        elim (cases_Bool (eqb q r)) [
          | inl k ↦ let e : q ≡ r = eqb-true q r k in rw (k, e) (fronted (ring_of n r) (free r few) (closed_chain n p r (shut r few)))
          | inr k ↦ rw k (other q (ring_of n q) (eqb-false q r k) (free q h) (closed_chain n p q (shut q h)))
        ]

    now_distinct : (q : ℕ) → q < 16 → distinct (cond (eqb q r) (x ∷ ring_of n q) (ring_of n q)) ≡ true
    now_distinct q h =
        elim (cases_Bool (eqb q r)) [
          | inl k ↦ rw k (distinct_cons x (ring_of n q) (free q h) (closed_distinct n p q (shut q h)))
          | inr k ↦ rw k (closed_distinct n p q (shut q h))
        ]

    pub in_ring : (q : ℕ) → q < 16 → ring_of n' q ≡ cond (eqb q r) (x ∷ ring_of n q) (ring_of n q)
    in_ring q h = ring_chain n' p' q (cond (eqb q r) (x ∷ ring_of n q) (ring_of n q)) (now_chain q h) (now_distinct q h)

    pub in_closed : Closed n' p'
    in_closed q h = closed_to n' p' q (cond (eqb q r) (x ∷ ring_of n q) (ring_of n q)) (now_chain q h) (now_distinct q h)

-- a slot that is linked to itself is in no ring
pub alone_free : (s : Rings) (x : ℕ) → x < 16 → get_or (nexts s.links) x 0 ≡ x → (q : ℕ) → q < 16 → member x (ring_of (nexts s.links) q) ≡ false
alone_free s x low alone q h =
    elim (cases_Bool (member x (ring_of (nexts s.links) q))) [
      | inl m ↦ absurd (go (after x (ring_of (nexts s.links) q)) refl (sym itself ∙ chain_next (nexts s.links) (prevs s.links) (16 + q) (ring_of (nexts s.links) q) (16 + q) x (closed_chain (nexts s.links) (prevs s.links) q (s.closed q h)) m (omega arith)))
      | inr m ↦ m
    ]
  where
    itself : slot_at (get_or (nexts s.links) x 0) ≡ Some x
    itself = rw (alone, lt-ltb x 16 low)

    go : (ys : List ℕ) → after x (ring_of (nexts s.links) q) ≡ ys → Some x ≡ first ys → ⊥
    go [] e f = let z : ◌≡◌ {A = ℕ} 0 1 = cc in omega arith
    go (y ∷ ys) e f =
        let w : x ≡ y = cc in
        let g : after x (ring_of (nexts s.links) q) ≡ ys = ap (λ z. after z (ring_of (nexts s.links) q)) w ∙ after_first x y (ring_of (nexts s.links) q) ys (closed_distinct (nexts s.links) (prevs s.links) q (s.closed q h)) e in
        let l = ap length (sym e ∙ g) in omega arith

-- what the links of rings are known to be
abbrev pub Sound : List ℕ → List ℕ → Type 0
Sound n p = record { wide : length n ≡ 32; wide_back : length p ≡ 32; paired : Paired n p; paired_back : Paired p n; closed : Closed n p }

pub known : (s : Rings) → Sound (nexts s.links) (prevs s.links)
known s = record { wide = length-map s.links next_of ∙ s.wide; wide_back = length-map s.links prev_of ∙ s.wide; paired = s.paired; paired_back = s.paired_back; closed = s.closed }

pub out_sound : (n p n' p' : List ℕ) (x : ℕ) → x < 16 → Sound n p → n' ≡ out_links n p x → p' ≡ out_links p n x → Sound n' p'
out_sound n p n' p' x low k e f =
    let in' : x < 32 = omega arith in
    rw (e, f) (record {
      wide = two_length n (get_or p x 0) (get_or n x 0) x x k.wide;
      wide_back = two_length p (get_or n x 0) (get_or p x 0) x x k.wide_back;
      paired = out_paired n p k.wide k.wide_back k.paired k.paired_back x in';
      paired_back = out_paired p n k.wide_back k.wide k.paired_back k.paired x in';
      closed = out_closed n p k.wide k.wide_back k.paired k.paired_back x in' low k.closed;
    })

pub out_rings : (n p n' : List ℕ) (x : ℕ) → x < 16 → Sound n p → n' ≡ out_links n p x → (q : ℕ) → q < 16 → ring_of n' q ≡ without x (ring_of n q)
out_rings n p n' x low k e q h = rw e (out_ring n p k.wide k.wide_back k.paired k.paired_back x (omega arith) low q (k.closed q h))

pub out_lone : (n p n' : List ℕ) (x : ℕ) → x < 16 → length n ≡ 32 → n' ≡ out_links n p x → get_or n' x 0 ≡ x
out_lone n p n' x low wn e = rw e (two_later n (get_or p x 0) (get_or n x 0) x x (omega arith))

pub in_sound : (n p n' p' : List ℕ) (x r : ℕ) → x < 16 → r < 16 → Sound n p → get_or n x 0 ≡ x → get_or p x 0 ≡ x → ((q : ℕ) → q < 16 → member x (ring_of n q) ≡ false) → n' ≡ in_links n (16 + r) x (get_or n (16 + r) 0) → p' ≡ in_links p (get_or n (16 + r) 0) x (16 + r) → Sound n' p'
in_sound n p n' p' x r low few k alone alone_back free e f =
    rw (e, f) (record {
      wide = two_length n (16 + r) x x (get_or n (16 + r) 0) k.wide;
      wide_back = two_length p (get_or n (16 + r) 0) x x (16 + r) k.wide_back;
      paired = in_there n p k.wide k.wide_back k.paired k.paired_back k.closed x r low few alone alone_back;
      paired_back = in_back n p k.wide k.wide_back k.paired k.paired_back k.closed x r low few alone alone_back;
      closed = in_closed n p k.wide k.wide_back k.paired k.paired_back k.closed x r low few alone alone_back free;
    })

pub in_rings : (n p n' : List ℕ) (x r : ℕ) → x < 16 → r < 16 → Sound n p → get_or n x 0 ≡ x → get_or p x 0 ≡ x → ((q : ℕ) → q < 16 → member x (ring_of n q) ≡ false) → n' ≡ in_links n (16 + r) x (get_or n (16 + r) 0) → (q : ℕ) → q < 16 → ring_of n' q ≡ cond (eqb q r) (x ∷ ring_of n q) (ring_of n q)
in_rings n p n' x r low few k alone alone_back free e q h = rw e (in_ring n p k.wide k.wide_back k.paired k.paired_back k.closed x r low few alone alone_back free q h)
