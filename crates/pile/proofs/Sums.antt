-- Equal sums serve alike, and only they do as far as there are sound blocks.
use Rattle.std.proofs.Common.{◌≡◌, ℕ, zero, suc, ◌+◌, ◌<◌, ◌≤◌, min, Bool, true, false, cond, eqb, ltb, List, [], ◌∷◌, ◌++◌, reverse, length, get_or, take, replicate, is_ok, Ok, Err, sym, refl, ap, ◌∙◌, subst, inl, inr, arith}
use mathlib.Core.List.{reverse-cons}
use Rattle.std.specs.List.{AllByRecursion as All}
use Rattle.std.proofs.ByRecursion.{All-take, All-get_or}
use Rattle.std.proofs.lemmas.List.{map-append, reverse-append, take_all, take_more, take-append-le, length-take-le, length-append}
use Rattle.std.proofs.lemmas.Bool.{cases_Bool, cases_eq, cases_order, or_from, or_left, or_right, or_cases, eqb-true, eqb-false, eq-eqb, ne_eqb, lt-ltb, true≢false, cond-true as cond_yes, cond-false as cond_no}
use Rattle.device.specs.Answers.{answer}
use Rattle.device.specs.Store.{Store, ReadAlike, Lawful, put}
use Rattle.device.proofs.Outcomes.{admitted as passed}
use Rattle.tier.specs.Models.{Model}
use Rattle.pile.specs.declared.faults.PileFault.TheVariants.{Full}
use Rattle.pile.specs.Bare.{Bare, bare, bare_admitted, bare_stepped, bare_after}
use Rattle.pile.specs.Laws.{Mountable, trail_of, sound_count, served, ServeAlike, sum_of, Sharp, EqualSums, Paired}
use Rattle.pile.specs.Piles.{Call, read, write, sync}
use Rattle.pile.specs.Reads.{reads_of, passing, again, telling as telling_reads}
use Rattle.pile.specs.Recency.{has, leave, once, within, count_below}
use Rattle.pile.proofs.Promised.{counted}
use Rattle.pile.proofs.Recents.{nodup, nodup_head, nodup_cons, nodup_leave, nodup_once, nodup_take, leave_fresh, fresh_take}
use Rattle.pile.proofs.Runs.{wrapped_ok}
use Rattle.pile.proofs.Twins.{alike, same_trail}

-- numbers below n that pass the test
abbrev Sound : (ℕ → Bool) → ℕ → List ℕ → Type 0
Sound f n xs = All (λ x. (x < n) × (f x ≡ true)) xs

length_leave : (b : ℕ) (xs : List ℕ) → nodup xs ≡ true → has b xs ≡ true → suc (length (leave b xs)) ≡ length xs
length_leave b [] h k = absurd (true≢false (sym k))
length_leave b (x ∷ xs) h k =
    let p = nodup_head x xs h in
    elim (cases_Bool (eqb x b)) [
      | inl g ↦ rw g (ap (λ ys. suc (length ys)) (leave_fresh b xs (ap (λ y. has y xs) (sym (eqb-true x b g)) ∙ p.0)))
      | inr g ↦ rw g (ap suc (length_leave b xs p.1 (elim (or_cases (eqb x b) (has b xs) k) [ inl t ↦ absurd (true≢false (sym t ∙ g)) | inr t ↦ t ])))
    ]

lower : (f : ℕ → Bool) (n : ℕ) (xs : List ℕ) → Sound f (suc n) xs → Sound f n (leave n xs)
lower f n [] h = tt
lower f n (x ∷ xs) h = elim (cases_Bool (eqb x n)) [ inl g ↦ rw g (lower f n xs h.1) | inr g ↦ rw g ((less h.0.0 (eqb-false x n g), h.0.1), lower f n xs h.1) ]
  where
    less : x < suc n → (x ≡ n → ⊥) → x < n
    less l k = grind arith

sound_at : (f : ℕ → Bool) (n b : ℕ) (xs : List ℕ) → Sound f n xs → has b xs ≡ true → f b ≡ true
sound_at f n b [] h k = absurd (true≢false (sym k))
sound_at f n b (x ∷ xs) h k = elim (or_cases (eqb x b) (has b xs) k) [ inl t ↦ (ap f (sym (eqb-true x b t)) ∙ h.0.1) | inr t ↦ sound_at f n b xs h.1 t ]

-- as many different sound numbers as there are, at most
pigeon : (f : ℕ → Bool) (n : ℕ) (xs : List ℕ) → nodup xs ≡ true → Sound f n xs → length xs ≤ count_below f n
pigeon f zero [] h k = omega arith
pigeon f zero (x ∷ xs) h k = absurd (omega (arith, k.0.0))
pigeon f (suc n) xs h k =
    elim (cases_Bool (has n xs)) [
      | inl g ↦ omega (arith, length_leave n xs h g, pigeon f n (leave n xs) (nodup_leave n xs h) (lower f n xs k), ap {B = ℕ} (λ t. cond t 1 0) (sound_at f (suc n) n xs k g))
      | inr g ↦ omega (arith, pigeon f n (leave n xs) (nodup_leave n xs h) (lower f n xs k), ap length (leave_fresh n xs g))
    ]

sound_leave : (f : ℕ → Bool) (n b : ℕ) (xs : List ℕ) → Sound f n xs → Sound f n (leave b xs)
sound_leave f n b [] h = tt
sound_leave f n b (x ∷ xs) h = elim (cases_Bool (eqb x b)) [ inl g ↦ rw g (sound_leave f n b xs h.1) | inr g ↦ rw g (h.0, sound_leave f n b xs h.1) ]

sound_once : (f : ℕ → Bool) (n : ℕ) (bs : List ℕ) → Sound f n bs → Sound f n (once bs)
sound_once f n [] h = tt
sound_once f n (b ∷ bs) h = (h.0, sound_leave f n b (once bs) (sound_once f n bs h.1))

once_few : (f : ℕ → Bool) (n : ℕ) (bs : List ℕ) → Sound f n bs → length (once bs) ≤ count_below f n
once_few f n bs h = pigeon f n (once bs) (nodup_once bs) (sound_once f n bs h)

-- with room for every sound block it does not matter how much more there is
within_full : (f : ℕ → Bool) (n a b : ℕ) (bs : List ℕ) → Sound f n bs → count_below f n ≤ a → count_below f n ≤ b → within a bs ≡ within b bs
within_full f n a b [] h k l = refl
within_full f n a b (x ∷ bs) h k l =
    let c = once_few f n bs h.1 in
    (λ i. cond (has x ((take_all a (once bs) (omega (arith, c, k)) ∙ sym (take_all b (once bs) (omega (arith, c, l)))) i)) 1 0 + within_full f n a b bs h.1 k l i)

-- every number touched is sound
trail_sound : (cs : List Call) (d : Bare) → Sound d.store.sound d.store.size d.trail → Sound d.store.sound d.store.size (bare_after cs d).trail
trail_sound [] d h = h
trail_sound (sync ∷ cs) d h = trail_sound cs d h
trail_sound (read b v ∷ cs) d h = elim (cases_Bool (is_ok (bare_admitted d b (length v)))) [ inl k ↦ took k (trail_sound cs record { store = d.store; trail = b ∷ d.trail }) | inr k ↦ left k (trail_sound cs d h) ]
  where
    took : is_ok (bare_admitted d b (length v)) ≡ true → (Sound d.store.sound d.store.size (b ∷ d.trail) → Sound d.store.sound d.store.size (bare_after cs record { store = d.store; trail = b ∷ d.trail }).trail)
        → Sound d.store.sound d.store.size (bare_after cs (bare_stepped (read b v) d)).trail
    took k go =
        let p = passed d.store b (length v) (wrapped_ok (answer d.store b (length v)) (cond (ltb (length d.trail) 4000000000) (Ok tt) (Err Full)) k) in
        subst (λ x. Sound d.store.sound d.store.size (bare_after cs x).trail) (sym (cond_yes (is_ok (bare_admitted d b (length v))) record { store = d.store; trail = b ∷ d.trail } d k)) (go ((p.there, p.usable), h))

    left : is_ok (bare_admitted d b (length v)) ≡ false → Sound d.store.sound d.store.size (bare_after cs d).trail → Sound d.store.sound d.store.size (bare_after cs (bare_stepped (read b v) d)).trail
    left k go = subst (λ x. Sound d.store.sound d.store.size (bare_after cs x).trail) (sym (cond_no (is_ok (bare_admitted d b (length v))) record { store = d.store; trail = b ∷ d.trail } d k)) go
trail_sound (write b v ∷ cs) d h = elim (cases_Bool (is_ok (bare_admitted d b (length v)))) [ inl k ↦ took k (trail_sound cs record { store = put d.store b v; trail = b ∷ d.trail }) | inr k ↦ left k (trail_sound cs d h) ]
  where
    took : is_ok (bare_admitted d b (length v)) ≡ true → (Sound d.store.sound d.store.size (b ∷ d.trail) → Sound d.store.sound d.store.size (bare_after cs record { store = put d.store b v; trail = b ∷ d.trail }).trail)
        → Sound d.store.sound d.store.size (bare_after cs (bare_stepped (write b v) d)).trail
    took k go =
        let p = passed d.store b (length v) (wrapped_ok (answer d.store b (length v)) (cond (ltb (length d.trail) 4000000000) (Ok tt) (Err Full)) k) in
        subst (λ x. Sound d.store.sound d.store.size (bare_after cs x).trail) (sym (cond_yes (is_ok (bare_admitted d b (length v))) record { store = put d.store b v; trail = b ∷ d.trail } d k)) (go ((p.there, p.usable), h))

    left : is_ok (bare_admitted d b (length v)) ≡ false → Sound d.store.sound d.store.size (bare_after cs d).trail → Sound d.store.sound d.store.size (bare_after cs (bare_stepped (write b v) d)).trail
    left k go = subst (λ x. Sound d.store.sound d.store.size (bare_after cs x).trail) (sym (cond_no (is_ok (bare_admitted d b (length v))) record { store = put d.store b v; trail = b ∷ d.trail } d k)) go

-- the two piles serve by their sums and the one trail
module _ (m n : Model) (f : Mountable m) (g : Mountable n) (same : ReadAlike m.store n.store) (j k : ℕ) where
  pub first_served : (cs : List Call) → served m j cs ≡ within (sum_of m j) (trail_of cs m.store)
  first_served cs = counted m f cs j

  pub second_served : (cs : List Call) → served n k cs ≡ within (sum_of n k) (trail_of cs m.store)
  second_served cs = counted n g cs k ∙ ap (λ t. within (sum_of n k) t) (sym (same_trail m.store n.store same cs))

  pub alike_if : min (sum_of m j) (sound_count m.store) ≡ min (sum_of n k) (sound_count m.store) → ServeAlike m j n k
  alike_if h cs = first_served cs ∙ (elim (cases_eq (sum_of m j) (sum_of n k)) [
    | inl e ↦ ap (λ x. within x (trail_of cs m.store)) e
    | inr e ↦ within_full m.store.sound m.store.size (sum_of m j) (sum_of n k) (trail_of cs m.store) (trail_sound cs (bare m.store) tt) (left e) (right e)
  ] ∙ sym (second_served cs))
    where
      left : (sum_of m j ≡ sum_of n k → ⊥) → sound_count m.store ≤ sum_of m j
      left e = grind arith

      right : (sum_of m j ≡ sum_of n k → ⊥) → sound_count m.store ≤ sum_of n k
      right e = grind arith

-- the numbers that pass are different, below the limit, and as many as are counted
passing_below : (f : ℕ → Bool) (n b : ℕ) → n ≤ b → has b (passing f n) ≡ false
passing_below f zero b h = refl
passing_below f (suc n) b h =
    elim (cases_Bool (f n)) [ inl k ↦ rw k (or_from (eqb n b) (has b (passing f n)) (ne_eqb n b (λ e. omega arith)) (passing_below f n b (omega arith))) | inr k ↦ rw k (passing_below f n b (omega arith)) ]

passing_nodup : (f : ℕ → Bool) (n : ℕ) → nodup (passing f n) ≡ true
passing_nodup f zero = refl
passing_nodup f (suc n) = elim (cases_Bool (f n)) [ inl k ↦ rw k (nodup_cons n (passing f n) (passing_below f n n (omega arith)) (passing_nodup f n)) | inr k ↦ rw k (passing_nodup f n) ]

wider : (f : ℕ → Bool) (n : ℕ) (xs : List ℕ) → Sound f n xs → Sound f (suc n) xs
wider f n [] h = tt
wider f n (x ∷ xs) h = ((omega (arith, h.0.0), h.0.1), wider f n xs h.1)

passing_sound : (f : ℕ → Bool) (n : ℕ) → Sound f n (passing f n)
passing_sound f zero = tt
passing_sound f (suc n) = elim (cases_Bool (f n)) [ inl k ↦ rw k ((omega arith, k), wider f n (passing f n) (passing_sound f n)) | inr k ↦ rw k (wider f n (passing f n) (passing_sound f n)) ]

passing_length : (f : ℕ → Bool) (n : ℕ) → length (passing f n) ≡ count_below f n
passing_length f zero = refl
passing_length f (suc n) = elim (cases_Bool (f n)) [ inl k ↦ rw k (omega (arith, passing_length f n)) | inr k ↦ rw k (omega (arith, passing_length f n)) ]

count_le : (f : ℕ → Bool) (n : ℕ) → count_below f n ≤ n
count_le f zero = omega arith
count_le f (suc n) = elim (cases_Bool (f n)) [ inl k ↦ rw k (omega (arith, count_le f n)) | inr k ↦ rw k (omega (arith, count_le f n)) ]

-- different numbers: each is new when it is touched
once_same : (bs : List ℕ) → nodup bs ≡ true → once bs ≡ bs
once_same [] h = refl
once_same (b ∷ bs) h = let p = nodup_head b bs h in ap (λ xs. b ∷ leave b xs) (once_same bs p.1) ∙ ap (λ xs. b ∷ xs) (leave_fresh b bs p.0)

none_within : (k : ℕ) (bs : List ℕ) → nodup bs ≡ true → within k bs ≡ 0
none_within k [] h = refl
none_within k (b ∷ bs) h =
    let p = nodup_head b bs h in
    let q : has b (take k (once bs)) ≡ false = ap (λ xs. has b (take k xs)) (once_same bs p.1) ∙ fresh_take b k bs p.0 in
    omega (arith, ap {B = ℕ} (λ t. cond t 1 0) q, none_within k bs p.1)

has_last : (x : ℕ) (ms : List ℕ) → has x (ms ++ x ∷ []) ≡ true
has_last x [] = or_left (eqb x x) false (eq-eqb x x refl)
has_last x (y ∷ ms) = or_right (eqb y x) (has x (ms ++ x ∷ [])) (has_last x ms)

last_new : (x : ℕ) (ms : List ℕ) → nodup (ms ++ x ∷ []) ≡ true → has x ms ≡ false
last_new x [] h = refl
last_new x (y ∷ ms) h =
    let p = nodup_head y (ms ++ x ∷ []) h in
    or_from (eqb y x) (has x ms) (ne_eqb y x (λ e. true≢false (sym (has_last x ms) ∙ (ap (λ z. has z (ms ++ x ∷ [])) (sym e) ∙ p.0)))) (last_new x ms p.1)

-- different numbers read one after another, the last of the trail first, and then that one again: served by room for all of them and by no less
module _ (x : ℕ) (ms : List ℕ) (once_each : nodup (ms ++ x ∷ []) ≡ true) where
  abbrev all : List ℕ
  all = ms ++ x ∷ []

  pub missed : (k : ℕ) → k ≤ length ms → within k (x ∷ all) ≡ 0
  missed k h =
      let q : has x (take k (once all)) ≡ false = ap (λ xs. has x (take k xs)) (once_same all once_each) ∙ (ap (λ xs. has x xs) (take-append-le k ms (x ∷ []) h) ∙ fresh_take x k ms (last_new x ms once_each)) in
      omega (arith, ap {B = ℕ} (λ t. cond t 1 0) q, none_within k all once_each)

  pub met : (k : ℕ) → length ms < k → within k (x ∷ all) ≡ 1
  met k h =
      let q : has x (take k (once all)) ≡ true = ap (λ xs. has x (take k xs)) (once_same all once_each) ∙ (ap (λ xs. has x xs) (take_all k all (omega (arith, length-append ms (x ∷ [])))) ∙ has_last x ms) in
      omega (arith, ap {B = ℕ} (λ t. cond t 1 0) q, none_within k all once_each)

-- the reads that make a trail
abbrev pub reads_for : List ℕ → List Call
reads_for [] = []
reads_for (b ∷ bs) = reads_for bs ++ read b (replicate 256 0) ∷ []

pub reads_turned : (bs : List ℕ) → reads_of (reverse bs) ≡ reads_for bs
reads_turned [] = refl
reads_turned (b ∷ bs) = ap reads_of (reverse-cons b bs) ∙ (map-append (λ x. read x (replicate 256 0)) (reverse bs) (b ∷ []) ∙ ap (λ cs. cs ++ read b (replicate 256 0) ∷ []) (reads_turned bs))

-- turning numbers back and the first of them again
again_turned : (ms : List ℕ) (x : ℕ) → again (reverse (ms ++ x ∷ [])) ≡ reverse (x ∷ (ms ++ x ∷ []))
again_turned ms x = ap again (reverse-append ms (x ∷ [])) ∙ sym (reverse-cons x (ms ++ x ∷ []) ∙ ap (λ ys. ys ++ x ∷ []) (reverse-append ms (x ∷ [])))

bare_last : (cs : List Call) (c : Call) (d : Bare) → bare_after (cs ++ c ∷ []) d ≡ bare_stepped c (bare_after cs d)
bare_last [] c d = refl
bare_last (x ∷ cs) c d = bare_last cs c (bare_stepped x d)

pub reads_trail : (s : Store) (bs : List ℕ) → Sound s.sound s.size bs → length bs ≤ 4000000000 → bare_after (reads_for bs) (bare s) ≡ record { store = s; trail = bs }
reads_trail s [] h l = refl
reads_trail s (b ∷ bs) h l =
    bare_last (reads_for bs) (read b (replicate 256 0)) (bare s)
    ∙ (ap (λ d. bare_stepped (read b (replicate 256 0)) d) (reads_trail s bs h.1 (omega arith))
    ∙ cond_yes (is_ok (bare_admitted record { store = s; trail = bs } b 256)) record { store = s; trail = b ∷ bs } record { store = s; trail = bs } taken)
  where
    taken : is_ok (bare_admitted record { store = s; trail = bs } b 256) ≡ true
    taken = rw (lt-ltb b s.size h.0.0, h.0.1, lt-ltb (length bs) 4000000000 (omega arith))

-- a list of reads that room for a blocks does not serve and any more room does
pub record Telling (s : Store) (a : ℕ) : Type 0 where
  pub trail : List ℕ
  pub reads : reads_of (telling_reads s a) ≡ reads_for trail
  pub made : trail_of (reads_for trail) s ≡ trail
  pub short : (k : ℕ) → k ≤ a → within k trail ≡ 0
  pub enough : (k : ℕ) → a < k → within k trail ≡ 1

pub telling : (s : Store) → Lawful s → (a : ℕ) → a < sound_count s → Telling s a
telling s l a h =
    let n : length (passing s.sound s.size) ≡ sound_count s = passing_length s.sound s.size in
    let cut : take (a + 1) (passing s.sound s.size) ≡ take a (passing s.sound s.size) ++ get_or (passing s.sound s.size) a 0 ∷ [] = take_more (passing s.sound s.size) a 0 (omega (arith, n, h)) in
    let once_each : nodup (take a (passing s.sound s.size) ++ get_or (passing s.sound s.size) a 0 ∷ []) ≡ true = ap nodup (sym cut) ∙ nodup_take (a + 1) (passing s.sound s.size) (passing_nodup s.sound s.size) in
    let sound : Sound s.sound s.size (take a (passing s.sound s.size) ++ get_or (passing s.sound s.size) a 0 ∷ [])
    = subst (λ xs. Sound s.sound s.size xs) cut (All-take (λ x. (x < s.size) × (s.sound x ≡ true)) (a + 1) (passing s.sound s.size) (passing_sound s.sound s.size)) in
    let last : (get_or (passing s.sound s.size) a 0 < s.size) × (s.sound (get_or (passing s.sound s.size) a 0) ≡ true)
    = All-get_or (λ x. (x < s.size) × (s.sound x ≡ true)) (passing s.sound s.size) a 0 (omega (arith, n, h)) (passing_sound s.sound s.size) in
    let front : length (take a (passing s.sound s.size)) ≡ a = length-take-le a (passing s.sound s.size) (omega (arith, n, h)) in
    record {
      trail = get_or (passing s.sound s.size) a 0 ∷ (take a (passing s.sound s.size) ++ get_or (passing s.sound s.size) a 0 ∷ []);
      reads = ap (λ ys. reads_of (again (reverse ys))) cut
          ∙ (ap reads_of (again_turned (take a (passing s.sound s.size)) (get_or (passing s.sound s.size) a 0))
          ∙ reads_turned (get_or (passing s.sound s.size) a 0 ∷ (take a (passing s.sound s.size) ++ get_or (passing s.sound s.size) a 0 ∷ [])));
      made = ap (λ d. d.trail) (reads_trail s (get_or (passing s.sound s.size) a 0 ∷ (take a (passing s.sound s.size) ++ get_or (passing s.sound s.size) a 0 ∷ [])) (last, sound)
          (omega (arith, length-append (take a (passing s.sound s.size)) (get_or (passing s.sound s.size) a 0 ∷ []), front, count_le s.sound s.size, l.few, h)));
      short = λ k g. missed (get_or (passing s.sound s.size) a 0) (take a (passing s.sound s.size)) once_each k (omega (arith, front, g));
      enough = λ k g. met (get_or (passing s.sound s.size) a 0) (take a (passing s.sound s.size)) once_each k (omega (arith, front, g));
    }

module _ (m n : Model) (f : Mountable m) (g : Mountable n) (same : ReadAlike m.store n.store) (j k : ℕ) where
  -- the smaller sum is told apart from the greater where there are sound blocks enough
  pub told_apart : (t : ℕ) (w : Telling m.store t) → (served m j (reads_for w.trail) ≡ within (sum_of m j) w.trail) × (served n k (reads_for w.trail) ≡ within (sum_of n k) w.trail)
  told_apart t w =
      (first_served m n f g same j k (reads_for w.trail) ∙ ap (λ x. within (sum_of m j) x) w.made, second_served m n f g same j k (reads_for w.trail) ∙ ap (λ x. within (sum_of n k) x) w.made)

  -- the reads for the smaller sum are such a list
  module _ (t : ℕ) (least : min (sum_of m j) (sum_of n k) ≡ t) (w : Telling m.store t) where
    those : reads_of (telling_reads m.store (min (sum_of m j) (sum_of n k))) ≡ reads_for w.trail
    those = ap (λ x. reads_of (telling_reads m.store x)) least ∙ w.reads

    first_of_those : served m j (reads_of (telling_reads m.store (min (sum_of m j) (sum_of n k)))) ≡ within (sum_of m j) w.trail
    first_of_those = ap (λ cs. served m j cs) those ∙ (told_apart t w).0

    second_of_those : served n k (reads_of (telling_reads m.store (min (sum_of m j) (sum_of n k)))) ≡ within (sum_of n k) w.trail
    second_of_those = ap (λ cs. served n k cs) those ∙ (told_apart t w).1

  -- they tell the two apart wherever they differ
  pub tells : (min (sum_of m j) (sound_count m.store) ≡ min (sum_of n k) (sound_count m.store) → ⊥)
      → served m j (reads_of (telling_reads m.store (min (sum_of m j) (sum_of n k)))) ≡ served n k (reads_of (telling_reads m.store (min (sum_of m j) (sum_of n k)))) → ⊥
  tells d e =
      elim (cases_order (sum_of m j) (sum_of n k)) [
        | inl s ↦ d (ap (λ x. min x (sound_count m.store)) s)
        | inr o ↦ elim o [
          | inl l ↦ let w = telling m.store f.lawful.store (sum_of m j) (fewer l) in
              let least : min (sum_of m j) (sum_of n k) ≡ sum_of m j = omega arith in
              let z : ◌≡◌ {A = ℕ} 0 1 = sym (first_of_those (sum_of m j) least w ∙ w.short (sum_of m j) (omega arith)) ∙ (e ∙ (second_of_those (sum_of m j) least w ∙ w.enough (sum_of n k) l)) in omega (arith, z)
          | inr l ↦ let w = telling m.store f.lawful.store (sum_of n k) (greater l) in
              let least : min (sum_of m j) (sum_of n k) ≡ sum_of n k = omega arith in
              let z : ◌≡◌ {A = ℕ} 1 0 = sym (first_of_those (sum_of n k) least w ∙ w.enough (sum_of m j) l) ∙ (e ∙ (second_of_those (sum_of n k) least w ∙ w.short (sum_of n k) (omega arith))) in omega (arith, z)
        ]
      ]
    where
      fewer : sum_of m j < sum_of n k → sum_of m j < sound_count m.store
      fewer l = grind arith

      greater : sum_of n k < sum_of m j → sum_of n k < sound_count m.store
      greater l = grind arith

  only_alike : ServeAlike m j n k → min (sum_of m j) (sound_count m.store) ≡ min (sum_of n k) (sound_count m.store)
  only_alike s =
      elim (cases_eq (min (sum_of m j) (sound_count m.store)) (min (sum_of n k) (sound_count m.store))) [
        | inl e ↦ e
        | inr d ↦ absurd (tells d (s (reads_of (telling_reads m.store (min (sum_of m j) (sum_of n k))))))
      ]

  pub sharp : Sharp m j n k
  sharp = record { if = alike_if m n f g same j k; only_if = only_alike }

  pub equal_sums : EqualSums m j n k
  equal_sums = record {
    if = λ e. alike_if m n f g same j k (ap (λ x. min x (sound_count m.store)) e);
    only_if = λ h s. settle (only_alike s) h;
  }
    where
      settle : min (sum_of m j) (sound_count m.store) ≡ min (sum_of n k) (sound_count m.store) → min (sum_of m j) (sum_of n k) < sound_count m.store → sum_of m j ≡ sum_of n k
      settle e h = omega (arith, e, h)

pub paired : (m n : Model) → Mountable m → Mountable n → ReadAlike m.store n.store → Paired m n
paired m n f g same = record { alike = alike m n f g same; sharp = sharp m n f g same; equal_sums = equal_sums m n f g same }
