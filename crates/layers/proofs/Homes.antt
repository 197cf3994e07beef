-- No two blocks of a stripe lie at the same place, so a write there changes one block of the stripe.
use Rattle.std.proofs.Common.{◌≡◌, ℕ, ◌+◌, ◌*◌, ◌/◌, ◌%◌, ◌<◌, min, Bool, true, false, cond, ◌&&◌, eqb, ltb, List, length, Ok, Result, sym, refl, ap, ◌∙◌, inl, inr, mod-lt, mod-eq_of_lt, mul-add, arith}
use native.Mathlib.Nat.{mul-add-div, mul-add-mod_self_left, div-eq_of_lt, div-add-mod}
use Rattle.std.proofs.lemmas.Bool.{and_parts, cases_Bool, eqb-true, eqb-false, eq-eqb, lt-ltb}
use Rattle.device.specs.declared.fault.DeviceFault.{DeviceFault}
use Rattle.device.specs.Answers.{answer, written}
use Rattle.device.specs.Store.{Store, Lawful, put}
use Rattle.device.proofs.Outcomes.{admitted, written_ok}
use Rattle.layers.specs.declared.home.Home.{Home}
use Rattle.layers.specs.declared.home.Home.TheVariants.{First, Second}
use Rattle.layers.specs.Stripes.{home, home_at, home_sound, striped, striped_size}
use Rattle.layers.specs.Striped.{home_number, some_unit}

-- the block that lies at a place
abbrev block_at : ℕ → Home → ℕ
block_at u (First n) = 2 * (u * (n / u)) + n % u
block_at u (Second n) = 2 * (u * (n / u)) + u + n % u

module _ (u b : ℕ) (some : 0 < u) where
  number_div : home_number u b / u ≡ b / u / 2
  number_div = mul-add-div some (b / u / 2) (b % u) ∙ omega (arith, div-eq_of_lt (mod-lt b some))

  number_mod : home_number u b % u ≡ b % u
  number_mod = mul-add-mod_self_left u (b / u / 2) (b % u) ∙ mod-eq_of_lt (mod-lt b some)

  even_back : b / u % 2 ≡ 0 → block_at u (First (home_number u b)) ≡ b
  even_back e =
      let q : b / u ≡ b / u / 2 + b / u / 2 = omega arith in
      let p : u * (b / u) ≡ u * (b / u / 2) + u * (b / u / 2) = ap (λ x. u * x) q ∙ mul-add u (b / u / 2) (b / u / 2) in
      rw (number_div, number_mod) (omega (arith, div-add-mod b u))

  odd_back : (b / u % 2 ≡ 0 → ⊥) → block_at u (Second (home_number u b)) ≡ b
  odd_back e =
      let q : b / u ≡ (b / u / 2 + b / u / 2) + 1 = omega arith in
      let p : u * (b / u) ≡ u * ((b / u / 2 + b / u / 2) + 1) = ap (λ x. u * x) q in
      rw (number_div, number_mod) (omega (arith, div-add-mod b u, mul-add u (b / u / 2 + b / u / 2) 1, mul-add u (b / u / 2) (b / u / 2)))

  pub home_back : block_at u (home u b) ≡ b
  home_back = elim (cases_Bool (eqb (b / u % 2) 0)) [ inl e ↦ rw e (even_back (eqb-true (b / u % 2) 0 e)) | inr e ↦ rw e (odd_back (eqb-false (b / u % 2) 0 e)) ]

abbrev same_home : Home → Home → Bool
same_home (First n) (First m) = eqb n m
same_home (First n) (Second m) = false
same_home (Second n) (First m) = false
same_home (Second n) (Second m) = eqb n m

same_home_refl : (h : Home) → same_home h h ≡ true
same_home_refl (First n) = eq-eqb n n refl
same_home_refl (Second n) = eq-eqb n n refl

same_home_eq : (h g : Home) → same_home h g ≡ true → h ≡ g
same_home_eq (First n) (First m) e = ap First (eqb-true n m e)
same_home_eq (First n) (Second m) e = absurd (let z : ◌≡◌ {A = ℕ} 0 1 = cc in omega arith)
same_home_eq (Second n) (First m) e = absurd (let z : ◌≡◌ {A = ℕ} 0 1 = cc in omega arith)
same_home_eq (Second n) (Second m) e = ap Second (eqb-true n m e)

same_home_is : (u n b : ℕ) → 0 < u → same_home (home u n) (home u b) ≡ eqb n b
same_home_is u n b some =
    elim (cases_Bool (eqb n b)) [
      | inl e ↦ rw e (ap (λ m. same_home (home u m) (home u b)) (eqb-true n b e) ∙ same_home_refl (home u b))
      | inr e ↦ rw e (elim (cases_Bool (same_home (home u n) (home u b))) [
        | inr f ↦ f
        | inl t ↦ absurd (eqb-false n b e (sym (home_back u n some) ∙ (ap (λ h. block_at u h) (same_home_eq (home u n) (home u b) t) ∙ home_back u b some)))
      ])
    ]

-- the two stores after a write at a place
abbrev pub first_put : Home → List ℕ → Store → Store
first_put (First n) v s = put s n v
first_put (Second n) v s = s

abbrev pub second_put : Home → List ℕ → Store → Store
second_put (First n) v t = t
second_put (Second n) v t = put t n v

put_at : (s t : Store) (v : List ℕ) (g h : Home) → home_at (first_put g v s) (second_put g v t) h ≡ cond (same_home h g) v (home_at s t h)
put_at s t v (First n) (First m) = refl
put_at s t v (First n) (Second m) = refl
put_at s t v (Second n) (First m) = refl
put_at s t v (Second n) (Second m) = refl

put_keeps : (s t : Store) (v : List ℕ) (g : Home) → (((first_put g v s).size ≡ s.size) × ((second_put g v t).size ≡ t.size)) × (((first_put g v s).sound ≡ s.sound) × ((second_put g v t).sound ≡ t.sound))
put_keeps s t v (First n) = ((refl, refl), (refl, refl))
put_keeps s t v (Second n) = ((refl, refl), (refl, refl))

sound_keeps : (s t : Store) (v : List ℕ) (g h : Home) → home_sound (first_put g v s) (second_put g v t) h ≡ home_sound s t h
sound_keeps s t v (First n) (First m) = refl
sound_keeps s t v (First n) (Second m) = refl
sound_keeps s t v (Second n) (First m) = refl
sound_keeps s t v (Second n) (Second m) = refl

-- a write at the place of block b is a write of block b
pub put_striped : (u : ℕ) (s t : Store) (b : ℕ) (v : List ℕ) → 0 < u
    → striped u (first_put (home u b) v s) (second_put (home u b) v t) ≡ put (striped u s t) b v
put_striped u s t b v some =
    let k = put_keeps s t v (home u b) in
    λ i. record {
      size = striped_size u (k.0.0 i) (k.0.1 i);
      at = λ n. (put_at s t v (home u b) (home u n) ∙ ap (λ e. cond e v (home_at s t (home u n))) (same_home_is u n b some)) i;
      sound = λ n. ltb n (striped_size u (k.0.0 i) (k.0.1 i)) && sound_keeps s t v (home u b) (home u n) i;
    }

-- what the device of a place answers
abbrev pub home_answer : Store → Store → Home → ℕ → Result (Unit {0}) DeviceFault
home_answer s t (First n) len = answer s n len
home_answer s t (Second n) len = answer t n len

home_accepts : (s t : Store) → Lawful s → Lawful t → (h : Home) (len : ℕ) → len ≡ 256 → home_sound s t h ≡ true → home_answer s t h len ≡ Ok tt
home_accepts s t l k (First n) len f e = rw (eq-eqb len 256 f, lt-ltb n s.size (l.there n e), e)
home_accepts s t l k (Second n) len f e = rw (eq-eqb len 256 f, lt-ltb n t.size (k.there n e), e)

-- where the stripe accepts, the device of the place does
pub home_answers : (u : ℕ) (s t : Store) → Lawful s → Lawful t → (b len : ℕ) → answer (striped u s t) b len ≡ Ok tt → home_answer s t (home u b) len ≡ Ok tt
home_answers u s t l k b len a =
    let d = admitted (striped u s t) b len a in
    home_accepts s t l k (home u b) len d.full (and_parts (ltb b (striped_size u s.size t.size)) (home_sound s t (home u b)) d.usable).1

-- a write that the stripe accepts, at its place: the device there accepts it, and the stripe has that one block replaced
module _ (u : ℕ) (s t : Store) (l : Lawful s) (k : Lawful t) (b : ℕ) (v : List ℕ) (a : answer (striped u s t) b (length v) ≡ Ok tt) where
  some : 0 < u
  some = some_unit u (min (min s.size t.size) 524288) b (admitted (striped u s t) b (length v) a).there

  at_home : (h : Home) → home u b ≡ h → (home_answer s t h (length v) ≡ Ok tt) × (striped u (first_put h v s) (second_put h v t) ≡ written (striped u s t) b v)
  at_home h e = (
    ap (λ g. home_answer s t g (length v)) (sym e) ∙ home_answers u s t l k b (length v) a,
    ap (λ g. striped u (first_put g v s) (second_put g v t)) (sym e) ∙ (put_striped u s t b v some ∙ sym (written_ok (striped u s t) b v a)),
  )

  pub write_first : (n : ℕ) → home u b ≡ First n → (x : Store) → x ≡ written s n v → striped u x t ≡ written (striped u s t) b v
  write_first n e x q =
      let w = at_home (First n) e in
      ap (λ y. striped u y t) (q ∙ written_ok s n v w.0) ∙ w.1

  pub write_second : (n : ℕ) → home u b ≡ Second n → (y : Store) → y ≡ written t n v → striped u s y ≡ written (striped u s t) b v
  write_second n e y q =
      let w = at_home (Second n) e in
      ap (λ x. striped u s x) (q ∙ written_ok t n v w.0) ∙ w.1
