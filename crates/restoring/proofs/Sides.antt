-- Every place of the two devices of a stripe is the place of some block, so the stripe's blocks tell both.
use Rattle.std.proofs.Common.{◌≡◌, ℕ, ◌+◌, ◌*◌, ◌/◌, ◌%◌, ◌<◌, cond, inl, inr, leb, ltb, Ok, Err, Result, sym, ap, ◌∙◌, mod-lt, mod-eq_of_lt, arith}
use native.Mathlib.Nat.{mul-add-div, mul-add-mod_self_left, div-eq_of_lt, div-add-mod}
use Rattle.std.proofs.lemmas.Bool.{and_parts, cases_Bool, eq-eqb, leb-true, ne_eqb}
use Rattle.device.specs.Store.{Store}
use Rattle.layers.specs.declared.home.Home.TheVariants.{First, Second}
use Rattle.layers.specs.Stripes.{home, home_at, striped, is_unit, unit_of}
use Rattle.restoring.specs.declared.stack.StackFault.{StackFault}
use Rattle.restoring.specs.Stacks.{blocks_after, first_block, second_block, first_after, second_after}

module _ (u : ℕ) (some : 0 < u) where
  -- run k of the stripe and r within it
  module _ (k r : ℕ) (short : r < u) where
    run_div : (u * k + r) / u ≡ k
    run_div = mul-add-div some k r ∙ omega (arith, div-eq_of_lt short)

    run_mod : (u * k + r) % u ≡ r
    run_mod = mul-add-mod_self_left u k r ∙ mod-eq_of_lt short

    run_even : k % 2 ≡ 0 → home u (u * k + r) ≡ First (u * (k / 2) + r)
    run_even e = rw (run_div, run_mod, eq-eqb (k % 2) 0 e)

    run_odd : (k % 2 ≡ 0 → ⊥) → home u (u * k + r) ≡ Second (u * (k / 2) + r)
    run_odd e = rw (run_div, run_mod, ne_eqb (k % 2) 0 e)

  pub first_home : (n : ℕ) → home u (first_block u n) ≡ First n
  first_home n =
      let h : 2 * (n / u) / 2 ≡ n / u = omega arith in
      run_even (2 * (n / u)) (n % u) (mod-lt n some) (omega arith) ∙ ap First (ap (λ k. u * k + n % u) h ∙ div-add-mod n u)

  pub second_home : (n : ℕ) → home u (second_block u n) ≡ Second n
  second_home n =
      let h : (2 * (n / u) + 1) / 2 ≡ n / u = omega arith in
      run_odd (2 * (n / u) + 1) (n % u) (mod-lt n some) (λ e. omega arith) ∙ ap Second (ap (λ k. u * k + n % u) h ∙ div-add-mod n u)

  -- what a restore onto the stripe leaves in both devices
  pub sides : (r : Result ℕ StackFault) (s a b c d : Store) → (striped u c d).at ≡ blocks_after r s (striped u a b)
      → (c.at ≡ first_after r u s a) × (d.at ≡ second_after r u s b)
  sides (Ok m) s a b c d e = (
    λ i n. (sym (ap (λ h. home_at c d h) (first_home n)) ∙ (ap (λ f. f (first_block u n)) e
        ∙ ap (λ h. cond (ltb (first_block u n) s.size) (s.at (first_block u n)) (home_at a b h)) (first_home n))) i,
    λ i n. (sym (ap (λ h. home_at c d h) (second_home n)) ∙ (ap (λ f. f (second_block u n)) e
        ∙ ap (λ h. cond (ltb (second_block u n) s.size) (s.at (second_block u n)) (home_at a b h)) (second_home n))) i,
  )
  sides (Err f) s a b c d e = (
    λ i n. (sym (ap (λ h. home_at c d h) (first_home n)) ∙ (ap (λ g. g (first_block u n)) e ∙ ap (λ h. home_at a b h) (first_home n))) i,
    λ i n. (sym (ap (λ h. home_at c d h) (second_home n)) ∙ (ap (λ g. g (second_block u n)) e ∙ ap (λ h. home_at a b h) (second_home n))) i,
  )

-- a number that is a unit is above 0
pub unit_some : (u v : ℕ) → ◌≡◌ (Ok v) (unit_of u) → (v ≡ u) × (0 < u)
unit_some u v h =
    elim (cases_Bool (is_unit u)) [
      | inl e ↦ (let g : ◌≡◌ (Ok v) (Ok u) = rw e at h in cc, leb-true 1 u (and_parts (leb 1 u) (leb u 64) e).0)
      | inr e ↦ absurd (let g = rw e at h in let z : ◌≡◌ {A = ℕ} 0 1 = cc in omega arith)
    ]
