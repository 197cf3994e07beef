-- The blocks of a stripe tell those of both its devices.
use Rattle.std.proofs.Common.{◌≡◌, ℕ, ◌<◌, List, sym, ap, ◌∙◌}
use Rattle.device.specs.Store.{Store}
use Rattle.layers.specs.Stripes.{home_at, striped}
use Rattle.restoring.specs.Stacks.{first_block, second_block}
use Rattle.restoring.proofs.Sides.{first_home, second_home}
use Rattle.replaying.specs.Layouts.{first_half, second_half}

module _ (u : ℕ) (some : 0 < u) (a b : Store) where
  pub first_at : (n : ℕ) → (striped u a b).at (first_block u n) ≡ a.at n
  first_at n = ap (λ h. home_at a b h) (first_home u some n)

  pub second_at : (n : ℕ) → (striped u a b).at (second_block u n) ≡ b.at n
  second_at n = ap (λ h. home_at a b h) (second_home u some n)

  module _ (f : ℕ → List ℕ) (e : (striped u a b).at ≡ f) where
    pub first_told : a.at ≡ first_half u f
    first_told = λ i n. (sym (first_at n) ∙ ap (λ g. g (first_block u n)) e) i

    pub second_told : b.at ≡ second_half u f
    second_told = λ i n. (sym (second_at n) ∙ ap (λ g. g (second_block u n)) e) i
