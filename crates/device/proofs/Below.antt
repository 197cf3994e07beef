-- A test of every number below a limit, number by number.
use Rattle.std.proofs.Common.{◌≡◌, ℕ, zero, suc, ◌+◌, ◌<◌, Bool, true, false, ◌&&◌, sym, refl, ap, ◌∙◌, inl, inr, add-one, arith}
use Rattle.std.proofs.lemmas.Bool.{cases_Bool, cases_eq, and_from, and_left, and_right, true≢false}
use Rattle.std.proofs.Math.Bool.{and_assoc, and-true}
use Rattle.std.specs.List.{list_all, range_with_len}
use Rattle.device.specs.Below.{all_below}

pub all_more : (f : ℕ → Bool) (n : ℕ) → all_below f n ≡ true → f n ≡ true → all_below f (n + 1) ≡ true
all_more f n h k = rw add-one (and_from (all_below f n) (f n) h k)

pub all_broken : (f : ℕ → Bool) (b n : ℕ) → b < n → f b ≡ false → all_below f n ≡ false
all_broken f b zero h k = absurd (omega arith)
all_broken f b (suc n) h k =
    elim (cases_eq b n) [ inl e ↦ and_right (all_below f n) (f n) (ap f (sym e) ∙ k) | inr e ↦ and_left (all_below f n) (f n) (all_broken f b n (omega arith) k) ]

pub all_at : (f : ℕ → Bool) (n b : ℕ) → all_below f n ≡ true → b < n → f b ≡ true
all_at f n b h l = elim (cases_Bool (f b)) [ inl e ↦ e | inr e ↦ absurd (true≢false (sym h ∙ all_broken f b n l e)) ]

-- one number more at the end
all_last : (f : ℕ → Bool) (a n : ℕ) → list_all f (range_with_len a (suc n)) ≡ (list_all f (range_with_len a n) && f (a + n))
all_last f a zero = and-true (f a) ∙ ap f (omega arith)
all_last f a (suc n) =
    ap (λ t. f a && t) (all_last f (a + 1) n)
    ∙ (sym (and_assoc (f a) (list_all f (range_with_len (a + 1) n)) (f (a + 1 + n)))
    ∙ ap (λ m. f a && list_all f (range_with_len (a + 1) n) && f m) (omega arith))

-- the same as a test of all numbers of a list
pub all_below_is : (f : ℕ → Bool) (n : ℕ) → list_all f (range_with_len 0 n) ≡ all_below f n
all_below_is f zero = refl
all_below_is f (suc n) = all_last f 0 n ∙ (ap (λ t. t && f (0 + n)) (all_below_is f n) ∙ ap (λ m. all_below f n && f m) (omega arith))
