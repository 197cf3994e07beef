-- Tallies as an array of which a part is used, and as a list.
use Rattle.std.proofs.Common.{◌≡◌, ℕ, zero, suc, ◌+◌, ◌-◌, ◌<◌, ◌≤◌, List, [], ◌∷◌, length, get_or, slice_get, take, set, None, sym, refl, ap, ◌∙◌, inl, inr, arith}
use Rattle.std.proofs.lemmas.Bool.{cases_eq, ne_eqb}
use Rattle.tier.specs.Questions.{nth, told}
use Rattle.pile.specs.Piles.{add_at}
use Rattle.pile.specs.Recency.{total}

-- an element is no more than the sum
pub within_total : (n : ℕ) (hs : List ℕ) (i : ℕ) → i < n → n ≤ length hs → get_or hs i 0 ≤ total (take n hs)
within_total n [] i h k = absurd (omega arith)
within_total zero (x ∷ hs) i h k = absurd (omega arith)
within_total (suc n) (x ∷ hs) zero h k = omega arith
within_total (suc n) (x ∷ hs) (suc i) h k = omega (arith, within_total n hs i (omega arith) (omega arith))

-- a place within the used part
raise_at : (n : ℕ) (hs : List ℕ) (i : ℕ) → i < n → n ≤ length hs → take n (set hs i (get_or hs i 0 + 1)) ≡ add_at (suc i) (take n hs)
raise_at n [] i h k = absurd (omega arith)
raise_at zero (x ∷ hs) i h k = absurd (omega arith)
raise_at (suc n) (x ∷ hs) zero h k = refl
raise_at (suc n) (x ∷ hs) (suc i) h k = ap (λ ys. x ∷ ys) (raise_at n hs i (omega arith) (omega arith))

pub raised : (n : ℕ) (hs : List ℕ) (level : ℕ) → 1 ≤ level → level ≤ n → n ≤ length hs → take n (set hs (level - 1) (get_or hs (level - 1) 0 + 1)) ≡ add_at level (take n hs)
raised n hs zero h k l = absurd (omega arith)
raised n hs (suc i) h k l = ap (λ j. take n (set hs j (get_or hs j 0 + 1))) (omega arith) ∙ raise_at n hs i (omega arith) l

-- no level has the number 0, or one past the last
none_raised : (hs : List ℕ) (level : ℕ) → length hs < level → add_at level hs ≡ hs
none_raised [] level h = refl
none_raised (x ∷ hs) zero h = refl
none_raised (x ∷ hs) (suc zero) h = absurd (omega arith)
none_raised (x ∷ hs) (suc (suc n)) h = ap (λ ys. x ∷ ys) (none_raised hs (suc n) (omega arith))

pub none_raised_outside : (hs : List ℕ) (level : ℕ) → (1 ≤ level → level ≤ length hs → ⊥) → add_at level hs ≡ hs
none_raised_outside [] level h = refl
none_raised_outside (x ∷ hs) zero h = refl
none_raised_outside (x ∷ hs) (suc n) h = none_raised (x ∷ hs) (suc n) (far h)
  where
    far : (1 ≤ suc n → suc n ≤ length (x ∷ hs) → ⊥) → length (x ∷ hs) < suc n
    far g = grind arith

-- numbers of levels that are told as 255 have no tally
pub raised_told : (hs : List ℕ) (level : ℕ) → length hs ≤ 8 → add_at (told level) hs ≡ add_at level hs
raised_told hs level h =
    elim (cases_eq (told level) level) [ inl e ↦ ap (λ n. add_at n hs) e | inr n ↦ none_raised hs (told level) (past n) ∙ sym (none_raised hs level (far n)) ]
  where
    past : (told level ≡ level → ⊥) → length hs < told level
    past n = grind arith

    far : (told level ≡ level → ⊥) → length hs < level
    far n = grind arith

nth_get : (hs : List ℕ) (i : ℕ) → nth hs (i + 1) ≡ slice_get hs i
nth_get [] i = refl
nth_get (x ∷ hs) zero = refl
nth_get (x ∷ hs) (suc i) = rw (ne_eqb (suc i + 1) 1 (λ e. omega arith)) (ap (λ j. nth hs j) (omega arith) ∙ nth_get hs i)

-- what stands at a place counted from 1
pub nth_from : (hs : List ℕ) (level i : ℕ) → i + 1 ≡ level → slice_get hs i ≡ nth hs level
nth_from hs level i e = sym (nth_get hs i) ∙ ap (λ j. nth hs j) e

nth_zero : {X : Type 0} (xs : List X) → nth xs 0 ≡ None
nth_zero [] = refl
nth_zero (x ∷ xs) = nth_zero xs

-- nothing stands at place 0
pub nth_none : (hs : List ℕ) (level : ℕ) → level ≡ 0 → None ≡ nth hs level
nth_none hs level e = sym (ap (λ j. nth hs j) e ∙ nth_zero hs)
