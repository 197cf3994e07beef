-- Taking the numbers that pass a test from the greatest down.
use Rattle.std.proofs.Common.{◌≡◌, ℕ, zero, suc, ◌+◌, ◌-◌, ◌<◌, Bool, true, false, List, [], ◌∷◌, ◌++◌, take, sym, ap, ◌∙◌, append_assoc, arith}
use Rattle.pile.specs.Reads.{passing}

module _ (f : ℕ → Bool) where
  skip_suc : (n : ℕ) → f n ≡ false → passing f (suc n) ≡ passing f n
  skip_suc n h = rw h

  find_suc : (n : ℕ) → f n ≡ true → passing f (suc n) ≡ n ∷ passing f n
  find_suc n h = rw h

  -- the greatest that is left does not pass
  pub skipped : (n : ℕ) → 0 < n → f (n - 1) ≡ false → passing f n ≡ passing f (n - 1)
  skipped zero h k = absurd (omega arith)
  skipped (suc n) h k = let e : suc n - 1 ≡ n = omega arith in skip_suc n (ap f (sym e) ∙ k) ∙ ap (λ m. passing f m) (sym e)

  -- it passes
  pub taken : (n : ℕ) → 0 < n → f (n - 1) ≡ true → passing f n ≡ (n - 1) ∷ passing f (n - 1)
  taken zero h k = absurd (omega arith)
  taken (suc n) h k = let e : suc n - 1 ≡ n = omega arith in find_suc n (ap f (sym e) ∙ k) ∙ ap (λ m. m ∷ passing f m) (sym e)

-- one more taken in front of the rest
moved : (xs ys : List ℕ) (x m : ℕ) → xs ++ take (suc m) (x ∷ ys) ≡ (xs ++ x ∷ []) ++ take m ys
moved xs ys x m = sym (append_assoc xs (x ∷ []) (take m ys))

pub one_moved : (xs ys zs : List ℕ) (x count had : ℕ) → had < count → xs ++ take (count - had) (x ∷ ys) ≡ zs → (xs ++ x ∷ []) ++ take (count - (had + 1)) ys ≡ zs
one_moved xs ys zs x count had h q =
    let e : count - had ≡ suc (count - (had + 1)) = omega arith in
    sym (moved xs ys x (count - (had + 1))) ∙ (ap (λ m. xs ++ take m (x ∷ ys)) (sym e) ∙ q)
