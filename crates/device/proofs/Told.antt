-- The blocks of bytes, all together, tell the bytes.
use Rattle.std.proofs.Common.{◌≡◌, ℕ, ◌+◌, ◌*◌, ◌/◌, ◌%◌, ◌<◌, ◌≤◌, cond, ltb, List, ◌++◌, length, get_or, take, drop, sym, ap, ◌∙◌, inl, inr, arith, length-drop, length-take}
use Rattle.std.proofs.lemmas.List.{same_lists, get_or-take, get_or-drop, drop-take, take-append-le, length-take-le, take-take}
use Rattle.std.proofs.lemmas.Slice.{drop-append-drop}
use Rattle.std.proofs.lemmas.Bool.{cases_Bool, ltb-true, ltb-false}

abbrev block : ℕ → List ℕ → List ℕ
block b xs = take 256 (drop (256 * b) xs)

module _ (xs ys : List ℕ) (same : (b : ℕ) → block b xs ≡ block b ys) where
  no_longer : length ys ≤ length xs
  no_longer = omega (arith, simp (length-take, length-drop) at (ap length (same (length xs / 256))))

byte_of_block : (xs : List ℕ) (k d : ℕ) → get_or xs k d ≡ get_or (block (k / 256) xs) (k % 256) d
byte_of_block xs k d =
    let e : k ≡ 256 * (k / 256) + k % 256 = omega arith in
    sym (get_or-take 256 (drop (256 * (k / 256)) xs) (k % 256) d (omega arith) ∙ (get_or-drop (256 * (k / 256)) xs (k % 256) d ∙ ap (λ n. get_or xs n d) (sym e)))

pub told : (xs ys : List ℕ) → ((b : ℕ) → block b xs ≡ block b ys) → xs ≡ ys
told xs ys same =
    same_lists xs ys (omega (arith, no_longer xs ys same, no_longer ys xs (λ b. sym (same b))))
    (λ k d h. byte_of_block xs k d ∙ (ap (λ zs. get_or zs (k % 256) d) (same (k / 256)) ∙ sym (byte_of_block ys k d)))

-- the first n blocks of a, then the rest of i
module _ (a i : List ℕ) (n : ℕ) (few : 256 * n ≤ length a) (fit : 256 * n ≤ length i) where
  front : length (take (256 * n) a) ≡ 256 * n
  front = length-take-le (256 * n) a few

  pub joined_block : (b : ℕ) → block b (take (256 * n) a ++ drop (256 * n) i) ≡ cond (ltb b n) (block b a) (block b i)
  joined_block b =
      elim (cases_Bool (ltb b n)) [
        | inr h ↦ rw h (ap (λ zs. take 256 zs) (drop-append-drop (256 * n) i (take (256 * n) a) (256 * b) (omega (arith, ltb-false b n h)) front))
        | inl h ↦ rw h (in_front (ltb-true b n h))
      ]
    where
      in_front : b < n → block b (take (256 * n) a ++ drop (256 * n) i) ≡ block b a
      in_front l =
          sym (drop-take (256 * b) 256 (take (256 * n) a ++ drop (256 * n) i))
          ∙ (ap (λ zs. drop (256 * b) zs) (take-append-le (256 * b + 256) (take (256 * n) a) (drop (256 * n) i) (omega (arith, front)) ∙ take-take (256 * b + 256) (256 * n) a (omega arith))
          ∙ drop-take (256 * b) 256 a)
