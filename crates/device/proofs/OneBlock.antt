-- Bytes as blocks, under a write to the part that one block is.
use Rattle.std.proofs.Common.{◌≡◌, ℕ, ◌+◌, ◌-◌, ◌*◌, ◌/◌, ◌≤◌, min, cond, eqb, ltb, List, length, take, drop, sym, ap, ◌∙◌, inl, inr, arith, length-append, length-drop, length-take}
use borrow.Rule.Slice.PartMut.{put_mid}
use Rattle.std.proofs.lemmas.List.{drop-take, drop_at, length-take-le}
use Rattle.std.proofs.lemmas.Slice.{take-put_mid_below, take-put_mid, drop-put_mid}
use Rattle.std.proofs.lemmas.Bool.{cases_Bool, cases_order, eqb-true, eqb-false}
use Rattle.device.specs.Store.{put}
use Rattle.device.specs.Bytes.{of_bytes}

-- k bytes written at a
module _ (xs v : List ℕ) (a k : ℕ) (there : a + k ≤ length xs) (full : length v ≡ k) where
  pub length_put : length (put_mid a k xs v) ≡ length xs
  length_put = simp (length-append, length-take, length-drop) (omega arith)

  pub part_same : take k (drop a (put_mid a k xs v)) ≡ v
  part_same =
      sym (drop-take a k (put_mid a k xs v))
      ∙ (ap (λ ys. drop a ys) (take-put_mid a k xs v (a + k) (omega arith) (omega arith)) ∙ drop_at (take a xs) v a (length-take-le a xs (omega arith)))

  pub part_below : (i n : ℕ) → i + n ≤ a → take n (drop i (put_mid a k xs v)) ≡ take n (drop i xs)
  part_below i n h =
      sym (drop-take i n (put_mid a k xs v)) ∙ (ap (λ ys. drop i ys) (take-put_mid_below a k xs v (i + n) h (omega arith)) ∙ drop-take i n xs)

  pub part_above : (i n : ℕ) → a + k ≤ i → take n (drop i (put_mid a k xs v)) ≡ take n (drop i xs)
  part_above i n h = ap (λ ys. take n ys) (drop-put_mid a k xs v i h (omega arith) full)

module _ (xs v : List ℕ) (b : ℕ) (there : 256 * b + 256 ≤ length xs) (full : length v ≡ 256) where
  block_at : (n : ℕ) → take 256 (drop (256 * n) (put_mid (256 * b) 256 xs v)) ≡ cond (eqb n b) v (take 256 (drop (256 * n) xs))
  block_at n =
      elim (cases_Bool (eqb n b)) [
        | inl h ↦ rw h (ap (λ m. take 256 (drop (256 * m) (put_mid (256 * b) 256 xs v))) (eqb-true n b h) ∙ part_same xs v (256 * b) 256 there full)
        | inr h ↦ rw h (elim (cases_order n b) [
          | inl e ↦ absurd (eqb-false n b h e)
          | inr o ↦ elim o [
            | inl l ↦ part_below xs v (256 * b) 256 there full (256 * n) 256 (omega arith)
            | inr l ↦ part_above xs v (256 * b) 256 there full (256 * n) 256 (omega arith)
          ]
        ])
      ]

  -- the one block changes, and nothing else
  pub put_block : of_bytes (put_mid (256 * b) 256 xs v) ≡ put (of_bytes xs) b v
  put_block =
      let e : length (put_mid (256 * b) 256 xs v) ≡ length xs = length_put xs v (256 * b) 256 there full in
      λ i. record { size = min (e i / 256) 1048576; at = λ n. block_at n i; sound = λ n. ltb n (min (e i / 256) 1048576) }

-- the same, as the write of the part leaves it
pub put_block_part : (xs v : List ℕ) (b : ℕ) → 256 * b + 256 ≤ length xs → length v ≡ 256 → (w : List ℕ) → w ≡ v
    → of_bytes (put_mid (256 * b) ((256 * b + 256) - 256 * b) xs w) ≡ put (of_bytes xs) b v
put_block_part xs v b there full w e =
    let k : (256 * b + 256) - 256 * b ≡ 256 = omega arith in
    ap (λ n. of_bytes (put_mid (256 * b) n xs w)) k ∙ (ap (λ u. of_bytes (put_mid (256 * b) 256 xs u)) e ∙ put_block xs v b there full)
