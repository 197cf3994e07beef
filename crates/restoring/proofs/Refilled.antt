-- What a restore leaves in the bytes of an image, from what it leaves in its blocks.
use Rattle.std.proofs.Common.{◌≡◌, ℕ, ◌*◌, ◌≤◌, true, leb, List, ◌++◌, length, drop, is_ok, sym, ap, ◌∙◌, inl, inr, arith}
use Rattle.std.proofs.lemmas.List.{length-take-le}
use Rattle.std.proofs.lemmas.Bool.{cases_Bool, leb-true, true≢false}
use Rattle.device.specs.Bytes.{of_bytes, block_count, block_bytes}
use Rattle.device.specs.Store.{Store}
use Rattle.device.proofs.Told.{told, joined_block}
use Rattle.layers.specs.Restores.{restore_answer, restored, copied}
use Rattle.restoring.specs.Slices.{image_answer, image_restored}

wide : (s d : Store) → is_ok (restore_answer s d) ≡ true → s.size ≤ d.size
wide s d h = elim (cases_Bool (leb s.size d.size)) [ inl w ↦ leb-true s.size d.size w | inr w ↦ absurd (true≢false (sym (rw w at h))) ]

module _ (a i x : List ℕ) where
  after_ok : is_ok (image_answer a i) ≡ true → of_bytes x ≡ copied (block_count a) (of_bytes a) (of_bytes i) → x ≡ block_bytes a ++ drop (length (block_bytes a)) i
  after_ok h e =
      let w : block_count a ≤ block_count i = wide (of_bytes a) (of_bytes i) h in
      let l : length (block_bytes a) ≡ 256 * block_count a = length-take-le (256 * block_count a) a (omega arith) in
      rw l (told x (block_bytes a ++ drop (256 * block_count a) i)
      (λ b. ap (λ s. s.at b) e ∙ sym (joined_block a i (block_count a) (omega arith) (omega arith) b)))

  pub refilled : of_bytes x ≡ restored (of_bytes a) (of_bytes i) → x ≡ image_restored a i
  refilled e =
      elim (cases_Bool (is_ok (image_answer a i))) [ inl h ↦ rw h (after_ok h (rw h at e)) | inr h ↦ rw h (told x i (λ b. ap (λ s. s.at b) (rw h at e))) ]
