-- Restoring from bytes to bytes.
use Rattle.std.specs.Prelude.{ℕ, cond, List, ◌++◌, length, drop, is_ok, Result}
use Rattle.device.specs.Bytes.{of_bytes, block_bytes}
use Rattle.layers.specs.declared.restoring.RestoreFault.{RestoreFault}
use Rattle.layers.specs.Restores.{restore_answer}

abbrev pub image_answer : List ℕ → List ℕ → Result ℕ RestoreFault
image_answer archive image = restore_answer (of_bytes archive) (of_bytes image)

-- the archive's blocks, then the image's own bytes; a refusal leaves the image
abbrev pub image_restored : List ℕ → List ℕ → List ℕ
image_restored archive image = cond (is_ok (image_answer archive image)) (block_bytes archive ++ drop (length (block_bytes archive)) image) image
