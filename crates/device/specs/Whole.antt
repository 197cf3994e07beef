-- Bytes seen as blocks are a lawful store.
use Rattle.std.specs.Prelude.{ℕ, ◌+◌, ◌*◌, ◌<◌, ◌≤◌, List, length}
use Rattle.std.proofs.Common.{arith, ltb-true, length-take, length-drop}
use Rattle.device.specs.Store.{Lawful}
use Rattle.device.specs.Bytes.{of_bytes, block_count}

pub fits : (xs : List ℕ) (b : ℕ) → b < block_count xs → 256 * b + 256 ≤ length xs
fits xs b h = omega arith

pub of_bytes_lawful : (xs : List ℕ) → Lawful (of_bytes xs)
of_bytes_lawful xs = record { few = omega arith; there = λ b h. ltb-true _ _ h; whole = λ b h. let k : 256 * b + 256 ≤ length xs = fits xs b h in simp (length-take, length-drop) (omega arith) }
