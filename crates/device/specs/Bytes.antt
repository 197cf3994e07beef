-- Plain bytes as blocks.
use Rattle.std.specs.Prelude.{ℕ, ◌*◌, ◌/◌, min, List, length, take, drop, nat_lt}
use Rattle.device.specs.Store.{Store}

-- how many whole blocks there are, at most 1,048,576
abbrev pub block_count : List ℕ → ℕ
block_count xs = min (length xs / 256) 1048576

-- block b is the 256 bytes from 256 · b; none is defective
abbrev pub of_bytes : List ℕ → Store
of_bytes xs = record { size = block_count xs; at = λ b. take 256 (drop (256 * b) xs); sound = λ b. nat_lt b (block_count xs) }

-- the bytes of all the blocks, in their order
abbrev pub block_bytes : List ℕ → List ℕ
block_bytes xs = take (256 * block_count xs) xs
