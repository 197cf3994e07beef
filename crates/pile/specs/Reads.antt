-- Reads that tell apart how much room two caches have.
use Rattle.std.specs.Prelude.{ℕ, zero, suc, ◌+◌, Bool, cond, List, [], ◌∷◌, ◌++◌, map, reverse, take, replicate}
use Rattle.device.specs.Store.{Store}
use Rattle.pile.specs.Piles.{Call, read}

-- reads of some blocks in their order
abbrev pub reads_of : List ℕ → List Call
reads_of bs = map (λ b. read b (replicate 256 0)) bs

-- the numbers below n that pass a test, the greatest first
abbrev pub passing : (ℕ → Bool) → ℕ → List ℕ
passing f zero = []
passing f (suc n) = cond (f n) (n ∷ passing f n) (passing f n)

-- and the first of them again
abbrev pub again : List ℕ → List ℕ
again [] = []
again (b ∷ bs) = b ∷ (bs ++ b ∷ [])

-- one block more than there is room for: the greatest sound numbers, rising, and then the first of them again
abbrev pub telling : Store → ℕ → List ℕ
telling s room = again (reverse (take (room + 1) (passing s.sound s.size)))
