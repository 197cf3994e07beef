-- Restoring under a defect list: how the answers of listing and restoring make the whole.
use Rattle.std.proofs.Common.{◌≡◌, ℕ, false, cond, List, is_ok, Result, ap}
use Rattle.device.specs.Bytes.{of_bytes}
use Rattle.restoring.specs.declared.stack.StackFault.{StackFault}
use Rattle.device.proofs.Told.{told}
use Rattle.restoring.specs.Stacks.{BlocksTell}

-- a refused restore leaves the bytes of both images
pub refused_bytes : (r : Result ℕ StackFault) (f g : ℕ → List ℕ) (xs ys zs ws : List ℕ) → (of_bytes ys).at ≡ cond (is_ok r) f (of_bytes xs).at → (of_bytes ws).at ≡ cond (is_ok r) g (of_bytes zs).at
    → is_ok r ≡ false → (ys ≡ xs) × (ws ≡ zs)
refused_bytes r f g xs ys zs ws h k e = (told ys xs (λ b. ap (λ t. t b) (rw e at h)), told ws zs (λ b. ap (λ t. t b) (rw e at k)))

-- equal blocks make equal bytes
pub blocks_tell : BlocksTell
blocks_tell xs ys e = told xs ys (λ b. ap (λ f. f b) e)
