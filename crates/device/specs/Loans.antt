-- Which memory of its caller a device stands over, and how: what is needed to tell a caller's bytes from a device's blocks once the device is gone.
use Rattle.std.specs.Prelude.{ℕ, List}
use Rattle.std.specs.Borrow.{GName}

-- `owned`: none. `lent`: a slice or a device that is lent for writing, by the name of the loan, and what that device itself stands over.
-- `listed`: a defect list with its numbers. `striped`: two devices with the unit.
pub data Loans : Type 0 where
  owned : Loans
  lent : GName → Loans → Loans
  listed : List ℕ → Loans → Loans
  striped : ℕ → Loans → Loans → Loans
