-- What a device stands over tells which loan it is.
use Rattle.std.proofs.Common.{◌≡◌, ap}
use Rattle.std.specs.Borrow.{GName}
use Rattle.device.specs.Loans.{Loans, owned, lent, listed, striped}

name_of : GName → Loans → GName
name_of n owned = n
name_of n (lent m below) = m
name_of n (listed xs below) = n
name_of n (striped u first second) = n

pub same_name : {n m : GName} {a b : Loans} → lent n a ≡ lent m b → n ≡ m
unfolding name_of
same_name {n = n} e = ap (name_of n) e
