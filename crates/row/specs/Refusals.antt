-- Which capacities a row takes, and the number of each refusal.
use Rattle.std.specs.Prelude.{ℕ, cond, ◌&&◌, Ok, Err, Result, nat_le}
use Rattle.row.specs.declared.capacity.CapacityFault.{CapacityFault}
use Rattle.row.specs.declared.capacity.CapacityFault.TheVariants.{Outside, InUse}

abbrev pub capacity_number_of : CapacityFault → ℕ
capacity_number_of Outside = 8
capacity_number_of InUse = 8

-- a capacity is a number of entries from 1 to 16, set while the row has none
abbrev pub capacity_answer : ℕ → ℕ → Result (Unit {0}) CapacityFault
capacity_answer n len = cond (nat_le 1 n && nat_le n 16) (cond (nat_le len 0) (Ok tt) (Err InUse)) (Err Outside)
