-- Two stores striped into one.
use Rattle.std.specs.Prelude.{ℕ, ◌+◌, ◌*◌, ◌/◌, ◌%◌, min, Bool, cond, ◌&&◌, List, Ok, Err, Result, ◌==◌, nat_le, nat_lt}
use Rattle.device.specs.Store.{Store}
use Rattle.layers.specs.declared.home.Home.{Home}
use Rattle.layers.specs.declared.home.Home.TheVariants.{First, Second}
use Rattle.layers.specs.declared.unit.UnitFault.{UnitFault}
use Rattle.layers.specs.declared.unit.UnitFault.TheVariants.{Outside}

abbrev pub unit_number_of : UnitFault → ℕ
unit_number_of Outside = 9

-- a unit is a number of blocks from 1 to 64
abbrev pub is_unit : ℕ → Bool
is_unit u = nat_le 1 u && nat_le u 64

abbrev pub unit_of : ℕ → Result ℕ UnitFault
unit_of u = cond (is_unit u) (Ok u) (Err Outside)

-- what setting it answers
abbrev pub unit_answer : ℕ → Result (Unit {0}) UnitFault
unit_answer u = cond (is_unit u) (Ok tt) (Err Outside)

-- where block b lies: runs of u blocks go to the two devices in turn
abbrev pub home : ℕ → ℕ → Home
home u b = cond (b / u % 2 == 0) (First (u * (b / u / 2) + b % u)) (Second (u * (b / u / 2) + b % u))

-- as many whole runs as both devices have, at most 524,288 blocks of each
abbrev pub striped_size : ℕ → ℕ → ℕ → ℕ
striped_size u n m = 2 * u * (min (min n m) 524288 / u)

abbrev pub home_at : Store → Store → Home → List ℕ
home_at s t (First n) = s.at n
home_at s t (Second n) = t.at n

abbrev pub home_sound : Store → Store → Home → Bool
home_sound s t (First n) = s.sound n
home_sound s t (Second n) = t.sound n

abbrev pub striped : ℕ → Store → Store → Store
striped u s t = record {
  size = striped_size u s.size t.size;
  at = λ b. home_at s t (home u b);
  sound = λ b. nat_lt b (striped_size u s.size t.size) && home_sound s t (home u b);
}
