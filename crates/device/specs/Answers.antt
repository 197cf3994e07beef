-- What a device answers, and what a read and a write leave.
use Rattle.std.specs.Prelude.{ℕ, Bool, cond, List, length, is_ok, Ok, Err, Result, ◌==◌, nat_lt}
use Rattle.device.specs.declared.fault.DeviceFault.{DeviceFault}
use Rattle.device.specs.declared.fault.DeviceFault.TheVariants.{Length, Range, Defective}
use Rattle.device.specs.Store.{Store, put}

-- the checks of a read or write of block b with a buffer of n bytes, in their order: the length, the number, the block itself
abbrev pub checked : ℕ → ℕ → ℕ → Bool → Result (Unit {0}) DeviceFault
checked n b size sound = cond (n == 256) (cond (nat_lt b size) (cond sound (Ok tt) (Err Defective)) (Err Range)) (Err Length)

-- what a read or write of block b with a buffer of n bytes answers
abbrev pub answer : Store → ℕ → ℕ → Result (Unit {0}) DeviceFault
answer s b n = checked n b s.size (s.sound b)

-- the buffer after a read
abbrev pub filled : Store → ℕ → List ℕ → List ℕ
filled s b buffer = cond (is_ok (answer s b (length buffer))) (s.at b) buffer

-- the store after a write
abbrev pub written : Store → ℕ → List ℕ → Store
written s b bytes = cond (is_ok (answer s b (length bytes))) (put s b bytes) s
