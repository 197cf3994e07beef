-- Copying one block from a source to a device.
use Rattle.std.specs.Prelude.{ℕ, cond, is_ok, Result}
use Rattle.device.specs.declared.fault.DeviceFault.{DeviceFault}
use Rattle.device.specs.Answers.{answer, written}
use Rattle.device.specs.Store.{Store}

-- the first refusal of reading it there and writing it here
abbrev pub copy_answer : Store → Store → ℕ → ℕ → Result (Unit {0}) DeviceFault
copy_answer s d b len = cond (is_ok (answer s b len)) (answer d b len) (answer s b len)

abbrev pub copy_store : Store → Store → ℕ → ℕ → Store
copy_store s d b len = cond (is_ok (answer s b len)) (written d b (s.at b)) d
