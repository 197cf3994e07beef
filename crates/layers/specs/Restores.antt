-- Restoring a source onto a device.
use Rattle.std.specs.Prelude.{ℕ, Bool, cond, ◌&&◌, is_ok, Ok, Err, Result, nat_le, nat_lt}
use Rattle.device.specs.declared.fault.DeviceFault.TheVariants.{Defective}
use Rattle.device.specs.Below.{all_below}
use Rattle.device.specs.Refusals as device
use Rattle.device.specs.Store.{Store}
use Rattle.layers.specs.declared.restoring.RestoreFault.{RestoreFault}
use Rattle.layers.specs.declared.restoring.RestoreFault.TheVariants.{Short, Block}

abbrev pub number_of : RestoreFault → ℕ
number_of Short = 12
number_of (Block f) = device.number_of f

-- every block of the source is sound in both
abbrev pub restorable : Store → Store → Bool
restorable s d = all_below (λ b. s.sound b && d.sound b) s.size

-- how many blocks are restored, or why none is: the sizes are checked first, then every block
abbrev pub restore_answer : Store → Store → Result ℕ RestoreFault
restore_answer s d = cond (nat_le s.size d.size) (cond (restorable s d) (Ok s.size) (Err (Block Defective))) (Err Short)

-- the first n blocks are the source's, all others the device's own
abbrev pub copied : ℕ → Store → Store → Store
copied n s d = record { size = d.size; at = λ b. cond (nat_lt b n) (s.at b) (d.at b); sound = d.sound }

-- the device after
abbrev pub restored : Store → Store → Store
restored s d = cond (is_ok (restore_answer s d)) (copied s.size s d) d
