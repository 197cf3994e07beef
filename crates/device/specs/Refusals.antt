-- The number of each refusal of a device.
use Rattle.std.specs.Prelude.{ℕ}
use Rattle.device.specs.declared.fault.DeviceFault.{DeviceFault}
use Rattle.device.specs.declared.fault.DeviceFault.TheVariants.{Length, Range, Defective}

abbrev pub number_of : DeviceFault → ℕ
number_of Length = 1
number_of Range = 2
number_of Defective = 3
