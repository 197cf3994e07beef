-- The number of each refusal of a pile.
use Rattle.std.specs.Prelude.{ℕ}
use Rattle.device.specs.Refusals as device
use Rattle.device.specs.declared.fault.DeviceFault.TheVariants.{Length as OfLength}
use Rattle.tier.specs.Refusals.{dropped_number_of}
use Rattle.tier.specs.declared.faults.DemoteFault.{DemoteFault}
use Rattle.tier.specs.declared.faults.DemoteFault.TheVariants.{Length as NotWhole, Dropped as Refused}
use Rattle.pile.specs.declared.faults.PileFault.{PileFault}
use Rattle.pile.specs.declared.faults.PileFault.TheVariants.{Device as OfDevice, Full, Dropped as OfDropped}

abbrev pub number_of : PileFault → ℕ
number_of (OfDevice f) = device.number_of f
number_of Full = 4
number_of (OfDropped d) = dropped_number_of d

-- what a refused demotion is to a pile
abbrev pub demotion_fault : DemoteFault → PileFault
demotion_fault (NotWhole v) = OfDevice OfLength
demotion_fault (Refused d) = OfDropped d
