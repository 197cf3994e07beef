-- What is printed of a comparison that was refused.
use Rattle.std.specs.Prelude.{ℕ, List, ◌++◌, Some, Option, codes, decimal}
use Rattle.certificate.specs.declared.weighing.CompareFault.{CompareFault}
use Rattle.certificate.specs.declared.weighing.CompareFault.TheVariants.{First, Second, Devices, Memory}
use Rattle.pile.specs.Mounts.{mount_number_of}

abbrev pub fault_text : CompareFault → Option (List ℕ)
fault_text (First f) = Some (codes "the first by " ++ decimal (mount_number_of f))
fault_text (Second f) = Some (codes "the second by " ++ decimal (mount_number_of f))
fault_text Devices = Some (codes "the devices differ")
fault_text Memory = Some (codes "no memory")
