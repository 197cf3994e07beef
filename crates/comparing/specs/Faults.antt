-- The refusals of a comparison of two layouts.
use Rattle.std.specs.Prelude.{List, ℕ, ◌++◌, Some, codes, decimal, Option}
use Rattle.std.specs.Fmt.{◌++?◌}
use Rattle.certificate.specs.declared.weighing.CompareFault.{CompareFault}
use Rattle.certificate.specs.declared.weighing.CompareFault.TheVariants.{First as OfFirst, Second as OfSecond, Devices as OfDevices, Memory as NoMemory}
use Rattle.formats.specs.Seen.{fault_text as sheet_text}
use Rattle.pile.specs.Mounts.{mount_number_of}
use Rattle.comparing.specs.declared.fault.LayoutFault.{LayoutFault}
use Rattle.comparing.specs.declared.fault.LayoutFault.TheVariants.{First, Second, Images, Compare, Memory}

-- the refusal of a comparison of two tiers as one of two layouts
abbrev pub of_compare : CompareFault → LayoutFault
of_compare (OfFirst f) = Compare (OfFirst f)
of_compare (OfSecond f) = Compare (OfSecond f)
of_compare OfDevices = Compare OfDevices
of_compare NoMemory = Memory

-- what is refused, with its number, and a sheet's with its place
abbrev pub fault_text : LayoutFault → Option (List ℕ)
fault_text (First f) = Some (codes "first sheet ") ++? sheet_text f
fault_text (Second f) = Some (codes "second sheet ") ++? sheet_text f
fault_text Images = Some (codes "the sheets list different images")
fault_text (Compare (OfFirst f)) = Some (codes "first layout " ++ decimal (mount_number_of f))
fault_text (Compare (OfSecond f)) = Some (codes "second layout " ++ decimal (mount_number_of f))
fault_text (Compare OfDevices) = Some (codes "the sheets describe different devices")
fault_text (Compare NoMemory) = Some (codes "no memory")
fault_text Memory = Some (codes "no memory")
