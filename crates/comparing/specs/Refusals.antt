-- The refusals of the two sheets.
use Rattle.formats.specs.declared.sheet.SheetFault.{SheetFault}
use Rattle.formats.specs.declared.sheet.SheetFault.TheVariants.{Cut, Broken, Extra, Memory as NoMemory}
use Rattle.comparing.specs.declared.bytes.Which.{Which}
use Rattle.comparing.specs.declared.bytes.Which.TheVariants as which
use Rattle.comparing.specs.declared.fault.LayoutFault.{LayoutFault}
use Rattle.comparing.specs.declared.fault.LayoutFault.TheVariants.{First, Second, Memory}

abbrev pub of_which : Which → SheetFault → LayoutFault
of_which which.First f = First f
of_which which.Second f = Second f

-- a sheet that found no memory is told as that
abbrev pub refused : Which → SheetFault → LayoutFault
refused w (Cut o) = of_which w (Cut o)
refused w (Broken o) = of_which w (Broken o)
refused w (Extra o) = of_which w (Extra o)
refused w NoMemory = Memory
