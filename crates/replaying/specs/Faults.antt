-- The refusals of a replay.
use Rattle.std.specs.Prelude.{ℕ, List, Some, codes, Option}
use Rattle.std.specs.Fmt.{◌++?◌}
use Rattle.formats.specs.declared.sheet.SheetFault.{SheetFault}
use Rattle.formats.specs.declared.sheet.SheetFault.TheVariants.{Cut, Broken, Extra, Memory as NoMemory}
use Rattle.formats.specs.Seen.{fault_text as sheet_text}
use Rattle.formats.specs.Shown.{fault_text as trace_text}
use Rattle.formats.specs.Sheets as sheets
use Rattle.formats.specs.Traces as traces
use Rattle.replaying.specs.declared.fault.ReplayFault.{ReplayFault}
use Rattle.replaying.specs.declared.fault.ReplayFault.TheVariants.{Sheet as OfSheet, Trace as OfTrace, Memory}

-- the number of each refusal; want of memory has none of its own and is told as 0
abbrev pub number_of : ReplayFault → ℕ
number_of (OfSheet f) = sheets.number_of f
number_of (OfTrace f) = traces.number_of f
number_of Memory = 0

-- what is refused, and by which number and at which place
abbrev pub fault_text : ReplayFault → Option (List ℕ)
fault_text (OfSheet f) = Some (codes "sheet ") ++? sheet_text f
fault_text (OfTrace f) = Some (codes "trace ") ++? trace_text f
fault_text Memory = Some (codes "no memory")

-- a sheet that found no memory is told as that
abbrev pub of_sheet : SheetFault → ReplayFault
of_sheet (Cut o) = OfSheet (Cut o)
of_sheet (Broken o) = OfSheet (Broken o)
of_sheet (Extra o) = OfSheet (Extra o)
of_sheet NoMemory = Memory
