-- What a reader's answer says, whatever memory it lies in.
use Rattle.std.specs.Prelude.{ℕ, List, ◌++◌, Some, Ok, Err, vec_items, codes, decimal, Option, Result}
use Rattle.formats.specs.declared.sheet.SheetFault.{SheetFault}
use Rattle.formats.specs.declared.sheet.SheetFault.TheVariants.{Cut, Broken, Extra, Memory}
use Rattle.formats.specs.declared.sheet.Sheet.{Sheet}
use Rattle.formats.specs.declared.sheet.reader.Reader.{Reader}
use Rattle.formats.specs.Sheets.{Reading, Listed, number_of}

-- what was read and the bytes that are left, where it is seen as what it lists
abbrev pub read_by : {X Y : Type 0} → (X → Y) → Result X SheetFault → Reader → Reading Y
read_by see (Ok x) after = Ok (see x, after.rest.now)
read_by see (Err e) after = Err e

abbrev pub read : {X : Type 0} → Result X SheetFault → Reader → Reading X
read result after = read_by (λ x. x) result after

-- the bytes that a reader has left
abbrev pub left : Result Reader SheetFault → Result (List ℕ) SheetFault
left (Ok reader) = Ok reader.rest.now
left (Err e) = Err e

-- what is told where there is memory enough; want of memory is told as such
abbrev pub memory_or : {X Y : Type 0} → Result X SheetFault → Result Y SheetFault → Result Y SheetFault
memory_or (Ok x) told = told
memory_or (Err (Cut o)) told = told
memory_or (Err (Broken o)) told = told
memory_or (Err (Extra o)) told = told
memory_or (Err Memory) told = Err Memory

abbrev pub listed : Sheet → Listed
listed s = record { levels = vec_items s.levels; images = s.images; defects = vec_items s.defects }

-- what a sheet lists, wherever its lists lie
abbrev pub seen_sheet : Result Sheet SheetFault → Result Listed SheetFault
seen_sheet (Ok s) = Ok (listed s)
seen_sheet (Err e) = Err e

-- a refusal's number and its offset, in words
abbrev pub placed_fault : SheetFault → ℕ → Option (List ℕ)
placed_fault fault at = Some (decimal (number_of fault) ++ (codes " at " ++ decimal at))

abbrev pub fault_text : SheetFault → Option (List ℕ)
fault_text (Cut o) = placed_fault (Cut o) o
fault_text (Broken o) = placed_fault (Broken o) o
fault_text (Extra o) = placed_fault (Extra o) o
fault_text Memory = Some (codes "no memory")
