-- What a reading of a sheet tells.
use Rattle.std.specs.Prelude.{◌≡◌, ℕ, ◌<◌, ◌≤◌, List, length, take, Ok, Err, Result, slice_index}
use Rattle.std.proofs.Props.{props}
use Rattle.formats.specs.declared.sheet.Images.{Images}
use Rattle.formats.specs.declared.sheet.Images.TheVariants.{Single, Striped}
use Rattle.formats.specs.declared.sheet.SheetFault.{SheetFault}
use Rattle.formats.specs.declared.sheet.SheetFault.TheVariants.{Cut, Broken, Extra, Memory}
use Rattle.formats.specs.Sheets.{Listed, sheet_of}

abbrev pub LawfulUnit : Images → Type 0
LawfulUnit Single = Unit {0}
LawfulUnit (Striped u) = (1 ≤ u) × (u ≤ 64)

-- what a sheet may list
pub record Lawful (l : Listed) : Type 0 where
  pub few_levels : length l.levels ≤ 4
  pub capacities : (k : ℕ) → k < length l.levels → (1 ≤ slice_index l.levels k) × (slice_index l.levels k ≤ 16)
  pub unit : LawfulUnit l.images
  pub few_defects : length l.defects ≤ 16
  pub rising : (j k : ℕ) → j < k → k < length l.defects → slice_index l.defects j < slice_index l.defects k

-- there is one proof of that at most, so that a sheet may carry it
unit_once : (images : Images) → IsProp (LawfulUnit images)
unit_once Single = Prim.hlevel props
unit_once (Striped u) = Prim.hlevel props

pub lawful_once : (l : Listed) → IsProp (Lawful l)
lawful_once l = Prim.hlevel (props, unit_once)

-- An accepted sheet lists what it may. One that is cut is told at its length.
-- Before a broken rule nothing is broken: the bytes before the offset have no fault but that they are cut there. Before extra bytes the sheet is lawful.
abbrev pub Outcome : List ℕ → Result Listed SheetFault → Type 0
Outcome bytes (Ok l) = Lawful l
Outcome bytes (Err (Cut o)) = o ≡ length bytes
Outcome bytes (Err (Broken o)) = (o < length bytes) × (sheet_of (take o bytes) ≡ Err (Cut o))
Outcome bytes (Err (Extra o)) = (o < length bytes) × ((l : Listed) × (sheet_of (take o bytes) ≡ Ok l))
Outcome bytes (Err Memory) = ⊥

abbrev pub ToldRightly : List ℕ → Type 0
ToldRightly bytes = Outcome bytes (sheet_of bytes)
