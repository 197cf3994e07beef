-- Two layouts over the stored blocks of their images.
use Rattle.std.specs.Prelude.{vec_items, Result}
use Rattle.std.specs.Borrow.{Bor}
use Rattle.certificate.specs.declared.weighing.Comparison.{Comparison}
use Rattle.device.specs.Store.{Store}
use Rattle.formats.specs.declared.sheet.Sheet.{Sheet}
use Rattle.layers.specs.Defects.{masked}
use Rattle.replaying.specs.Layouts.{tier_over}
use Rattle.tier.specs.Models.{Model}
use Rattle.comparing.specs.declared.fault.LayoutFault.{LayoutFault}
use Rattle.comparing.specs.declared.side.Side.{Side}
use Rattle.comparing.specs.Sheets.{Weighed}

-- the levels of a sheet over its defects
abbrev pub side_over : Side (Bor Sheet) → Store → Model
side_over side s = tier_over (vec_items side.sheet.now.levels) (masked (vec_items side.sheet.now.defects) s)

-- what the comparison of two answers, and what that proves
abbrev pub SidesWeighed : Side (Bor Sheet) → Store → Side (Bor Sheet) → Store → Result Comparison LayoutFault → Type 0
SidesWeighed first s second t r = Weighed (side_over first s) first.levels (side_over second t) second.levels r
