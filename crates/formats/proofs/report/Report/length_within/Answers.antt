use Rattle.std.proofs.Common.{◌∙◌, arith}
use Rattle.formats.proofs.Reported.{measured_last, measured_more, measured_past, measured_all}
use Rattle.formats.specs.Reports.{report}
use Rattle.std.proofs.Common.{length}
use Rattle.formats.proofs.report.Report.length_within.Goals as goal

pub loop-i-init : goal.loop-i-init
loop-i-init c =
    let a = c.line.ensures.stops (omega arith) in
    let b = c.line-2.ensures.stops (omega (arith, a)) in
    measured_last c.args.self.now.levels.now c.args.self.now.floor c.args.self.now.refused c.line.new.self.at c.line-2.new.self.at a b

pub returns-then-cursor-room : goal.returns-then-cursor-room
returns-then-cursor-room c =
    measured_past (length (report c.args.self.now.levels.now c.args.self.now.floor c.args.self.now.refused)) c.args.self.now.levels.now c.loop-i.i c.loop-i.cursor.at c.loop-i.invariant c.args.room c.requires c.if-cursor-room.true

pub loop-i-preserved : goal.loop-i-preserved
loop-i-preserved c =
    measured_more (length (report c.args.self.now.levels.now c.args.self.now.floor c.args.self.now.refused)) c.args.self.now.levels.now c.loop-i.i c.loop-i.cursor.at c.loop-i.invariant c.loop-i-test.true c.level.new.self.at (c.level.ensures.stops c.loop-i.invariant.0)

pub returns : goal.returns
returns c =
    c.then_some.ensures
    ∙ measured_all (length (report c.args.self.now.levels.now c.args.self.now.floor c.args.self.now.refused)) c.args.self.now.levels.now c.loop-i.i c.loop-i.cursor.at c.loop-i.invariant c.loop-i-test.false c.args.room c.requires
