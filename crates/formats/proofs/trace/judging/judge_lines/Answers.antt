use Rattle.std.proofs.Common.{length, sym, ◌<◌, arith}
use Rattle.std.proofs.lemmas.Bool.{eqb-true, eqb-false}
use Rattle.formats.proofs.Judged.{judging_more, judging_done, judging_broken}
use Rattle.formats.proofs.trace.judging.judge_lines.Goals as goal

pub loop-lawful-preserved : goal.loop-lawful-preserved
loop-lawful-preserved c = judging_more c.args.body.now c.loop-lawful.lines c.next.result c.next.new.self c.loop-lawful.lawful c.next.ensures.steps c.loop-lawful.invariant c.loop-lawful-test.ensures

pub returns-then-is_empty : goal.returns-then-is_empty
returns-then-is_empty c =
    let z = eqb-true (length c.next.new.self.rest.now) 0 (sym c.if-is_empty.ensures) in
    judging_done c.args.body.now c.loop-lawful.lines c.next.result c.next.new.self c.loop-lawful.lawful c.next.ensures.steps c.loop-lawful.invariant c.loop-lawful-test.ensures
    z

pub returns-else-is_empty : goal.returns-else-is_empty
returns-else-is_empty c =
    let some : 0 < length c.next.new.self.rest.now = omega (arith, eqb-false (length c.next.new.self.rest.now) 0 (sym c.if-is_empty.ensures)) in
    judging_broken c.args.body.now c.loop-lawful.lines c.next.result c.next.new.self c.loop-lawful.lawful c.next.ensures.steps c.loop-lawful.invariant c.loop-lawful-test.ensures some
