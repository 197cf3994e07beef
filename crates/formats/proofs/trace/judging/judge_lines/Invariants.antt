use Rattle.formats.proofs.Judged.{Judging}
use Rattle.formats.proofs.trace.judging.judge_lines.Given as goal

abbrev pub invariant-loop-lawful : goal.invariant-loop-lawful
invariant-loop-lawful l = Judging l.body l.lines l.lawful
