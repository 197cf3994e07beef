use Rattle.formats.proofs.Reported.{Left}
use Rattle.formats.proofs.report.writing.put_levels.Given as goal

abbrev pub invariant-loop-i : goal.invariant-loop-i
invariant-loop-i l = Left l.levels l.initial.cursor l.i l.cursor
