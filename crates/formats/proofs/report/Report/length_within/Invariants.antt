use Rattle.std.proofs.Common.{length}
use Rattle.formats.specs.Reports.{report}
use Rattle.formats.proofs.Reported.{Measured}
use Rattle.formats.proofs.report.Report.length_within.Given as goal

abbrev pub invariant-loop-i : goal.invariant-loop-i
invariant-loop-i l = Measured (length (report l.self.levels.now l.self.floor l.self.refused)) l.self.levels.now l.i l.cursor.at
