use Rattle.formats.proofs.Placed.{wrote_next}
use Rattle.formats.proofs.report.Report.put.Goals as goal

pub returns : goal.returns
returns c = wrote_next c.put_levels.ensures (wrote_next c.line.ensures c.line-2.ensures)
