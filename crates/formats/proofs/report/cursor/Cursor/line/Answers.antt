use Rattle.formats.proofs.Placed.{wrote_next}
use Rattle.formats.proofs.report.cursor.Cursor.line.Goals as goal

pub returns : goal.returns
returns c = wrote_next c.field.ensures c.text.ensures
