use Rattle.formats.proofs.SheetLaw.{told_rightly}
use Rattle.formats.proofs.sheet.reading.read_sheet.Goals as goal

pub returns-clause-told : goal.returns-clause-told
returns-clause-told c = told_rightly c.args.sheet.now
