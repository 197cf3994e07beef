use Rattle.formats.proofs.ReportLaw.{read_back}
use Rattle.formats.proofs.report.Report.write.Goals as goal

pub returns-clause-back : goal.returns-clause-back
returns-clause-back c = read_back
