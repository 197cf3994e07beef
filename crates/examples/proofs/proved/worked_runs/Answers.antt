use Rattle.examples.proofs.Worked.{worked_runs}
use Rattle.examples.proofs.proved.worked_runs.Goals as goal

pub returns-clause-stand : goal.returns-clause-stand
returns-clause-stand c = worked_runs
