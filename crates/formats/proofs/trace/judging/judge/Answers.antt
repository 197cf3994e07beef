use Rattle.formats.proofs.TraceLaw.{judged_rightly, taken_rightly}
use Rattle.formats.proofs.trace.judging.judge.Goals as goal

pub returns-clause-first : goal.returns-clause-first
returns-clause-first c = judged_rightly c.args.trace.now

pub returns-clause-taken : goal.returns-clause-taken
returns-clause-taken c = taken_rightly
