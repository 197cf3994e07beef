use Rattle.std.proofs.Common.{◌∙◌}
use Rattle.std.proofs.lemmas.Result.{err_from_is_err_and}
use Rattle.formats.specs.Seen.{listed}
use Rattle.replaying.proofs.Kept.{first_kept, second_kept}
use Rattle.replaying.proofs.bytes.replay_job.Goals as goal

pub returns-in_err-outcome-clause-first : goal.returns-in_err-outcome-clause-first
returns-in_err-outcome-clause-first c =
    let p = err_from_is_err_and c.from_residual-in_err-outcome.result c.from_residual-in_err-outcome.ensures.1 in
    rw p.1 (c.in_err-outcome.ensures.first ∙ first_kept c.args.first.now c.args.second.now (listed c.args.job.sheet.now) c.args.job.sheet.now.lawful)

pub returns-in_err-outcome-clause-second : goal.returns-in_err-outcome-clause-second
returns-in_err-outcome-clause-second c =
    let p = err_from_is_err_and c.from_residual-in_err-outcome.result c.from_residual-in_err-outcome.ensures.1 in
    rw p.1 (c.in_err-outcome.ensures.second ∙ second_kept c.args.first.now c.args.second.now (listed c.args.job.sheet.now) c.args.job.sheet.now.lawful)
