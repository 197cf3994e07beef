use Rattle.std.proofs.Common.{◌∙◌, vec_items, rules}
use Rattle.replaying.specs.Calls.{calls_of}
use Rattle.replaying.proofs.Stacked.{floor_stored}
use Rattle.replaying.proofs.levels.replay_levels.Goals as goal

pub returns-clause-after : goal.returns-clause-after
returns-clause-after g c =
    let s = g.D.Source.store c.args.device.now in
    c.replay_floor.ensures.after ∙ floor_stored (vec_items c.args.job.sheet.now.levels) s (g.D.Source.lawful c.args.device.now) (search rules) (calls_of c.args.job.body.now)
