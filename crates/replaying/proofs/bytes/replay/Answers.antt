use Rattle.std.proofs.Common.{is_ok}
use Rattle.restoring.proofs.Stacked.{blocks_tell}
use Rattle.replaying.specs.Replays.{plan_of, first_left, second_left}
use Rattle.replaying.proofs.Every.{every_line}
use Rattle.replaying.proofs.Kept.{same_bytes}
use Rattle.replaying.proofs.bytes.replay.Goals as goal

pub returns-clause-refused : goal.returns-clause-refused
returns-clause-refused c =
    let r = c.replay_all.ensures in
    let ok = is_ok c.replay_all.result in
    let plan = plan_of c.args.sheet.now c.args.trace.now in
    let one = c.args.first.now in
    let two = c.args.second.now in
    λ e. (same_bytes c.replay_all.new.first one ok (first_left plan one two) e r.first, same_bytes c.replay_all.new.second two ok (second_left plan one two) e r.second)

pub returns-clause-told : goal.returns-clause-told
returns-clause-told c = blocks_tell

pub returns-clause-lines : goal.returns-clause-lines
returns-clause-lines c = every_line c.args.trace.now
