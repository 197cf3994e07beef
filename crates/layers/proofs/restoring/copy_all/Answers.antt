use Rattle.std.proofs.Common.{length}
use Rattle.layers.proofs.Copied.{never_refused}
use Rattle.layers.proofs.restoring.copy_all.Goals as goal

pub returns-in_err-copy_one : goal.returns-in_err-copy_one
returns-in_err-copy_one g c =
    never_refused (g.S.Source.store c.args.source.now) (g.D.Source.store c.args.device.now) (g.S.Source.lawful c.args.source.now) (g.D.Source.lawful c.args.device.now)
    c.args.blocks c.requires c.loop-b.b c.loop-b-test.true (g.D.Source.store c.loop-b.device) c.loop-b.invariant.0 (length c.loop-b.buffer) c.loop-b.invariant.2
    c.in_err-copy_one.ensures.answer
