use Rattle.std.proofs.Common.{◌≡◌, rules}
use Rattle.layers.specs.Stripes.{striped}
use Rattle.restoring.specs.Stacks.{blocks_after}
use Rattle.restoring.proofs.Sides.{sides, unit_some}
use Rattle.restoring.proofs.stack.restore_striped.Goals as goal

pub returns : goal.returns
returns g c =
    let e : (striped c.args.how.unit (g.D.Source.store c.restore_listed.new.device.first.now) (g.E.Source.store c.restore_listed.new.device.second.now)).at
    ≡ blocks_after c.restore_listed.result (g.S.Source.store c.args.source.now)
    (striped c.args.how.unit (g.D.Source.store c.args.first.now) (g.E.Source.store c.args.second.now)) = search rules in
    let w = sides c.args.how.unit (unit_some c.args.how.unit c.in_ok-unit.unit c.in_ok-unit.ensures).1 c.restore_listed.result (g.S.Source.store c.args.source.now) (g.D.Source.store c.args.first.now)
    (g.E.Source.store c.args.second.now) (g.D.Source.store c.restore_listed.new.device.first.now) (g.E.Source.store c.restore_listed.new.device.second.now) e in
    let first = w.0 in
    let second = w.1 in
    record { answer = search rules; first = search rules; second = search rules; first_loans = search rules; second_loans = search rules }
