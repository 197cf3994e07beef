use Rattle.std.proofs.Common.{◌≡◌, ◌<◌, arith, rules}
use Rattle.layers.specs.Stripes.{striped}
use Rattle.replaying.specs.Jobs.{job_leaves}
use Rattle.replaying.proofs.Halves.{first_told, second_told}
use Rattle.replaying.proofs.images.replay_striped.Goals as goal

pub returns : goal.returns
returns g c =
    let some : 0 < c.args.unit = omega (arith, c.requires.0) in
    let a = g.D.Source.store c.replay_listed.new.device.first.now in
    let b = g.E.Source.store c.replay_listed.new.device.second.now in
    let f = job_leaves c.args.job (striped c.args.unit (g.D.Source.store c.args.first.now) (g.E.Source.store c.args.second.now)) c.replay_listed.result in
    let e : (striped c.args.unit a b).at ≡ f = search rules in
    let first = first_told c.args.unit some a b f e in
    let second = second_told c.args.unit some a b f e in
    record { told = search rules; first = search rules; second = search rules; first_loans = search rules; second_loans = search rules }
