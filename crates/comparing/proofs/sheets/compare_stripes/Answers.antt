use Rattle.layers.specs.Stripes.{striped}
use Rattle.comparing.proofs.Replaced.{devices_are}
use Rattle.comparing.proofs.sheets.compare_stripes.Goals as goal

pub returns : goal.returns
returns g c =
    let a = c.with_unit-one.ensures in
    let b = c.with_unit-other.ensures in
    devices_are c.compare_listed.result c.args.first c.args.second
    _ _ _ _ (λ i. striped (a.unit i) (g.D.Source.store (a.first i).now) (g.E.Source.store (a.second i).now)) (λ i. striped (b.unit i) (g.F.Source.store (b.first i).now) (g.G.Source.store (b.second i).now)) c.compare_listed.ensures
