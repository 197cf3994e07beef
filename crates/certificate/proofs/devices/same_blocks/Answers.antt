use Rattle.std.proofs.Common.{refl, ◌∙◌, rules, tests, arith}
use Rattle.std.proofs.lemmas.Iterator.{YieldsList-from_range}
use Rattle.std.proofs.lemmas.Iterator.Search.{all_from_yields_List}
use Rattle.device.proofs.Below.{all_below_is}
use Rattle.certificate.specs.Devices.{same_block}
use Rattle.certificate.proofs.devices.same_blocks.Goals as goal

pub returns : goal.returns
returns g c =
    let s = (g.F.Tier.model c.args.first.now).store in
    let t = (g.S.Tier.model c.args.second.now).store in
    all_from_yields_List (same_block s t) _ _ c.all.result c.all.ensures.ran
    (YieldsList-from_range 0 c.args.blocks c.args.blocks refl (omega arith)) (λ x b q k. search (rules, tests))
    ∙ all_below_is (same_block s t) c.args.blocks
