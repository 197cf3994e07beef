use Rattle.std.proofs.Common.{◌&&◌, refl, ◌∙◌, arith, rules, tests}
use Rattle.std.proofs.lemmas.Iterator.{YieldsList-from_range}
use Rattle.std.proofs.lemmas.Iterator.Search.{all_from_yields_List}
use Rattle.device.proofs.Below.{all_below_is}
use Rattle.layers.proofs.restoring.all_sound.Goals as goal

pub returns : goal.returns
returns g c =
    all_from_yields_List (λ b. (g.S.Source.store c.args.source.now).sound b && (g.D.Source.store c.args.device.now).sound b) _ _ _ c.all.ensures.ran
    (YieldsList-from_range 0 c.args.blocks c.args.blocks refl (omega arith)) (λ x b q k. search (rules, tests))
    ∙ all_below_is _ c.args.blocks
