use Rattle.std.proofs.Common.{◌∙◌, rules, tests, arith}
use Rattle.std.proofs.lemmas.Iterator.{YieldsList-from_range}
use Rattle.std.proofs.lemmas.Iterator.Consumers.{YieldsList-from_filter, count_from_yields_List}
use Rattle.certificate.proofs.Counting.{count_passing}
use Rattle.certificate.proofs.sizes.sound_count.Goals as goal

pub returns : goal.returns
returns g c =
    let s = (g.T.Tier.model c.args.tier.now).store in
    count_from_yields_List c.filter.result c.count.result c.count.ensures.ran (YieldsList-from_filter _ s.sound
    (YieldsList-from_range 0 c.blocks-2.result s.size c.filter.ensures.source (omega (arith, c.blocks-2.ensures))) c.filter.ensures.closure (λ x b q k. search (rules, tests)))
    ∙ count_passing s.sound s.size
