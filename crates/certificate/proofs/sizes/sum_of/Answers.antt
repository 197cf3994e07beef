use Rattle.std.proofs.Common.{◌+◌, ap, ◌∙◌, take, rules, tests, arith}
use Rattle.std.proofs.lemmas.Iterator.{YieldsList-from_range}
use Rattle.std.proofs.lemmas.Iterator.Consumers.{YieldsList-from_filter_map, sum_from_yields_List, fits_from_yields_list}
use Rattle.tier.specs.Questions.{capacity_of}
use Rattle.pile.specs.Recency.{room}
use Rattle.certificate.proofs.Counting.{capacities_room, bounded, room_all}
use Rattle.certificate.proofs.sizes.sum_of.Goals as goal

pub sum-requires-clause-fits : goal.sum-requires-clause-fits
sum-requires-clause-fits g c =
    let rows = (g.T.Tier.model c.args.tier.now).rows in
    let n = c.min.result in
    fits_from_yields_list c.filter_map.result _ (YieldsList-from_filter_map _ (λ i. capacity_of rows (i + 1))
    (YieldsList-from_range 0 n n c.filter_map.ensures.source (omega arith)) c.filter_map.ensures.closure (λ x r q k. search (rules, tests)))
    (omega (arith, capacities_room rows n, bounded rows n (g.T.Tier.lawful c.args.tier.now).rows, c.min.ensures))

pub returns : goal.returns
returns g c =
    let rows = (g.T.Tier.model c.args.tier.now).rows in
    let n = c.min.result in
    sum_from_yields_List c.filter_map.result c.sum.result c.sum.ensures.ran (YieldsList-from_filter_map _ (λ i. capacity_of rows (i + 1))
    (YieldsList-from_range 0 n n c.filter_map.ensures.source (omega arith)) c.filter_map.ensures.closure (λ x r q k. search (rules, tests)))
    ∙ (capacities_room rows n ∙ (ap (λ m. room (take m rows)) c.min.ensures ∙ room_all rows c.args.count c.requires))
