use Rattle.std.proofs.Common.{◌≡◌, ◌≤◌, length, ap, ◌∙◌, arith, length-take, rules}
use Rattle.std.specs.Option.{option_map}
use Rattle.tier.specs.Lifts.{found, label_of, lifted}
use Rattle.pile.specs.Tallies.{pile_of, hits_of, hits_with, floor_with}
use Rattle.pile.proofs.Lifting.{counted_told}
use Rattle.pile.proofs.pile.Pile.lift.Goals as goal

pub returns-clause-after : goal.returns-clause-after
returns-clause-after g c =
    let t = c.args.self.now.tallies in
    let m = g.T.Tier.model c.args.self.now.tier in
    let level : c.map.result ≡ option_map (λ l. l.level) (option_map label_of (found c.args.b m.rows)) = search rules in
    let left : g.T.Tier.model c.lift.new.self ≡ record { store = m.store; rows = lifted c.args.b m.rows } = search rules in
    let few : length (hits_of t) ≤ 8 = omega (arith, length-take t.levels t.hits, t.few) in
    (λ i. record { tier = left i; hits = (c.count.ensures.hits ∙ ap (λ o. hits_with o (hits_of t)) level) i; floor = (c.count.ensures.floor ∙ ap (λ o. floor_with o t.floor) level) i })
    ∙ counted_told (found c.args.b m.rows) record { store = m.store; rows = lifted c.args.b m.rows } (pile_of m t) few
