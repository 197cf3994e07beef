use Rattle.std.proofs.Common.{ap, ◌∙◌, rules}
use Rattle.std.proofs.lemmas.List.{take_all}
use Rattle.pile.specs.Tallies.{hits_of}
use Rattle.replaying.specs.Replays.{level_tallies}
use Rattle.replaying.proofs.Tallied.{tallied_more}
use Rattle.replaying.proofs.bytes.tally.Goals as goal

pub loop-i-preserved : goal.loop-i-preserved
loop-i-preserved c =
    let t = tallied_more c.args.capacities.now (hits_of c.args.tallies.now) c.loop-i.i c.loop-i-test.true in (search rules, search rules, search rules)

pub returns : goal.returns
returns c = c.loop-i.invariant.0 ∙ ap (λ cs. level_tallies cs (hits_of c.args.tallies.now)) (take_all c.loop-i.i c.args.capacities.now c.loop-i-test.false)
