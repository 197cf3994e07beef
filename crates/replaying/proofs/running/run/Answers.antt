use Rattle.std.proofs.Common.{◌+◌, ap, ◌∙◌, rules}
use Rattle.formats.specs.Shown.{shown}
use Rattle.pile.specs.Tallies.{pile_of}
use Rattle.replaying.proofs.Lines.{calls_more, left_more, left_none, counted_none}
use Rattle.replaying.proofs.running.run.Goals as goal

pub overflow_add-refused : goal.overflow_add-refused
overflow_add-refused g c =
    let shorter = (calls_more c.loop-line.line-iterator.rest.now (shown c.in-Some.line) c.next.new.self.rest.now c.in-Some.ensures.steps.taken).1 in
    let few = c.loop-line.invariant.0.few in search rules

pub loop-line-preserved : goal.loop-line-preserved
loop-line-preserved g c = (
  left_more c.args.body.now c.loop-line.line-iterator.rest.now (pile_of (g.T.Tier.model c.args.pile.now.tier) c.args.pile.now.tallies)
      (pile_of (g.T.Tier.model c.loop-line.pile.tier) c.loop-line.pile.tallies) c.loop-line.refused c.loop-line.invariant.0
      (shown c.in-Some.line) c.next.new.self.rest.now c.in-Some.ensures.steps.taken
      (pile_of (g.T.Tier.model c.run_line.new.pile.tier) c.run_line.new.pile.tallies) c.run_line.ensures.after
      c.run_line.result c.run_line.ensures.refused (c.loop-line.refused + c.from-refused.result) (ap (λ t. c.loop-line.refused + t) c.from-refused.ensures),
  c.run_line.ensures.loans ∙ c.loop-line.invariant.1,
)

pub returns : goal.returns
returns g c =
    let start = pile_of (g.T.Tier.model c.args.pile.now.tier) c.args.pile.now.tallies in
    let p = pile_of (g.T.Tier.model c.loop-line.pile.tier) c.loop-line.pile.tallies in
    let none = c.in-None.ensures.steps.taken in
    record {
      refused = counted_none c.args.body.now c.loop-line.line-iterator.rest.now start p c.loop-line.refused c.loop-line.invariant.0 none;
      after = left_none c.args.body.now c.loop-line.line-iterator.rest.now start p c.loop-line.refused c.loop-line.invariant.0 none;
      loans = c.loop-line.invariant.1;
    }
