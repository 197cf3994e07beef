use Rattle.std.proofs.Common.{length, get_or, sym, ap, ◌∙◌, arith}
use Rattle.rings.specs.Places.{nexts}
use Rattle.rings.proofs.Walks.{step}
use Rattle.rings.proofs.walk.SlotsIterator.next.Goals as goal

pub invariant_of-self-clause-ends : goal.invariant_of-self-clause-ends
invariant_of-self-clause-ends c =
    let s = c.args.self.now in
    let x = c.index.ensures in
    (step (nexts s.links.now) s.place _ _ (sym c.in_ok-slot.ensures) (c.behind-self.ensures ∙ ap (λ j. get_or (nexts s.links.now) j 0) x.same) s.ends).1

pub returns-clause-steps : goal.returns-clause-steps
returns-clause-steps c =
    let s = c.args.self.now in
    let x = c.index.ensures in
    (step (nexts s.links.now) s.place _ _ (sym c.in_ok-slot.ensures) (c.behind-self.ensures ∙ ap (λ j. get_or (nexts s.links.now) j 0) x.same) s.ends).0

pub returns-clause-goes : goal.returns-clause-goes
returns-clause-goes c =
    let s = c.args.self.now in
    let x = c.index.ensures in
    let e = ap length (step (nexts s.links.now) s.place _ _ (sym c.in_ok-slot.ensures) (c.behind-self.ensures ∙ ap (λ j. get_or (nexts s.links.now) j 0) x.same) s.ends).0 in
    record { on = λ f. (tt, tt, omega arith); keeps = tt; rests = λ f. tt }
