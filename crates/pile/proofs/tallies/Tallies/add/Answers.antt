use Rattle.std.proofs.Common.{◌-◌, sym, refl, arith, length-take}
use Rattle.pile.specs.Tallies.{hits_of}
use Rattle.pile.proofs.Counts.{within_total, raised, none_raised_outside}
use Rattle.pile.proofs.tallies.Tallies.add.Goals as goal
use Rattle.pile.proofs.tallies.Tallies.add.Goals.{else-level-ge1-via-then-level-ge1+else-level-self, else-level-ge1-via-else-level-ge1}

pub overflow_add-self : goal.overflow_add-self
overflow_add-self c = omega (arith, c.requires, within_total c.args.self.now.levels c.args.self.now.hits (c.args.level - 1) (omega arith) (omega arith))

pub returns-then-level-self : goal.returns-then-level-self
returns-then-level-self c = record {
  hits = raised c.args.self.now.levels c.args.self.now.hits c.args.level c.if-level-ge1.true c.if-level-self.true (omega (arith, c.args.self.now.wide, c.args.self.now.few));
  floor = refl;
}

pub returns-else-level-ge1 : goal.returns-else-level-ge1
returns-else-level-ge1 c =
    let n = length-take c.args.self.now.levels c.args.self.now.hits in
    record {
      hits = sym (none_raised_outside (hits_of c.args.self.now) c.args.level (λ a b. elim c.else-level-ge1.branch [
        | else-level-ge1-via-then-level-ge1+else-level-self w ↦ omega (arith, n, b, w.if-level-self.false)
        | else-level-ge1-via-else-level-ge1 w ↦ omega (arith, a, w.if-level-ge1.false)
      ]));
      floor = refl;
    }
