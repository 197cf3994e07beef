use Rattle.std.proofs.Common.{◌≡◌, ◌+◌, rules, arith}
use Rattle.pile.proofs.Counts.{nth_from, nth_none}
use Rattle.pile.proofs.tallies.methods.hits_at.Goals as goal

pub returns-in_err-checked_sub : goal.returns-in_err-checked_sub
returns-in_err-checked_sub c =
    let z : c.args.level ≡ 0 = grind arith in
    search (rules, nth_none c.args.hits.now c.args.level z)

pub returns : goal.returns
returns c =
    let e : c.in_ok-checked_sub.field-0 + 1 ≡ c.args.level = grind arith in
    search (rules, nth_from c.args.hits.now c.args.level c.in_ok-checked_sub.field-0 e)
