use Rattle.std.proofs.Common.{◌≡◌, ◌*◌, ◌≤◌, take}
use Rattle.pile.specs.Recency.{total}
use Rattle.pile.proofs.tallies.methods.sum.Given as goal

-- the sum so far, and that it is small
abbrev pub invariant-loop-n : goal.invariant-loop-n
invariant-loop-n l = (l.all ≡ total (take l.n-index l.hits)) × (l.all ≤ 4294967295 * l.n-index)
