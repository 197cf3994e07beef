use Rattle.std.proofs.Common.{◌≡◌}
use Rattle.pile.specs.Tallies.{pile_of}
use Rattle.replaying.proofs.Lines.{Left}
use Rattle.replaying.proofs.running.run.Given as goal

-- what the lines so far did, and what those that are left are to do
abbrev pub invariant-loop-line : goal.invariant-loop-line
invariant-loop-line g l =
    Left l.body l.line-iterator.rest.now (pile_of (g.T.Tier.model l.initial.pile.tier) l.initial.pile.tallies) (pile_of (g.T.Tier.model l.pile.tier) l.pile.tallies) l.refused
    × (g.T.Tier.loans l.pile.tier ≡ g.T.Tier.loans l.initial.pile.tier)
