use Rattle.std.proofs.Common.{sym, ap, ◌∙◌}
use Rattle.formats.specs.Shown.{shown}
use Rattle.pile.specs.Piles.{stepped}
use Rattle.pile.specs.Tallies.{pile_of}
use Rattle.replaying.specs.Calls.{call_of}
use Rattle.replaying.specs.Runs.{refuses}
use Rattle.replaying.proofs.running.run_line.Goals as goal

pub returns-in-Write-clause-refused : goal.returns-in-Write-clause-refused
returns-in-Write-clause-refused g c =
    c.run_write.ensures.refused ∙ ap (λ l. refuses (call_of (shown l)) (pile_of (g.T.Tier.model c.args.pile.now.tier) c.args.pile.now.tallies)) (sym c.in-Write.is)

pub returns-in-Write-clause-after : goal.returns-in-Write-clause-after
returns-in-Write-clause-after g c =
    c.run_write.ensures.after ∙ ap (λ l. stepped (call_of (shown l)) (pile_of (g.T.Tier.model c.args.pile.now.tier) c.args.pile.now.tallies)) (sym c.in-Write.is)
