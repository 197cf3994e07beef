use Rattle.std.proofs.Common.{sym}
use Rattle.layers.proofs.Homes.{write_first, write_second}
use Rattle.layers.proofs.stripe.Stripe.write_home.Goals as goal

pub returns-in-First-clause-after : goal.returns-in-First-clause-after
returns-in-First-clause-after g c =
    write_first c.args.self.now.unit _ _ (g.D.Source.lawful c.args.self.now.first) (g.E.Source.lawful c.args.self.now.second) c.args.b c.args.bytes.now c.requires
    c.in-First.n (sym c.in-First.ensures) _ c.write.ensures.after

pub returns-in-Second-clause-after : goal.returns-in-Second-clause-after
returns-in-Second-clause-after g c =
    write_second c.args.self.now.unit _ _ (g.D.Source.lawful c.args.self.now.first) (g.E.Source.lawful c.args.self.now.second) c.args.b c.args.bytes.now c.requires
    c.in-Second.n (sym c.in-Second.ensures) _ c.write-in-Second.ensures.after
