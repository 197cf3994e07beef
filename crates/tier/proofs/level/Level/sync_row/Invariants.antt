use Rattle.std.proofs.Common.{◌≡◌, length}
use Rattle.row.specs.Rows.{entries, Standing, coming, passed}
use Rattle.tier.specs.Syncs.{swept}
use Rattle.tier.proofs.Sweeping.{preceded}
use Rattle.tier.proofs.level.Level.sync_row.Given as goal

-- the entries up to the slot are synced, and a sweep of the others comes to what a sweep of all does
abbrev pub invariant-loop-at : goal.invariant-loop-at
invariant-loop-at g l = Standing l.self.row l.at × (l.self.row.capacity ≡ l.initial.self.row.capacity)
    × (swept (entries l.initial.self.row) (g.T.Tier.model l.initial.self.below).store ≡ preceded (passed l.self.row l.at) (swept (coming l.self.row l.at) (g.T.Tier.model l.self.below).store))
    × ((g.T.Tier.model l.self.below).rows ≡ (g.T.Tier.model l.initial.self.below).rows) × (g.T.Tier.loans l.self.below ≡ g.T.Tier.loans l.initial.self.below)

abbrev pub decreases-loop-at : goal.decreases-loop-at
decreases-loop-at g l = length (coming l.self.row l.at)
