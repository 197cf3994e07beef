use Rattle.std.proofs.Common.{◌≡◌, length}
use Rattle.layers.specs.Restores.{copied}
use Rattle.layers.proofs.restoring.copy_all.Given as goal

-- the first b blocks are copied, and the buffer is a block
abbrev pub invariant-loop-b : goal.invariant-loop-b
invariant-loop-b g l = (g.D.Source.store l.device ≡ copied l.b (g.S.Source.store l.source) (g.D.Source.store l.initial.device))
    × (g.D.Device.loans l.device ≡ g.D.Device.loans l.initial.device) × (length l.buffer ≡ 256)
