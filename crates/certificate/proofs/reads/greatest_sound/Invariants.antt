use Rattle.std.proofs.Common.{◌≡◌, ◌-◌, ◌≤◌, ◌++◌, take, vec_items, vec_len}
use Rattle.pile.specs.Reads.{passing}
use Rattle.certificate.proofs.reads.greatest_sound.Given as goal

-- what was found, and then as many as are wanted still of those that are left
abbrev pub invariant-loop-b : goal.invariant-loop-b
invariant-loop-b g l = (vec_items l.found ++ take (l.count - vec_len l.found) (passing (g.T.Tier.model l.tier).store.sound l.b) ≡ take l.count (passing (g.T.Tier.model l.tier).store.sound (g.T.Tier.model l.tier).store.size))
    × (vec_len l.found ≤ l.count)
