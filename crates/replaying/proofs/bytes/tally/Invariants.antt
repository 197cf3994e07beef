use Rattle.std.proofs.Common.{◌≡◌, ◌≤◌, length, take, vec_items, vec_len, vec_capacity}
use Rattle.pile.specs.Tallies.{hits_of}
use Rattle.replaying.specs.Replays.{level_tallies}
use Rattle.replaying.proofs.bytes.tally.Given as goal

-- the levels so far, and room for the rest
abbrev pub invariant-loop-i : goal.invariant-loop-i
invariant-loop-i l = (vec_items l.levels ≡ level_tallies (take l.i l.capacities) (hits_of l.tallies)) × (vec_len l.levels ≡ l.i) × (length l.capacities ≤ vec_capacity l.levels)
