use Rattle.std.proofs.Common.{◌≡◌, take, vec_items}
use Rattle.replaying.proofs.images.list_defects.Given as goal

-- the numbers so far are on the list
abbrev pub invariant-loop-n : goal.invariant-loop-n
invariant-loop-n g l = (vec_items l.list.numbers ≡ take l.n-index l.defects) × (l.list.below ≡ l.initial.list.below)
