use Rattle.std.proofs.Common.{◌≡◌, take, vec_items}
use Rattle.restoring.proofs.Listing.{Left}
use Rattle.restoring.proofs.stack.list_all.Given as goal

-- the numbers so far are on the list
abbrev pub invariant-loop-n : goal.invariant-loop-n
invariant-loop-n g l = (vec_items l.list.numbers ≡ take l.n-index l.numbers) × Left l.numbers l.n-index × (l.list.below ≡ l.initial.list.below)
