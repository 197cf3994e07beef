use Rattle.std.proofs.Common.{◌≡◌, ℕ, ◌<◌, ltb, []}
use Rattle.rings.specs.Slots.{member}
use Rattle.rings.specs.Models.{ring}
use Rattle.row.proofs.shelf.methods.all_free.Given as goal

-- the slots so far are free
abbrev pub invariant-loop-x : goal.invariant-loop-x
invariant-loop-x l = (ring l.places 0 ≡ []) × ((y : ℕ) → y < 16 → member y (ring l.places 1) ≡ ltb y l.x-index)
