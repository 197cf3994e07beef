use Rattle.std.proofs.Common.{◌≡◌, ℕ, ◌<◌, ap, ◌∙◌}
use Rattle.rings.specs.Models.{ring, fronted}
use Rattle.row.proofs.Shelving.{freed_more, freed_none}
use Rattle.row.proofs.shelf.methods.all_free.Goals as goal

pub loop-x-preserved : goal.loop-x-preserved
loop-x-preserved c =
    let i = c.loop-x.x-index in
    let p = c.loop-x.places in
    let q = c.move_to_front.new.self in
    let moved : (r : ℕ) → r < 16 → ring q r ≡ fronted i 1 r (ring p r) =
    λ r h. c.move_to_front.ensures r h ∙ ap (λ x. fronted x 1 r (ring p r)) (c.all-x-items.ensures.own i c.x-item.result c.loop-x-test.true) in (
      freed_none p q i moved c.loop-x.invariant.0,
      freed_more p q i moved c.loop-x.invariant.1,
    )
