use Rattle.std.proofs.Common.{vec_items, sym, ap, ◌∙◌}
use Rattle.layers.specs.Defects.{listing, had_room}
use Rattle.replaying.proofs.Listing.{only_memory}
use Rattle.replaying.proofs.images.list_defects.Goals as goal

pub map_err-requires : goal.map_err-requires
map_err-requires g c =
    let xs = vec_items c.loop-n.list.numbers in
    let n = c.from.result in
    λ f r. only_memory c.args.defects.now c.requires.rising c.loop-n.n-index c.loop-n-test.true f xs n c.loop-n.invariant.0 c.from.ensures
    (sym r ∙ (c.list.ensures.answer ∙ ap (λ t. listing (had_room t) xs n) r))
