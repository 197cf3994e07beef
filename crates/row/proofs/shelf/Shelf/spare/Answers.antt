use Rattle.rings.specs.Models.{ring}
use Rattle.row.proofs.Shelving.{never_full, first_some}
use Rattle.row.proofs.shelf.Shelf.spare.Goals as goal

pub unwrap-requires : goal.unwrap-requires
unwrap-requires c =
    let s = c.args.self.now in
    rw c.first.ensures (first_some (ring s.places 1) (never_full s.places s.index s.listed s.spare c.requires))
