use Rattle.std.proofs.Common.{List, []}
use Rattle.row.specs.declared.frame.Frame.{Frame}
use Rattle.row.proofs.Walking.{first_walk}
use Rattle.row.proofs.shelf.Shelf.first.Goals as goal

pub returns : goal.returns
returns c =
    let w = λ (fs : List Frame). first_walk c.args.self.now fs c.front.result c.front.ensures in
    record { slot = c.front.ensures; standing = (w []).0; passed = λ fs. (w fs).1; coming = λ fs. (w fs).2 }
