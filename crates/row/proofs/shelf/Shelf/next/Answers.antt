use Rattle.std.proofs.Common.{List, []}
use Rattle.row.specs.declared.frame.Frame.{Frame}
use Rattle.row.proofs.Walking.{next_walk}
use Rattle.row.proofs.shelf.Shelf.next.Goals as goal

pub returns : goal.returns
returns c =
    let w = λ (fs : List Frame). next_walk c.args.self.now fs c.args.x c.behind.result c.requires c.behind.ensures in
    record { slot = c.behind.ensures; standing = (w []).0; passed = λ fs. (w fs).1; coming = λ fs. (w fs).2 }
