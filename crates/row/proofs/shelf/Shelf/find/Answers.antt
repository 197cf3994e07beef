use Rattle.row.proofs.Entering.{found}
use Rattle.row.proofs.shelf.Shelf.find.Goals as goal

pub returns : goal.returns
returns c = record { slot = c.find.ensures; entries = λ fs. found c.args.self.now fs c.args.number c.find.result c.find.ensures }
