use Rattle.row.proofs.Entering.{last_slot}
use Rattle.row.proofs.shelf.Shelf.last.Goals as goal

pub returns : goal.returns
returns c = record { slot = c.last.ensures; entries = λ fs. last_slot c.args.self.now fs c.last.result c.last.ensures }
