use Rattle.std.proofs.Common.{rules}
use Rattle.row.proofs.Entering.{entries_none}
use Rattle.row.proofs.shelf.Shelf.new.Goals as goal

pub returns : goal.returns
returns c = record { order = search rules; keys = search rules; entries = λ fs. entries_none _ fs c.all_free.ensures.order }
