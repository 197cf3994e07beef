use Rattle.std.proofs.Common.{sym, ◌∙◌}
use Rattle.row.proofs.Entering.{length_entries}
use Rattle.row.proofs.shelf.Shelf.len.Goals as goal

pub returns : goal.returns
returns c = let s = c.args.self.now in record { order = s.counted; entries = λ fs. s.counted ∙ sym (length_entries s fs) }
