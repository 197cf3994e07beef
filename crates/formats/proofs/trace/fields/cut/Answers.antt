use Rattle.formats.proofs.Cuts.{cut_found, cut_nowhere}
use Rattle.formats.proofs.trace.fields.cut.Goals as goal

pub returns-in_err-i : goal.returns-in_err-i
returns-in_err-i c = rw c.from_residual.ensures (cut_nowhere c.args.c c.args.text.now c.in_err-i.ensures)

pub returns : goal.returns
returns c = cut_found c.args.c c.args.text.now c.in_ok-i.i c.in_ok-i.ensures
