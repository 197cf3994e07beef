use Rattle.row.proofs.Entering.{saved_held, saved_above, saved_below, saved_entries}
use Rattle.row.proofs.row.Row.mark_saved.Goals as goal

pub returns : goal.returns
returns c =
    let r = c.args.self.now in
    let x = c.args.slot in
    let i = c.index.ensures.same in
    let e = c.save.ensures in
    record {
      after = rw (e, i, saved_entries r.shelf r.frames x r.wide c.requires);
      stands = c.requires;
      held = rw (e, i) (saved_held r.shelf r.frames x r.wide c.requires);
      above = rw (e, i) (saved_above r.shelf r.frames x r.wide c.requires);
      below = rw (e, i) (saved_below r.shelf r.frames x r.wide c.requires);
    }
