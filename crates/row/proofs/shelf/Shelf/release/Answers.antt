use Rattle.row.proofs.Shelving.{agreed, released, released_count, released_order}
use Rattle.row.proofs.Entering.{released_entries, released_fewer}
use Rattle.row.proofs.shelf.Shelf.release.Goals as goal

pub overflow_sub-self : goal.overflow_sub-self
overflow_sub-self c =
    let s = c.args.self.now in
    (released_count s.places c.move_to_front.new.self s.index c.remove.new.self c.args.x c.move_to_front.ensures c.remove.ensures s.len c.requires s.counted).0

pub invariant_of-self : goal.invariant_of-self
invariant_of-self c =
    let s = c.args.self.now in
    released s.places c.move_to_front.new.self s.index c.remove.new.self c.args.x c.move_to_front.ensures c.remove.ensures s.len c.requires (agreed s)

pub returns : goal.returns
returns c =
    let s = c.args.self.now in
    let o = released_order s.places c.move_to_front.new.self s.index c.remove.new.self c.args.x c.move_to_front.ensures c.remove.ensures in
    record { order = o; keys = c.remove.ensures; fewer = released_fewer s c.args.x _ o; entries = λ fs. released_entries s _ fs c.args.x c.requires o c.remove.ensures }
