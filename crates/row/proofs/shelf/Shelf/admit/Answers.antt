use Rattle.row.proofs.Shelving.{agreed, admitted, admitted_order}
use Rattle.row.proofs.Entering.{admitted_entries}
use Rattle.row.proofs.shelf.Shelf.admit.Goals as goal

pub invariant_of-self : goal.invariant_of-self
invariant_of-self c =
    let s = c.args.self.now in
    let x = c.spare-x.ensures in
    admitted s.places c.move_to_front.new.self s.index c.insert.new.self c.spare-x.result c.args.number c.ranges.number.fits c.move_to_front.ensures c.insert.ensures c.requires.fresh s.len x.1 (agreed s)

pub returns : goal.returns
returns c =
    let s = c.args.self.now in
    let x = c.spare-x.ensures in
    let o = admitted_order s.places c.move_to_front.new.self s.index c.insert.new.self c.spare-x.result c.args.number c.ranges.number.fits c.move_to_front.ensures c.insert.ensures c.requires.fresh x.1 in
    record { slot = (x.0, x.1); order = o; keys = c.insert.ensures; entries = λ fs f w. admitted_entries s _ fs c.spare-x.result c.args.number f w x.0 x.1 o c.insert.ensures }
