use Rattle.std.proofs.Common.{ap, ◌∙◌, arith}
use Rattle.rings.specs.Links.{out_links}
use Rattle.rings.specs.Places.{nexts, prevs}
use Rattle.rings.proofs.Updates.{known, out_sound, out_rings, out_lone}
use Rattle.rings.proofs.rings.Rings.remove.Goals as goal

pub take_out-requires : goal.take_out-requires
take_out-requires c =
    let s = c.args.self.now in
    let x = c.index.ensures in
    let h = s.paired c.args.x (omega arith) in
    let k = s.paired_back c.args.x (omega arith) in
    rw x.same (omega arith, (h.0, k.0))

pub invariant_of-self : goal.invariant_of-self
invariant_of-self c =
    let s = c.args.self.now in
    let n = nexts s.links in
    let p = prevs s.links in
    let x = c.index.ensures in
    let k = c.take_out.ensures in
    let t = out_sound n p _ _ c.args.x x.few (known s) (k.next ∙ ap (out_links n p) x.same) (k.prev ∙ ap (out_links p n) x.same) in
    record { wide = k.wide; paired = t.paired; paired_back = t.paired_back; closed = t.closed }

pub returns : goal.returns
returns c =
    let s = c.args.self.now in
    let n = nexts s.links in
    let p = prevs s.links in
    let x = c.index.ensures in
    let e = c.take_out.ensures.next ∙ ap (out_links n p) x.same in
    let f = c.take_out.ensures.prev ∙ ap (out_links p n) x.same in
    let t = known s in
    record {
      rings = out_rings n p _ c.args.x x.few t e;
      alone = (out_lone n p _ c.args.x x.few t.wide e, out_lone p n _ c.args.x x.few t.wide_back f);
    }
