use Rattle.std.proofs.Common.{◌+◌, get_or, ap, ◌∙◌, arith}
use Rattle.rings.specs.Links.{in_links}
use Rattle.rings.specs.Places.{nexts, prevs}
use Rattle.rings.proofs.Updates.{known, in_sound, in_rings, alone_free}
use Rattle.rings.proofs.rings.Rings.put_front.Goals as goal

pub put_in-requires : goal.put_in-requires
put_in-requires c =
    let s = c.args.self.now in
    let x = c.index.ensures in
    let e = c.end-end.ensures in
    let r = e.few in
    let b = (s.paired (16 + c.args.r) (omega arith)).0 in
    let low = x.few in
    rw (x.same, c.behind-first.ensures, e.place) (omega arith, (omega arith, b))

pub invariant_of-self : goal.invariant_of-self
invariant_of-self c =
    let s = c.args.self.now in
    let n = nexts s.links in
    let p = prevs s.links in
    let x = c.index.ensures in
    let e = c.end-end.ensures in
    let k = c.put_in.ensures in
    let f = c.behind-first.ensures ∙ ap (λ j. get_or n j 0) e.place in
    let t = in_sound n p _ _ c.args.x c.args.r x.few e.few (known s) c.requires.0 c.requires.1 (alone_free s c.args.x x.few c.requires.0)
    (k.next ∙ (λ i. in_links n (e.place i) (x.same i) (f i))) (k.prev ∙ (λ i. in_links p (f i) (x.same i) (e.place i))) in
    record { wide = k.wide; paired = t.paired; paired_back = t.paired_back; closed = t.closed }

pub returns : goal.returns
returns c =
    let s = c.args.self.now in
    let n = nexts s.links in
    let p = prevs s.links in
    let x = c.index.ensures in
    let e = c.end-end.ensures in
    let f = c.behind-first.ensures ∙ ap (λ j. get_or n j 0) e.place in
    in_rings n p _ c.args.x c.args.r x.few e.few (known s) c.requires.0 c.requires.1 (alone_free s c.args.x x.few c.requires.0)
    (c.put_in.ensures.next ∙ (λ i. in_links n (e.place i) (x.same i) (f i)))
