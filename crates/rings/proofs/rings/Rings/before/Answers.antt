use Rattle.std.proofs.Common.{◌+◌, get_or, ap, ◌∙◌, arith}
use Rattle.rings.specs.Places.{nexts, prevs}
use Rattle.rings.specs.Links.{ring_of, slot_at}
use Rattle.rings.proofs.Places.{prev_at}
use Rattle.rings.proofs.Chains.{closed_chain, chain_last}
use Rattle.rings.proofs.rings.Rings.before.Goals as goal

pub returns : goal.returns
returns c r h e =
    let s = c.args.self.now in
    let n = nexts s.links in
    let p = prevs s.links in
    ap slot_at (prev_at s.links c.args.place _ (let w = s.wide in let l = c.requires in omega arith) ∙ ap (λ i. get_or p i 0) e)
    ∙ chain_last n p (16 + r) (ring_of n r) (16 + r) (closed_chain n p r (s.closed r h)) (omega arith)
