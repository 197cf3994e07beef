use Rattle.rings.proofs.Empty.{lone_paired, lone_paired_back, lone_ring, lone_closed}
use Rattle.rings.proofs.rings.Rings.new.Goals as goal

pub invariant_of-result : goal.invariant_of-result
invariant_of-result c =
    let k = c.unlinked.ensures in
    record { wide = k.wide; paired = lone_paired _ k.wide k.own; paired_back = lone_paired_back _ k.wide k.own; closed = lone_closed _ k.wide k.own }

pub returns : goal.returns
returns c = let k = c.unlinked.ensures in lone_ring _ k.wide k.own
