use Rattle.device.specs.Bytes.{of_bytes}
use Rattle.layers.specs.Stripes.{striped}
use Rattle.comparing.proofs.Replaced.{devices_are}
use Rattle.comparing.proofs.sheets.compare_pairs.Goals as goal

pub returns : goal.returns
returns c =
    devices_are c.compare_stripes.result c.args.first c.args.second
    _ _ _ _ (λ i. striped c.args.unit (of_bytes (c.new-a.ensures.bytes i)) (of_bytes (c.new-b.ensures.bytes i))) (λ i. striped c.args.unit (of_bytes (c.new-c.ensures.bytes i)) (of_bytes (c.new-d.ensures.bytes i))) c.compare_stripes.ensures
