use Rattle.std.proofs.Common.{◌≡◌, ◌∙◌}
use Rattle.device.specs.Bytes.{of_bytes}
use Rattle.layers.specs.Stripes.{striped}
use Rattle.comparing.proofs.Replaced.{devices_are}
use Rattle.comparing.proofs.sheets.compare_striped_copies.Goals as goal

pub returns : goal.returns
returns c =
    let x : (c.deref_mut.result.now ≡ c.args.images.first.now) × (c.deref_mut-2.result.now ≡ c.args.images.second.now) = (c.deref_mut.ensures.value ∙ c.in_ok-a.ensures.items, c.deref_mut-2.ensures.value ∙ c.in_ok-b.ensures.items) in
    let y : (c.deref_mut-3.result.now ≡ c.args.images.first.now) × (c.deref_mut-4.result.now ≡ c.args.images.second.now) = (c.deref_mut-3.ensures.value ∙ c.in_ok-c.ensures.items, c.deref_mut-4.ensures.value ∙ c.in_ok-d.ensures.items) in
    devices_are c.compare_pairs.result c.args.first c.args.second
    _ _ _ _ (λ i. striped c.args.unit (of_bytes (x.0 i)) (of_bytes (x.1 i))) (λ i. striped c.args.unit (of_bytes (y.0 i)) (of_bytes (y.1 i))) c.compare_pairs.ensures
