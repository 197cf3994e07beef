use Rattle.std.proofs.Common.{ap, ◌∙◌}
use Rattle.device.specs.Bytes.{of_bytes}
use Rattle.comparing.proofs.Replaced.{devices_are}
use Rattle.comparing.proofs.sheets.compare_copies.Goals as goal

pub returns : goal.returns
returns c =
    devices_are c.compare_single.result c.args.first c.args.second
    _ _ _ _ (ap of_bytes (c.deref_mut.ensures.value ∙ c.in_ok-one.ensures.items)) (ap of_bytes (c.deref_mut-2.ensures.value ∙ c.in_ok-other.ensures.items)) c.compare_single.ensures
