use Rattle.std.proofs.Common.{ap}
use Rattle.device.specs.Bytes.{of_bytes}
use Rattle.comparing.proofs.Replaced.{devices_are}
use Rattle.comparing.proofs.sheets.compare_single.Goals as goal

pub returns : goal.returns
returns c =
    devices_are c.compare_listed.result c.args.first c.args.second
    _ _ _ _ (ap of_bytes c.new-one.ensures.bytes) (ap of_bytes c.new-other.ensures.bytes) c.compare_listed.ensures
