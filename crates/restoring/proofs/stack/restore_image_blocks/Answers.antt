use Rattle.std.proofs.Common.{◌∙◌, sym, ap}
use Rattle.device.specs.Bytes.{of_bytes}
use Rattle.restoring.specs.Stacks.{first_after, second_after}
use Rattle.restoring.proofs.Lent.{same_name}
use Rattle.restoring.proofs.stack.restore_image_blocks.Goals as goal

-- each slice holds what its image held at the end, since that image stands over the same loan
pub returns-clause-first : goal.returns-clause-first
returns-clause-first c =
    let e = c.restore_devices.ensures in
    let v = c.first-1.given.1.1 (sym (same_name e.first_loans ∙ c.new-a.ensures.loan)) in
    ap (λ xs. (of_bytes xs).at) v ∙ (e.first ∙ (λ i. first_after c.restore_devices.result c.args.how.unit (of_bytes (c.new-source.ensures i)) (of_bytes (c.new-a.ensures.bytes i))))

pub returns-clause-second : goal.returns-clause-second
returns-clause-second c =
    let e = c.restore_devices.ensures in
    let v = c.second-1.given.1.1 (sym (same_name e.second_loans ∙ c.new-b.ensures.loan)) in
    ap (λ xs. (of_bytes xs).at) v ∙ (e.second ∙ (λ i. second_after c.restore_devices.result c.args.how.unit (of_bytes (c.new-source.ensures i)) (of_bytes (c.new-b.ensures.bytes i))))
