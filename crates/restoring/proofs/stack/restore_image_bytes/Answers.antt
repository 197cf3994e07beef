use Rattle.restoring.proofs.Stacked.{refused_bytes, blocks_tell}
use Rattle.restoring.proofs.stack.restore_image_bytes.Goals as goal

pub returns-clause-refused : goal.returns-clause-refused
returns-clause-refused c = refused_bytes c.restore_image_blocks.result _ _ _ _ _ _ c.restore_image_blocks.ensures.first c.restore_image_blocks.ensures.second

pub returns-clause-told : goal.returns-clause-told
returns-clause-told c = blocks_tell
