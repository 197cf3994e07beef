use Rattle.rings.proofs.Filing.{key_none}
use Rattle.rings.proofs.index.Index.new.Goals as goal

pub returns : goal.returns
returns c x h = key_none c.new.result _ x c.new.ensures
