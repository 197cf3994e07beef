use Rattle.std.proofs.Common.{ap}
use Rattle.rings.specs.Buckets.{sought}
use Rattle.rings.specs.Models.{ring}
use Rattle.rings.proofs.Filing.{found_key}
use Rattle.rings.proofs.index.Index.bucket_for.Goals as goal

pub returns : goal.returns
returns c =
    let s = c.args.self.now in
    found_key s.rings s.keys c.args.number _ (ap (λ r. sought s.keys c.args.number (ring s.rings r)) c.bucket_of.ensures)
