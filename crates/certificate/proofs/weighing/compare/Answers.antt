use Rattle.certificate.proofs.Certifying.{certify}
use Rattle.certificate.proofs.weighing.compare.Goals as goal

pub returns : goal.returns
returns g c = record {
  answer = c.weigh.ensures;
  certificate = certify (g.F.Tier.model c.args.first.tier.now) (g.S.Tier.model c.args.second.tier.now) (g.F.Tier.lawful c.args.first.tier.now) (g.S.Tier.lawful c.args.second.tier.now)
      c.args.first.levels c.args.second.levels c.weigh.result c.weigh.ensures;
}
