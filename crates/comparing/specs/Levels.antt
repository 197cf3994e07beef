-- A comparison of two tiers: its answer and its certificate.
use Rattle.std.specs.Prelude.{◌≡◌, ℕ, Result}
use Rattle.tier.specs.Models.{Model}
use Rattle.certificate.specs.declared.weighing.CompareFault.{CompareFault}
use Rattle.certificate.specs.declared.weighing.Comparison.{Comparison}
use Rattle.certificate.specs.Certificates.{Certificate}
use Rattle.certificate.specs.Weighings.{compare_answer, seen, memory_or}

-- the first j levels of one and the first k of the other
pub record Compared (m : Model) (j : ℕ) (n : Model) (k : ℕ) (r : Result Comparison CompareFault) : Type 0 where
  pub answer : seen r ≡ memory_or r (compare_answer m j n k)
  pub certificate : Certificate m j n k r
