-- The certificate: what an accepted comparison proves of the two tiers, over every list of calls.
use Rattle.std.specs.Prelude.{◌≡◌, ℕ, Ok, Err, vec_items, Result}
use Rattle.device.specs.Store.{ReadAlike}
use Rattle.tier.specs.Models.{Model}
use Rattle.pile.specs.Laws.{Promised, Paired, ServeAlike, served}
use Rattle.certificate.specs.declared.weighing.CompareFault.{CompareFault}
use Rattle.certificate.specs.declared.weighing.CompareFault.TheVariants.{First, Second, Devices as OfDevices, Memory}
use Rattle.certificate.specs.declared.weighing.Comparison.{Comparison}
use Rattle.certificate.specs.declared.weighing.Verdict.{Verdict}
use Rattle.certificate.specs.declared.weighing.Verdict.TheVariants.{Alike, Differ}
use Rattle.pile.specs.Reads.{reads_of}

-- alike: on every list of calls the two serve equally many touches; else these reads are a list on which they do not
abbrev pub Says : Model → ℕ → Model → ℕ → Verdict → Type 0
Says m j n k Alike = ServeAlike m j n k
Says m j n k (Differ reads) = served m j (reads_of (vec_items reads)) ≡ served n k (reads_of (vec_items reads)) → ⊥

-- the laws of each tier, those of the two, and the verdict on the first j levels of one and the first k of the other
pub record Certified (m : Model) (j : ℕ) (n : Model) (k : ℕ) (v : Verdict) : Type 0 where
  pub same : ReadAlike m.store n.store
  pub first : Promised m
  pub second : Promised n
  pub both : Paired m n
  pub says : Says m j n k v

-- what is proved by each answer
abbrev pub Certificate : Model → ℕ → Model → ℕ → Result Comparison CompareFault → Type 0
Certificate m j n k (Ok c) = Certified m j n k c.verdict
Certificate m j n k (Err (First f)) = Unit {0}
Certificate m j n k (Err (Second f)) = Unit {0}
Certificate m j n k (Err OfDevices) = ReadAlike m.store n.store → ⊥
Certificate m j n k (Err Memory) = Unit {0}
