-- What a comparison of two tiers answers.
use Rattle.std.specs.Prelude.{ℕ, min, Bool, true, false, cond, List, Ok, Err, vec_items, Result, ◌==◌}
use Rattle.tier.specs.Models.{Model}
use Rattle.pile.specs.declared.faults.MountFault.{MountFault}
use Rattle.pile.specs.Laws.{sum_of, sound_count}
use Rattle.pile.specs.Mounts.{mount_answer}
use Rattle.certificate.specs.declared.weighing.CompareFault.{CompareFault}
use Rattle.certificate.specs.declared.weighing.CompareFault.TheVariants.{First, Second, Devices as OfDevices, Memory}
use Rattle.certificate.specs.declared.weighing.Comparison.{Comparison}
use Rattle.certificate.specs.declared.weighing.Verdict.{Verdict}
use Rattle.certificate.specs.declared.weighing.Verdict.TheVariants.{Alike, Differ}
use Rattle.certificate.specs.Devices.{same_devices}
use Rattle.pile.specs.Reads.{telling}

-- alike, or told apart by reads of these blocks
pub data Judgement : Type 0 where
  alike : Judgement
  apart : List ℕ → Judgement

-- the sums of capacities, the number of sound blocks, and what follows
pub record Weighing : Type 0 where
  pub first : ℕ
  pub second : ℕ
  pub sound : ℕ
  pub judgement : Judgement

-- room beyond the number of sound blocks does not matter
abbrev pub judged : ℕ → ℕ → ℕ → List ℕ → Judgement
judged first second sound reads = cond (min first sound == min second sound) alike (apart reads)

abbrev pub weighed : Model → ℕ → Model → ℕ → Weighing
weighed m j n k = record {
  first = sum_of m j;
  second = sum_of n k;
  sound = sound_count m.store;
  judgement = judged (sum_of m j) (sum_of n k) (sound_count m.store) (telling m.store (min (sum_of m j) (sum_of n k)));
}

abbrev pub then : {X : Type 0} → (MountFault → CompareFault) → Result (Unit {0}) MountFault → Result X CompareFault → Result X CompareFault
then wrap (Ok u) next = next
then wrap (Err f) next = Err (wrap f)

-- both tiers must be such as can be mounted, the first is checked first, and then their devices the same
abbrev pub pair_answer : Model → Model → Result (Unit {0}) CompareFault
pair_answer m n = then First (mount_answer m) (then Second (mount_answer n) (cond (same_devices m.store n.store) (Ok tt) (Err OfDevices)))

abbrev pub after_check : Result (Unit {0}) CompareFault → Weighing → Result Weighing CompareFault
after_check (Ok u) w = Ok w
after_check (Err f) w = Err f

abbrev pub compare_answer : Model → ℕ → Model → ℕ → Result Weighing CompareFault
compare_answer m j n k = after_check (pair_answer m n) (weighed m j n k)

-- what an answer says, whatever memory its reads lie in
abbrev pub seen_verdict : Verdict → Judgement
seen_verdict Alike = alike
seen_verdict (Differ reads) = apart (vec_items reads)

abbrev pub seen_comparison : Comparison → Weighing
seen_comparison c = record { first = c.first; second = c.second; sound = c.sound; judgement = seen_verdict c.verdict }

abbrev pub seen : Result Comparison CompareFault → Result Weighing CompareFault
seen (Ok c) = Ok (seen_comparison c)
seen (Err f) = Err f

-- whether an answer is not the want of memory for the reads
abbrev pub had_memory : Result Comparison CompareFault → Bool
had_memory (Ok c) = true
had_memory (Err (First f)) = true
had_memory (Err (Second f)) = true
had_memory (Err OfDevices) = true
had_memory (Err Memory) = false

abbrev pub memory_or : Result Comparison CompareFault → Result Weighing CompareFault → Result Weighing CompareFault
memory_or r given = cond (had_memory r) given (Err Memory)
