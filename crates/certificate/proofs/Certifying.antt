-- From what a comparison answers to what it certifies.
use Rattle.std.proofs.Common.{◌≡◌, ℕ, min, Bool, true, false, cond, eqb, List, Ok, Err, vec_items, Result, sym, refl, ap, ◌∙◌, subst, arith}
use Rattle.std.proofs.lemmas.Bool.{eqb-true, eqb-false, true≢false}
use Rattle.device.specs.Store.{ReadAlike}
use Rattle.tier.specs.Models.{Model, LawfulModel}
use Rattle.pile.specs.declared.faults.MountFault.{MountFault}
use Rattle.pile.specs.Laws.{Mountable, served, sum_of, sound_count}
use Rattle.pile.specs.Mounts.{mount_answer}
use Rattle.pile.specs.Reads.{reads_of, telling}
use Rattle.pile.proofs.Mounting.{mountable}
use Rattle.pile.proofs.Promised.{promised}
use Rattle.pile.proofs.Sums.{paired, alike_if, tells}
use Rattle.certificate.specs.declared.weighing.CompareFault.{CompareFault}
use Rattle.certificate.specs.declared.weighing.CompareFault.TheVariants.{First, Second, Devices as OfDevices, Memory}
use Rattle.certificate.specs.declared.weighing.Comparison.{Comparison}
use Rattle.certificate.specs.declared.weighing.Verdict.{Verdict}
use Rattle.certificate.specs.declared.weighing.Verdict.TheVariants.{Alike, Differ}
use Rattle.certificate.specs.Certificates.{Says, Certified, Certificate}
use Rattle.certificate.specs.Devices.{same_devices}
use Rattle.certificate.specs.Weighings.{alike, apart, Weighing, judged, weighed, then, pair_answer, after_check, compare_answer, seen_verdict, seen_comparison, seen, memory_or}
use Rattle.certificate.proofs.Sameness.{same_found, same_known}

-- an accepted check passed both parts
then_ok : (wrap : MountFault → CompareFault) (r : Result (Unit {0}) MountFault) (next : Result (Unit {0}) CompareFault) → then wrap r next ≡ Ok tt → (r ≡ Ok tt) × (next ≡ Ok tt)
then_ok wrap (Ok u) next h = (refl, h)
then_ok wrap (Err f) next h = let z : ◌≡◌ {A = ℕ} 0 1 = cc in absurd (omega arith)

-- devices are refused where nothing before them was
then_devices : (wrap : MountFault → CompareFault) → ((f : MountFault) → wrap f ≡ OfDevices → ⊥) → (r : Result (Unit {0}) MountFault) (next : Result (Unit {0}) CompareFault)
    → then wrap r next ≡ Err OfDevices → next ≡ Err OfDevices
then_devices wrap n (Ok u) next h = h
then_devices wrap n (Err f) next h = let e : wrap f ≡ OfDevices = cc in absurd (n f e)

first_not : (f : MountFault) → First f ≡ OfDevices → ⊥
first_not f h = let z : ◌≡◌ {A = ℕ} 0 1 = cc in omega arith

second_not : (f : MountFault) → Second f ≡ OfDevices → ⊥
second_not f h = let z : ◌≡◌ {A = ℕ} 0 1 = cc in omega arith

found_same : (t : Bool) → ◌≡◌ {A = Result (Unit {0}) CompareFault} (cond t (Ok tt) (Err OfDevices)) (Ok tt) → t ≡ true
found_same true h = refl
found_same false h = let z : ◌≡◌ {A = ℕ} 0 1 = cc in absurd (omega arith)

found_apart : (t : Bool) → ◌≡◌ {A = Result (Unit {0}) CompareFault} (cond t (Ok tt) (Err OfDevices)) (Err OfDevices) → t ≡ false
found_apart false h = refl
found_apart true h = let z : ◌≡◌ {A = ℕ} 0 1 = cc in absurd (omega arith)

check_ok : (p : Result (Unit {0}) CompareFault) (w x : Weighing) → after_check p w ≡ Ok x → (p ≡ Ok tt) × (w ≡ x)
check_ok (Ok u) w x h = (refl, cc)
check_ok (Err f) w x h = let z : ◌≡◌ {A = ℕ} 0 1 = cc in absurd (omega arith)

check_refused : (p : Result (Unit {0}) CompareFault) (w : Weighing) (f : CompareFault) → after_check p w ≡ Err f → p ≡ Err f
check_refused (Ok u) w f h = let z : ◌≡◌ {A = ℕ} 0 1 = cc in absurd (omega arith)
check_refused (Err e) w f h = cc

-- the judgement as a test
judged_alike : (t : Bool) (reads : List ℕ) → cond t alike (apart reads) ≡ alike → t ≡ true
judged_alike true reads h = refl
judged_alike false reads h = let z : ◌≡◌ {A = ℕ} 0 1 = cc in absurd (omega arith)

judged_apart : (t : Bool) (reads xs : List ℕ) → cond t alike (apart reads) ≡ apart xs → (t ≡ false) × (reads ≡ xs)
judged_apart true reads xs h = let z : ◌≡◌ {A = ℕ} 0 1 = cc in absurd (omega arith)
judged_apart false reads xs h = (refl, cc)

module _ (m n : Model) (l : LawfulModel m) (k : LawfulModel n) (i j : ℕ) where
  module _ (f : Mountable m) (g : Mountable n) (same : ReadAlike m.store n.store) where
    verdict_says : (v : Verdict) → seen_verdict v ≡ judged (sum_of m i) (sum_of n j) (sound_count m.store) (telling m.store (min (sum_of m i) (sum_of n j))) → Says m i n j v
    verdict_says Alike h =
        alike_if m n f g same i j (eqb-true (min (sum_of m i) (sound_count m.store)) (min (sum_of n j) (sound_count m.store))
        (judged_alike (eqb (min (sum_of m i) (sound_count m.store)) (min (sum_of n j) (sound_count m.store))) (telling m.store (min (sum_of m i) (sum_of n j))) (sym h)))
    verdict_says (Differ reads) h =
        let p = judged_apart (eqb (min (sum_of m i) (sound_count m.store)) (min (sum_of n j) (sound_count m.store))) (telling m.store (min (sum_of m i) (sum_of n j))) (vec_items reads) (sym h) in
        λ e. tells m n f g same i j (eqb-false (min (sum_of m i) (sound_count m.store)) (min (sum_of n j) (sound_count m.store)) p.0)
        (subst (λ xs. served m i (reads_of xs) ≡ served n j (reads_of xs)) (sym p.1) e)

  -- an accepted comparison
  accepted : (c : Comparison) → ◌≡◌ (Ok (seen_comparison c)) (compare_answer m i n j) → Certified m i n j c.verdict
  accepted c h =
      let p = check_ok (pair_answer m n) (weighed m i n j) (seen_comparison c) (sym h) in
      let a = then_ok First (mount_answer m) (then Second (mount_answer n) (cond (same_devices m.store n.store) (Ok tt) (Err OfDevices))) p.0 in
      let b = then_ok Second (mount_answer n) (cond (same_devices m.store n.store) (Ok tt) (Err OfDevices)) a.1 in
      let same = same_found m.store n.store l.store k.store (found_same (same_devices m.store n.store) b.1) in
      let f = mountable m l a.0 in
      let g = mountable n k b.0 in
      record {
        same = same;
        first = promised m f;
        second = promised n g;
        both = paired m n f g same;
        says = verdict_says f g same c.verdict (sym (ap (λ w. w.judgement) p.1));
      }

  -- devices that were refused differ
  refused_devices : ◌≡◌ (Err OfDevices) (compare_answer m i n j) → ReadAlike m.store n.store → ⊥
  refused_devices h s =
      let p = check_refused (pair_answer m n) (weighed m i n j) OfDevices (sym h) in
      let a = then_devices First first_not (mount_answer m) (then Second (mount_answer n) (cond (same_devices m.store n.store) (Ok tt) (Err OfDevices))) p in
      let b = then_devices Second second_not (mount_answer n) (cond (same_devices m.store n.store) (Ok tt) (Err OfDevices)) a in
      true≢false (sym (same_known m.store n.store l.store k.store s) ∙ found_apart (same_devices m.store n.store) b)

  pub certify : (r : Result Comparison CompareFault) → seen r ≡ memory_or r (compare_answer m i n j) → Certificate m i n j r
  certify (Ok c) h = accepted c h
  certify (Err (First f)) h = tt
  certify (Err (Second f)) h = tt
  certify (Err OfDevices) h = refused_devices h
  certify (Err Memory) h = tt
