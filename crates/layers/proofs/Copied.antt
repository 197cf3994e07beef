-- The loop of a restore: block after block copied.
use Rattle.std.proofs.Common.{◌≡◌, ℕ, ◌<◌, true, ◌&&◌, leb, Ok, Err, Result, ap, ◌∙◌, inl, inr, arith}
use Rattle.device.specs.declared.fault.DeviceFault.{DeviceFault}
use Rattle.std.proofs.lemmas.Bool.{and_parts, cases_Bool, lt-ltb}
use Rattle.device.specs.Answers.{answer}
use Rattle.device.specs.Store.{Store, Lawful}
use Rattle.layers.specs.Copies.{copy_answer}
use Rattle.device.proofs.Below.{all_at}
use Rattle.layers.specs.Restores.{restorable, restore_answer, copied}

accepts : (s : Store) → Lawful s → (b : ℕ) → s.sound b ≡ true → answer s b 256 ≡ Ok tt
accepts s l b h = rw (lt-ltb b s.size (l.there b h), h)

module _ (s d : Store) (l : Lawful s) (k : Lawful d) where
  both : {n : ℕ} → restore_answer s d ≡ Ok n → (n ≡ s.size) × (restorable s d ≡ true)
  both {n} h =
      elim (cases_Bool (leb s.size d.size)) [
        | inr w ↦ absurd (let g = rw w at h in let z : ◌≡◌ {A = ℕ} 0 1 = cc in omega arith)
        | inl w ↦ elim (cases_Bool (restorable s d)) [
          | inr r ↦ absurd (let g = rw (w, r) at h in let z : ◌≡◌ {A = ℕ} 0 1 = cc in omega arith)
          | inl r ↦ (let g : ◌≡◌ (Ok s.size) (Ok n) = rw (w, r) at h in cc, r)
        ]
      ]

  module _ (n : ℕ) (h : restore_answer s d ≡ Ok n) (b : ℕ) (below : b < n) where
    sounds : (s.sound b ≡ true) × (d.sound b ≡ true)
    sounds = and_parts (s.sound b) (d.sound b) (all_at (λ m. s.sound m && d.sound m) s.size b (both h).1 (omega (arith, (both h).0)))

    there : answer (copied b s d) b 256 ≡ Ok tt
    there = rw (lt-ltb b d.size (k.there b sounds.1), sounds.1)

    accepted : copy_answer s (copied b s d) b 256 ≡ Ok tt
    accepted = rw (accepts s l b sounds.0, there)

    -- a checked block is copied, where those before it are
    module _ (x : Store) (so_far : x ≡ copied b s d) (len : ℕ) (full : len ≡ 256) where
      pub copy_accepted : copy_answer s x b len ≡ Ok tt
      copy_accepted = ap (λ y. copy_answer s y b len) so_far ∙ (ap (λ m. copy_answer s (copied b s d) b m) full ∙ accepted)

      pub never_refused : {X : Type 0} {e : DeviceFault} → ◌≡◌ {A = Result (Unit {0}) DeviceFault} (Err e) (copy_answer s x b len) → X
      never_refused {e = e} h = let g : ◌≡◌ {A = Result (Unit {0}) DeviceFault} (Err e) (Ok tt) = h ∙ copy_accepted in let z : ◌≡◌ {A = ℕ} 0 1 = cc in absurd (omega arith)
