-- Comparing two devices block by block.
use Rattle.std.proofs.Common.{◌≡◌, ℕ, zero, suc, ◌<◌, true, false, eqb, sym, refl, ◌∙◌, subst, inl, inr, arith}
use Rattle.std.specs.Str.{bytes_eq}
use Rattle.std.proofs.lemmas.Slice.Eq.{bytes_eq-Decides}
use Rattle.std.proofs.lemmas.Bool.{cases_Bool, cases_lt, and_parts, and_from, eqb-true, eq-eqb, not-true}
use Rattle.device.specs.Below.{all_below}
use Rattle.device.specs.Store.{Store, Lawful, ReadAlike}
use Rattle.device.proofs.Below.{all_at}
use Rattle.certificate.specs.Devices.{same_block, same_devices}

module _ (s t : Store) (l : Lawful s) (k : Lawful t) where
  past : (b : ℕ) (u : Store) → Lawful u → u.size ≡ s.size → (b < s.size → ⊥) → u.sound b ≡ false
  past b u g e n = elim (cases_Bool (u.sound b)) [ inl h ↦ absurd (n (subst (λ m. b < m) e (g.there b h))) | inr h ↦ h ]

  sound_alike : (b : ℕ) → same_block s t b ≡ true → s.sound b ≡ t.sound b
  sound_alike b h = elim (cases_Bool (s.sound b)) [
    | inl g ↦ g ∙ sym (and_parts (t.sound b) (bytes_eq (s.at b) (t.at b)) (rw (g, same_block) at h)).0
    | inr g ↦ g ∙ sym (not-true (t.sound b) (rw (g, same_block) at h))
  ]

  bytes_alike : (b : ℕ) → same_block s t b ≡ true → s.sound b ≡ true → s.at b ≡ t.at b
  bytes_alike b h g = (bytes_eq-Decides (s.at b) (t.at b)).0 (and_parts (t.sound b) (bytes_eq (s.at b) (t.at b)) (rw (g, same_block) at h)).1

  -- devices that are found to be the same are so
  pub same_found : same_devices s t ≡ true → ReadAlike s t
  same_found h = record {
    size = e;
    sound = λ b. elim (cases_lt b s.size) [ inl g ↦ sound_alike b (each b g) | inr g ↦ past b s l refl (λ x. omega (arith, g, x)) ∙ sym (past b t k (sym e) (λ x. omega (arith, g, x))) ];
    at = λ b g u. bytes_alike b (each b g) u;
  }
    where
      p : (eqb s.size t.size ≡ true) × (all_below (same_block s t) s.size ≡ true)
      p = and_parts (eqb s.size t.size) (all_below (same_block s t) s.size) h

      e : s.size ≡ t.size
      e = eqb-true s.size t.size p.0

      each : (b : ℕ) → b < s.size → same_block s t b ≡ true
      each b g = all_at (same_block s t) s.size b p.1 g

  -- and only those
  pub same_known : ReadAlike s t → same_devices s t ≡ true
  same_known e = and_from (eqb s.size t.size) (all_below (same_block s t) s.size) (eq-eqb s.size t.size e.size) (all s.size)
    where
      one : (b : ℕ) → same_block s t b ≡ true
      one b = elim (cases_Bool (s.sound b)) [
        | inl g ↦ rw (g, sym (e.sound b) ∙ g) ((bytes_eq-Decides (s.at b) (t.at b)).1 (e.at b (l.there b g) g))
        | inr g ↦ rw (g, sym (e.sound b) ∙ g)
      ]

      all : (n : ℕ) → all_below (same_block s t) n ≡ true
      all zero = refl
      all (suc n) = and_from (all_below (same_block s t) n) (same_block s t n) (all n) (one n)
