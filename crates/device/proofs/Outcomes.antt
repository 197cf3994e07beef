-- What a write leaves, by the answer.
use Rattle.std.proofs.Common.{◌≡◌, ℕ, ◌<◌, true, eqb, ltb, List, length, Ok, Err, Result, inl, inr, arith}
use Rattle.std.proofs.lemmas.Bool.{cases_Bool, eqb-true, ltb-true}
use Rattle.device.specs.declared.fault.DeviceFault.{DeviceFault}
use Rattle.device.specs.Store.{Store, put}
use Rattle.device.specs.Answers.{answer, written}

pub written_ok : (s : Store) (b : ℕ) (bytes : List ℕ) → answer s b (length bytes) ≡ Ok tt → written s b bytes ≡ put s b bytes
written_ok s b bytes h = rw h

pub written_err : (s : Store) (b : ℕ) (bytes : List ℕ) (e : DeviceFault) → answer s b (length bytes) ≡ Err e → written s b bytes ≡ s
written_err s b bytes e h = rw h

never : {X : Type 0} {u : Unit {0}} {e : DeviceFault} → ◌≡◌ {A = Result (Unit {0}) DeviceFault} (Err e) (Ok u) → X
never h = let z : ◌≡◌ {A = ℕ} 0 1 = cc in absurd (omega arith)

-- what an accepted call has passed
pub record Admitted (s : Store) (b n : ℕ) : Type 0 where
  pub full : n ≡ 256
  pub there : b < s.size
  pub usable : s.sound b ≡ true

pub admitted : (s : Store) (b n : ℕ) → answer s b n ≡ Ok tt → Admitted s b n
admitted s b n h =
    elim (cases_Bool (eqb n 256)) [
      | inr f ↦ never (rw f at h)
      | inl f ↦ elim (cases_Bool (ltb b s.size)) [
        | inr t ↦ never (rw (f, t) at h)
        | inl t ↦ elim (cases_Bool (s.sound b)) [
          | inr u ↦ never (rw (f, t, u) at h)
          | inl u ↦ record { full = eqb-true n 256 f; there = ltb-true b s.size t; usable = u }
        ]
      ]
    ]
