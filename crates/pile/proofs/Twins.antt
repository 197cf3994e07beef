-- Bare devices that no read can tell apart answer alike.
use Rattle.std.proofs.Common.{◌≡◌, ℕ, true, false, cond, eqb, ltb, List, [], ◌∷◌, length, is_ok, Ok, Err, sym, refl, ap, ◌∙◌, subst, inl, inr}
use Rattle.std.proofs.lemmas.Bool.{cases_Bool, cond-true as cond_yes, cond-false as cond_no}
use Rattle.device.specs.Answers.{answer, checked}
use Rattle.device.specs.Store.{Store, Same, ReadAlike, put}
use Rattle.device.proofs.Outcomes.{admitted as passed}
use Rattle.tier.specs.Models.{Model}
use Rattle.pile.specs.declared.faults.PileFault.TheVariants.{Full}
use Rattle.pile.specs.Bare.{Bare, bare, bare_admitted, bare_answered, bare_stepped, bare_after, bare_answers}
use Rattle.pile.specs.Laws.{Mountable, Alike, trail_of}
use Rattle.pile.specs.Piles.{Call, read, write, sync, wrapped}
use Rattle.pile.proofs.Promised.{transparent}
use Rattle.pile.proofs.Runs.{wrapped_ok}

pub record Twin (d e : Bare) : Type 0 where
  pub store : ReadAlike d.store e.store
  pub trail : d.trail ≡ e.trail

module _ (d e : Bare) (tw : Twin d e) where
  same_answer : (b n : ℕ) → answer d.store b n ≡ answer e.store b n
  same_answer b n = ap (λ k. checked n b k (d.store.sound b)) tw.store.size ∙ ap (λ t. checked n b e.store.size t) (tw.store.sound b)

  same_admit : (b n : ℕ) → bare_admitted d b n ≡ bare_admitted e b n
  same_admit b n =
      ap (λ r. wrapped r (cond (ltb (length d.trail) 4000000000) (Ok tt) (Err Full))) (same_answer b n)
      ∙ ap (λ t. wrapped (answer e.store b n) (cond (ltb (length t) 4000000000) (Ok tt) (Err Full))) tw.trail

  held_alike : (b n : ℕ) → is_ok (bare_admitted d b n) ≡ true → d.store.at b ≡ e.store.at b
  held_alike b n h =
      let k = passed d.store b n (wrapped_ok (answer d.store b n) (cond (ltb (length d.trail) 4000000000) (Ok tt) (Err Full)) h) in
      tw.store.at b k.there k.usable

  put_same : (b : ℕ) (v : List ℕ) → ReadAlike (put d.store b v) (put e.store b v)
  put_same b v = record { size = tw.store.size; at = λ n h k. ap (λ x. cond (eqb n b) v x) (tw.store.at n h k); sound = tw.store.sound }

  pub twin_step : (c : Call) → Twin (bare_stepped c d) (bare_stepped c e) × (bare_answered c d ≡ bare_answered c e)
  twin_step sync = (tw, refl)
  twin_step (read b v) = elim (cases_Bool (is_ok (bare_admitted d b (length v)))) [ inl h ↦ took h | inr h ↦ left h ]
    where
      q : bare_admitted d b (length v) ≡ bare_admitted e b (length v)
      q = same_admit b (length v)

      took : is_ok (bare_admitted d b (length v)) ≡ true → Twin (bare_stepped (read b v) d) (bare_stepped (read b v) e) × (bare_answered (read b v) d ≡ bare_answered (read b v) e)
      took h =
          let h' : is_ok (bare_admitted e b (length v)) ≡ true = sym (ap is_ok q) ∙ h in (
            subst (λ x. Twin x (bare_stepped (read b v) e)) (sym (cond_yes (is_ok (bare_admitted d b (length v))) record { store = d.store; trail = b ∷ d.trail } d h))
                (subst (λ x. Twin record { store = d.store; trail = b ∷ d.trail } x) (sym (cond_yes (is_ok (bare_admitted e b (length v))) record { store = e.store; trail = b ∷ e.trail } e h'))
                (record { store = tw.store; trail = ap (λ t. b ∷ t) tw.trail })),
            λ i. record { result = q i; buffer = (cond_yes (is_ok (bare_admitted d b (length v))) (d.store.at b) v h ∙ (held_alike b (length v) h ∙ sym (cond_yes (is_ok (bare_admitted e b (length v))) (e.store.at b) v h'))) i },
          )

      left : is_ok (bare_admitted d b (length v)) ≡ false → Twin (bare_stepped (read b v) d) (bare_stepped (read b v) e) × (bare_answered (read b v) d ≡ bare_answered (read b v) e)
      left h =
          let h' : is_ok (bare_admitted e b (length v)) ≡ false = sym (ap is_ok q) ∙ h in (
            subst (λ x. Twin x (bare_stepped (read b v) e)) (sym (cond_no (is_ok (bare_admitted d b (length v))) record { store = d.store; trail = b ∷ d.trail } d h))
                (subst (λ x. Twin d x) (sym (cond_no (is_ok (bare_admitted e b (length v))) record { store = e.store; trail = b ∷ e.trail } e h')) tw),
            λ i. record { result = q i; buffer = (cond_no (is_ok (bare_admitted d b (length v))) (d.store.at b) v h ∙ sym (cond_no (is_ok (bare_admitted e b (length v))) (e.store.at b) v h')) i },
          )
  twin_step (write b v) = elim (cases_Bool (is_ok (bare_admitted d b (length v)))) [ inl h ↦ took h | inr h ↦ left h ]
    where
      q : bare_admitted d b (length v) ≡ bare_admitted e b (length v)
      q = same_admit b (length v)

      took : is_ok (bare_admitted d b (length v)) ≡ true → Twin (bare_stepped (write b v) d) (bare_stepped (write b v) e) × (bare_answered (write b v) d ≡ bare_answered (write b v) e)
      took h =
          let h' : is_ok (bare_admitted e b (length v)) ≡ true = sym (ap is_ok q) ∙ h in (
            subst (λ x. Twin x (bare_stepped (write b v) e)) (sym (cond_yes (is_ok (bare_admitted d b (length v))) record { store = put d.store b v; trail = b ∷ d.trail } d h))
                (subst (λ x. Twin record { store = put d.store b v; trail = b ∷ d.trail } x) (sym (cond_yes (is_ok (bare_admitted e b (length v))) record { store = put e.store b v; trail = b ∷ e.trail } e h'))
                (record { store = put_same b v; trail = ap (λ t. b ∷ t) tw.trail })),
            λ i. record { result = q i; buffer = v },
          )

      left : is_ok (bare_admitted d b (length v)) ≡ false → Twin (bare_stepped (write b v) d) (bare_stepped (write b v) e) × (bare_answered (write b v) d ≡ bare_answered (write b v) e)
      left h =
          let h' : is_ok (bare_admitted e b (length v)) ≡ false = sym (ap is_ok q) ∙ h in (
            subst (λ x. Twin x (bare_stepped (write b v) e)) (sym (cond_no (is_ok (bare_admitted d b (length v))) record { store = put d.store b v; trail = b ∷ d.trail } d h))
                (subst (λ x. Twin d x) (sym (cond_no (is_ok (bare_admitted e b (length v))) record { store = put e.store b v; trail = b ∷ e.trail } e h')) tw),
            λ i. record { result = q i; buffer = v },
          )

twin_answers : (cs : List Call) (d e : Bare) → Twin d e → bare_answers cs d ≡ bare_answers cs e
twin_answers [] d e tw = refl
twin_answers (c ∷ cs) d e tw = let k = twin_step d e tw c in λ i. k.1 i ∷ twin_answers cs (bare_stepped c d) (bare_stepped c e) k.0 i

twin_after : (cs : List Call) (d e : Bare) → Twin d e → Twin (bare_after cs d) (bare_after cs e)
twin_after [] d e tw = tw
twin_after (c ∷ cs) d e tw = twin_after cs (bare_stepped c d) (bare_stepped c e) (twin_step d e tw c).0

mounted_twins : (s t : Store) → ReadAlike s t → Twin (bare s) (bare t)
mounted_twins s t h = record { store = h; trail = refl }

pub same_trail : (s t : Store) → ReadAlike s t → (cs : List Call) → trail_of cs s ≡ trail_of cs t
same_trail s t h cs = (twin_after cs (bare s) (bare t) (mounted_twins s t h)).trail

pub alike : (m n : Model) → Mountable m → Mountable n → ReadAlike m.store n.store → Alike m n
alike m n f g h cs = transparent m f cs ∙ (twin_answers cs (bare m.store) (bare n.store) (mounted_twins m.store n.store h) ∙ sym (transparent n g cs))

-- stores that are the same read alike
pub same_reads : (s t : Store) → Same s t → ReadAlike s t
same_reads s t e = record { size = e.size; sound = e.sound; at = λ b h k. e.at b h }
