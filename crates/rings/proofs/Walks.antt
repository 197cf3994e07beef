-- Walking a ring: where a walk begins, and each step of it.
use Rattle.std.proofs.Common.{◌≡◌, ℕ, suc, ◌+◌, ◌<◌, ◌≤◌, ltb, List, ◌∷◌, get_or, Some, None, Option, sym, refl, ap, ◌∙◌, inl, inr, arith}
use Rattle.std.proofs.lemmas.Bool.{cases_Bool, ltb-true}
use Rattle.rings.specs.declared.rings.Rings.{Rings}
use Rattle.rings.specs.Links.{walk, slot_at}
use Rattle.rings.specs.Models.{ring}
use Rattle.rings.specs.Places.{nexts, prevs}
use Rattle.rings.specs.Walks.{met, Ends}
use Rattle.rings.proofs.Lists.{length_distinct}
use Rattle.rings.proofs.Chains.{walk_slot, walk_chain, ring_is, closed_chain, closed_distinct, chain_slots}

met_is : (n : List ℕ) (i : ℕ) → met n i ≡ walk 16 n i
unfolding met
met_is n i = refl

-- a slot at a place is that place
slot_here : (i x : ℕ) → slot_at i ≡ Some x → (x ≡ i) × (i < 16)
slot_here i x e =
    elim (cases_Bool (ltb i 16)) [
      | inl h ↦ let q : Some i ≡ Some x = (rw h at e) in (cc, ltb-true i 16 h)
      | inr h ↦ let q : ◌≡◌ {A = Option ℕ} None (Some x) = (rw h at e) in let z : ◌≡◌ {A = ℕ} 0 1 = cc in absurd (omega arith)
    ]

-- a walk of a ring begins at its first slot
pub met_first : (s : Rings) (r : ℕ) → met (nexts s.links) (get_or (nexts s.links) (16 + r) 0) ≡ ring s r
met_first s r = met_is (nexts s.links) _ ∙ sym (ring_is (nexts s.links) r)

pub ends_first : (s : Rings) (r : ℕ) → r < 16 → Ends (nexts s.links) (get_or (nexts s.links) (16 + r) 0)
ends_first s r h k big =
    let n = nexts s.links in
    let p = prevs s.links in
    let c = closed_chain n p r (s.closed r h) in
    let l = length_distinct 16 (ring s r) (closed_distinct n p r (s.closed r h)) (chain_slots n p (16 + r) (ring s r) (16 + r) c) in
    walk_chain k n p (16 + r) (ring s r) (16 + r) c (omega arith) (omega arith) ∙ sym (met_first s r)

module _ (n : List ℕ) (i : ℕ) (low : i < 16) (ends : Ends n i) where
  longer : (k : ℕ) → 15 ≤ k → walk k n (get_or n i 0) ≡ walk 15 n (get_or n i 0)
  longer k h =
      let e : i ∷ walk k n (get_or n i 0) ≡ i ∷ walk 15 n (get_or n i 0) = sym (walk_slot k n i low) ∙ (ends (suc k) (omega arith) ∙ (met_is n i ∙ walk_slot 15 n i low)) in cc

  pub met_next : met n i ≡ i ∷ met n (get_or n i 0)
  met_next = met_is n i ∙ (walk_slot 15 n i low ∙ ap (λ xs. i ∷ xs) (sym (longer 16 (omega arith)) ∙ sym (met_is n (get_or n i 0))))

  pub ends_next : Ends n (get_or n i 0)
  ends_next k h = longer k (omega arith) ∙ (sym (longer 16 (omega arith)) ∙ sym (met_is n (get_or n i 0)))

-- one step of a walk, from place i over slot x to place j
pub step : (n : List ℕ) (i x j : ℕ) → slot_at i ≡ Some x → j ≡ get_or n x 0 → Ends n i → (met n i ≡ x ∷ met n j) × Ends n j
step n i x j e f ends = let q = slot_here i x e in rw (f, q.0) (met_next n i q.1 ends, ends_next n i q.1 ends)
