-- Links of every place to itself: rings that are all empty.
use Rattle.std.proofs.Common.{◌≡◌, ℕ, ◌+◌, ◌<◌, List, [], length, get_or, sym, refl, ap, ◌∙◌, arith}
use Rattle.rings.specs.declared.links.Link.{Link}
use Rattle.rings.specs.Places.{next_of, prev_of, itself, nexts, prevs}
use Rattle.rings.specs.Links.{walk, ring_of, Closed, Paired}
use Rattle.rings.proofs.Places.{next_at, prev_at}
use Rattle.rings.proofs.Chains.{walk_end, ring_is, closed_to}

ring_self : (n : List ℕ) (r : ℕ) → get_or n (16 + r) 0 ≡ 16 + r → ring_of n r ≡ []
ring_self n r e = ring_is n r ∙ (ap (λ i. walk 16 n i) e ∙ walk_end 16 n (16 + r) (omega arith))

module _ (ls : List Link) (wide : length ls ≡ 32) (own : (i : ℕ) → i < 32 → get_or ls i (itself 0) ≡ itself i) where
  lone_next : (i : ℕ) → i < 32 → get_or (nexts ls) i 0 ≡ i
  lone_next i h = sym (next_at ls i (itself 0) (omega arith)) ∙ ap next_of (own i h)

  lone_prev : (i : ℕ) → i < 32 → get_or (prevs ls) i 0 ≡ i
  lone_prev i h = sym (prev_at ls i (itself 0) (omega arith)) ∙ ap prev_of (own i h)

  pub lone_paired : Paired (nexts ls) (prevs ls)
  lone_paired i h = let e = lone_next i h in (omega arith, ap (λ j. get_or (prevs ls) j 0) e ∙ lone_prev i h)

  pub lone_paired_back : Paired (prevs ls) (nexts ls)
  lone_paired_back i h = let e = lone_prev i h in (omega arith, ap (λ j. get_or (nexts ls) j 0) e ∙ lone_next i h)

  pub lone_ring : (r : ℕ) → r < 16 → ring_of (nexts ls) r ≡ []
  lone_ring r h = ring_self (nexts ls) r (lone_next (16 + r) (omega arith))

  pub lone_closed : Closed (nexts ls) (prevs ls)
  lone_closed r h = closed_to (nexts ls) (prevs ls) r [] (lone_next (16 + r) (omega arith), lone_prev (16 + r) (omega arith)) refl
