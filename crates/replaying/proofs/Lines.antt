-- Taking the lines of a trace one by one gives its calls in their order.
use Rattle.std.proofs.Common.{◌≡◌, ℕ, ◌+◌, ◌<◌, ◌≤◌, Bool, true, false, cond, List, [], ◌∷◌, length, get_or, is_some, Some, None, Option, sym, refl, ap, ◌∙◌, subst, inl, inr, arith}
use mir.Val.{bool_byte}
use Rattle.formats.specs.Traces.{Said, said, lines, lawful_line, first_line}
use Rattle.formats.specs.TraceLaws.{Taking}
use Rattle.formats.proofs.Judged.{judged_more}
use Rattle.formats.proofs.TraceLaw.{taken_rightly}
use Rattle.pile.specs.Piles.{Pile, stepped, after}
use Rattle.replaying.specs.Calls.{call_of, with_call, calls_in, calls_of}
use Rattle.replaying.specs.Runs.{refuses, refusals}

taking : (rest : List ℕ) (o : Option (Said × List ℕ)) → o ≡ first_line rest → Taking rest o
taking rest o h = subst (λ p. Taking rest p) (sym h) (taken_rightly rest)

more : (rest : List ℕ) (s : Said) (after : List ℕ) → Taking rest (Some (s, after)) → calls_of rest ≡ call_of s ∷ calls_of after
more rest s after (text, q, e) = ap calls_in q ∙ ap (λ o. with_call o (calls_of after)) e

-- a line that is taken gives the first call
pub calls_more : (rest : List ℕ) (s : Said) (after : List ℕ) → ◌≡◌ {A = Option (Said × List ℕ)} (Some (s, after)) (first_line rest)
    → (calls_of rest ≡ call_of s ∷ calls_of after) × (length after < length rest)
calls_more rest s after h = (more rest s after (taking rest (Some (s, after)) h), (judged_more 0 rest s after h).1)

unsaid : (o : Option Said) (ls : List (Option (List ℕ))) → is_some o ≡ false → with_call o (calls_in ls) ≡ []
unsaid None ls h = refl
unsaid (Some s) ls h = let z : ◌≡◌ {A = ℕ} 0 1 = cc in absurd (omega arith)

unlawful : (ls : List (Option (List ℕ))) → lawful_line (get_or ls 0 None) ≡ false → calls_in ls ≡ []
unlawful [] h = refl
unlawful (None ∷ ls) h = refl
unlawful (Some text ∷ ls) h = unsaid (said text) ls h

none : (rest : List ℕ) → Taking rest None → calls_of rest ≡ []
none rest (inl q) = ap calls_in q
none rest (inr h) = unlawful (lines rest) h

-- where none is taken there is no call left
pub calls_none : (rest : List ℕ) → ◌≡◌ {A = Option (Said × List ℕ)} None (first_line rest) → calls_of rest ≡ []
calls_none rest h = none rest (taking rest None h)

-- the lines that are left bring a pile and a count to where all bring them, and no more were refused than there were bytes
pub record Left (body rest : List ℕ) (start p : Pile) (refused : ℕ) : Type 0 where
  pub pile : after (calls_of rest) p ≡ after (calls_of body) start
  pub count : refused + refusals (calls_of rest) p ≡ refusals (calls_of body) start
  pub few : refused + length rest ≤ length body

as_number : (b : Bool) → bool_byte b ≡ cond b 1 0
as_number true = refl
as_number false = refl

module _ (body rest : List ℕ) (start p : Pile) (n : ℕ) (left : Left body rest start p n) where
  -- one line more
  pub left_more : (s : Said) (next : List ℕ) → ◌≡◌ {A = Option (Said × List ℕ)} (Some (s, next)) (first_line rest) → (q : Pile) → q ≡ stepped (call_of s) p
      → (b : Bool) → b ≡ refuses (call_of s) p → (m : ℕ) → m ≡ n + bool_byte b → Left body next start q m
  left_more s next taken q step b refused m f =
      let e : m ≡ n + cond b 1 0 = f ∙ ap (λ t. n + t) (as_number b) in
      let w = calls_more rest s next taken in
      let k : refusals (calls_of rest) p ≡ cond b 1 0 + refusals (calls_of next) q
      = ap (λ cs. refusals cs p) w.0 ∙ (ap (λ t. cond t 1 0 + refusals (calls_of next) (stepped (call_of s) p)) (sym refused) ∙ ap (λ t. cond b 1 0 + refusals (calls_of next) t) (sym step)) in
      record {
        pile = ap (λ t. after (calls_of next) t) step ∙ (ap (λ cs. after cs p) (sym w.0) ∙ left.pile);
        count = omega (arith, left.count, k, e);
        few = at_most b e w.1;
      }
    where
      at_most : (b : Bool) → m ≡ n + cond b 1 0 → length next < length rest → m + length next ≤ length body
      at_most true e l = omega (arith, left.few)
      at_most false e l = omega (arith, left.few)

  -- no line more
  module _ (h : ◌≡◌ {A = Option (Said × List ℕ)} None (first_line rest)) where
    pub left_none : p ≡ after (calls_of body) start
    left_none = sym (ap (λ cs. after cs p) (calls_none rest h)) ∙ left.pile

    pub counted_none : n ≡ refusals (calls_of body) start
    counted_none = omega (arith, left.count, ap (λ cs. refusals cs p) (calls_none rest h))
