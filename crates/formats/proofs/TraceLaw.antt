-- The laws of judging and taking lines.
use Rattle.std.proofs.Common.{◌≡◌, ℕ, zero, suc, ◌+◌, ◌<◌, true, false, List, [], ◌∷◌, length, get_or, is_some, Some, None, Ok, Err, codes, Option, Result, refl, ap, ◌∙◌, inl, inr, arith}
use Rattle.std.proofs.lemmas.Slice.Eq.{bytes_eq-Decides}
use Rattle.std.proofs.lemmas.Bool.{cases_Bool}
use Rattle.formats.specs.declared.trace.TraceFault.{TraceFault}
use Rattle.formats.specs.declared.trace.TraceFault.TheVariants.{Broken}
use Rattle.formats.specs.Traces.{Said, said, cut, lines, lawful_line, is_header, judged_after, bodied, judged_by, beside, said_first}
use Rattle.formats.specs.TraceLaws.{heads, keeps, Judgement, JudgedRightly, Taking, TakenRightly}
use Rattle.formats.proofs.Cuts.{lines_by, lines_cut}

-- the same of the lines after so many
abbrev After : ℕ → List (Option (List ℕ)) → Result (Unit {0}) TraceFault → Type 0
After before ls (Ok u) = (k : ℕ) → k < length ls → lawful_line (get_or ls k None) ≡ true
After before ls (Err (Broken t)) = (k : ℕ) × (t ≡ (before + k) + 1) × (lawful_line (get_or ls k None) ≡ false) × ((j : ℕ) → j < k → lawful_line (get_or ls j None) ≡ true)

-- a lawful line in front
after_step : (before : ℕ) (l : Option (List ℕ)) (ls : List (Option (List ℕ))) (r : Result (Unit {0}) TraceFault) → lawful_line l ≡ true → After (before + 1) ls r → After before (l ∷ ls) r
after_step before l ls (Ok u) h f = all
  where
    all : (k : ℕ) → k < length (l ∷ ls) → lawful_line (get_or (l ∷ ls) k None) ≡ true
    all zero i = h
    all (suc k) i = f k (omega arith)
after_step before l ls (Err (Broken t)) h (k, e, b, f) = (suc k, omega arith, b, all)
  where
    all : (j : ℕ) → j < suc k → lawful_line (get_or (l ∷ ls) j None) ≡ true
    all zero i = h
    all (suc j) i = f j (omega arith)

after_law : (before : ℕ) (ls : List (Option (List ℕ))) → After before ls (judged_after before ls)
after_law before [] = λ k h. absurd (omega arith)
after_law before (l ∷ ls) =
    elim (cases_Bool (lawful_line l)) [
      | inl h ↦ rw h (after_step before l ls (judged_after (before + 1) ls) h (after_law (before + 1) ls))
      | inr h ↦ rw h (zero, omega arith, h, λ j i. absurd (omega arith))
    ]

-- the header in front
headed_step : (first body : List ℕ) (trace : List ℕ) (r : Result (Unit {0}) TraceFault) → lines trace ≡ Some first ∷ lines body → is_header first ≡ true → After 1 (lines body) r → Judgement trace (bodied body r)
headed_step first body trace (Ok u) q h f = (q ∙ ap (λ t. Some t ∷ lines body) ((bytes_eq-Decides first (codes "demote-trace 1")).0 h), λ k i. ap (λ zs. keeps k (get_or zs k None)) q ∙ all k (rw q at i))
  where
    all : (k : ℕ) → k < length (Some first ∷ lines body) → keeps k (get_or (Some first ∷ lines body) k None) ≡ true
    all zero i = h
    all (suc k) i = f k (omega arith)
headed_step first body trace (Err (Broken t)) q h (k, e, b, f) =
    (suc k, omega arith, ap (λ zs. lawful_line (get_or zs (suc k) None)) q ∙ b, λ j i. ap (λ zs. keeps j (get_or zs j None)) q ∙ all j i)
  where
    all : (j : ℕ) → j < suc k → keeps j (get_or (Some first ∷ lines body) j None) ≡ true
    all zero i = h
    all (suc j) i = f j (omega arith)

-- no first line that ends
no_header : (trace : List ℕ) → lines trace ≡ lines_by trace None → Judgement trace (Err (Broken 1))
no_header [] q = (zero, refl, refl, λ j i. absurd (omega arith))
no_header (b ∷ bs) q = (zero, refl, ap (λ zs. heads (get_or zs 0 None)) q, λ j i. absurd (omega arith))

by_cut : (trace : List ℕ) (o : Option (List ℕ × List ℕ)) → lines trace ≡ lines_by trace o → Judgement trace (judged_by o)
by_cut trace None q = no_header trace q
by_cut trace (Some p) q =
    elim (cases_Bool (is_header p.0)) [
      | inl h ↦ rw h (headed_step p.0 p.1 trace (judged_after 1 (lines p.1)) q h (after_law 1 (lines p.1)))
      | inr h ↦ rw h (zero, refl, ap (λ zs. heads (get_or zs 0 None)) q ∙ h, λ j i. absurd (omega arith))
    ]

pub judged_rightly : (trace : List ℕ) → JudgedRightly trace
judged_rightly trace = by_cut trace (cut 10 trace) (lines_cut trace)

-- taking the first line
taken_text : (rest text after : List ℕ) (o : Option Said) → lines rest ≡ Some text ∷ lines after → said text ≡ o → Taking rest (beside o after)
taken_text rest text after None q e = inr (ap (λ zs. lawful_line (get_or zs 0 None)) q ∙ ap is_some e)
taken_text rest text after (Some s) q e = (text, q, e)

no_end : (rest : List ℕ) → lines rest ≡ lines_by rest None → Taking rest None
no_end [] q = inl q
no_end (b ∷ bs) q = inr (ap (λ zs. lawful_line (get_or zs 0 None)) q)

taken_cut : (rest : List ℕ) (o : Option (List ℕ × List ℕ)) → lines rest ≡ lines_by rest o → Taking rest (said_first o)
taken_cut rest None q = no_end rest q
taken_cut rest (Some p) q = taken_text rest p.0 p.1 (said p.0) q refl

pub taken_rightly : (rest : List ℕ) → TakenRightly rest
taken_rightly rest = taken_cut rest (cut 10 rest) (lines_cut rest)
