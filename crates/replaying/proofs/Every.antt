-- Every line of an accepted trace gives a call.
use Rattle.std.proofs.Common.{◌≡◌, ℕ, suc, ◌<◌, true, List, [], ◌∷◌, length, get_or, is_some, Some, None, Ok, Err, Option, Result, sym, refl, ap, ◌∙◌, arith}
use Rattle.std.proofs.lemmas.Bool.{true≢false}
use Rattle.formats.specs.declared.trace.TraceFault.{TraceFault}
use Rattle.formats.specs.declared.trace.TraceFault.TheVariants.{Broken}
use Rattle.formats.specs.Traces.{Said, said, lines, lawful_line, judged}
use Rattle.formats.specs.TraceLaws.{Judgement}
use Rattle.formats.proofs.TraceLaw.{judged_rightly}
use Rattle.pile.specs.Piles.{Call}
use Rattle.replaying.specs.Calls.{line_says, with_call, calls_in, OneEach, EveryLine}

said_one : (o : Option Said) (cs : List Call) → is_some o ≡ true → length (with_call o cs) ≡ suc (length cs)
said_one None cs h = absurd (true≢false (sym h))
said_one (Some s) cs h = refl

line_one : (l : Option (List ℕ)) (cs : List Call) → lawful_line l ≡ true → length (with_call (line_says l) cs) ≡ suc (length cs)
line_one None cs h = absurd (true≢false (sym h))
line_one (Some text) cs h = said_one (said text) cs h

lawful_each : (ls : List (Option (List ℕ))) → ((k : ℕ) → k < length ls → lawful_line (get_or ls k None) ≡ true) → length (calls_in ls) ≡ length ls
lawful_each [] h = refl
lawful_each (l ∷ ls) h = line_one l (calls_in ls) (h 0 (omega arith)) ∙ ap suc (lawful_each ls (λ k i. h (suc k) (omega arith)))

one_each : (trace : List ℕ) (r : Result (List ℕ) TraceFault) → Judgement trace r → OneEach r
one_each trace (Ok body) (q, f) =
    lawful_each (lines body) (λ k i. ap (λ zs. lawful_line (get_or zs (suc k) None)) (sym q) ∙ f (suc k) (omega (arith, ap length q)))
one_each trace (Err (Broken t)) j = tt

pub every_line : (trace : List ℕ) → EveryLine trace
every_line trace = one_each trace (judged trace) (judged_rightly trace)
