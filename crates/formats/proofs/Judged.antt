-- A trace judged line by line.
use Rattle.std.proofs.Common.{◌≡◌, ℕ, suc, ◌+◌, ◌<◌, ◌≤◌, true, false, cond, List, [], ◌∷◌, length, is_some, Some, None, Ok, Err, Option, Result, sym, refl, ap, ◌∙◌, subst, arith, length-append}
use Rattle.std.proofs.lemmas.List.{nil_from_length}
use Rattle.formats.specs.declared.trace.Line.{Line}
use Rattle.formats.specs.declared.trace.lines.Lines.{Lines}
use Rattle.formats.specs.declared.trace.TraceFault.{TraceFault}
use Rattle.formats.specs.declared.trace.TraceFault.TheVariants.{Broken}
use Rattle.formats.specs.Traces.{Said, said, cut, lines, beside, said_first, first_line, judged_after}
use Rattle.formats.specs.Shown.{shown, shown_taken, TakesLine}
use Rattle.formats.proofs.Cuts.{cut_parts, lines_by, lines_cut}

cut_length : (c : ℕ) (xs : List ℕ) (p : List ℕ × List ℕ) → cut c xs ≡ Some p → length p.0 + suc (length p.1) ≡ length xs
cut_length c xs p e = sym (ap length (cut_parts c xs p e) ∙ length-append p.0 (c ∷ p.1))

-- a lawful first line
module _ (before : ℕ) (rest : List ℕ) (s : Said) (after : List ℕ) where
  taken_said : (p : List ℕ × List ℕ) (o : Option Said) → said p.0 ≡ o → cut 10 rest ≡ Some p → beside o p.1 ≡ Some (s, after)
      → (judged_after before (lines rest) ≡ judged_after (before + 1) (lines after)) × (length after < length rest)
  taken_said p None q e h = let z : ◌≡◌ {A = ℕ} 0 1 = cc in absurd (omega arith)
  taken_said p (Some t) q e h =
      let w : ◌≡◌ {A = Said × List ℕ} (t, p.1) (s, after) = cc in
      let a : p.1 ≡ after = ap (λ v. v.1) w in (
        ap (λ ls. judged_after before ls) (lines_cut rest) ∙ (ap (λ o. judged_after before (lines_by rest o)) e
            ∙ (ap (λ o. cond (is_some o) (judged_after (before + 1) (lines p.1)) (Err (Broken (before + 1)))) q ∙ ap (λ zs. judged_after (before + 1) (lines zs)) a)),
        omega (arith, cut_length 10 rest p e, ap length a),
      )

  taken_cut : (o : Option (List ℕ × List ℕ)) → cut 10 rest ≡ o → said_first o ≡ Some (s, after)
      → (judged_after before (lines rest) ≡ judged_after (before + 1) (lines after)) × (length after < length rest)
  taken_cut None e h = let z : ◌≡◌ {A = ℕ} 0 1 = cc in absurd (omega arith)
  taken_cut (Some p) e h = taken_said p (said p.0) refl e h

  pub judged_more : ◌≡◌ {A = Option (Said × List ℕ)} (Some (s, after)) (first_line rest)
      → (judged_after before (lines rest) ≡ judged_after (before + 1) (lines after)) × (length after < length rest)
  judged_more h = taken_cut (cut 10 rest) refl (sym h)

-- fewer bytes are left after a line
pub shorter : (rest : List ℕ) (s : Said) (after : List ℕ) → ◌≡◌ {A = Option (Said × List ℕ)} (Some (s, after)) (first_line rest) → length after < length rest
shorter rest s after h = (judged_more 0 rest s after h).1

-- a first line that breaks a rule
module _ (before : ℕ) (rest : List ℕ) (some : 0 < length rest) where
  broken_said : (p : List ℕ × List ℕ) (o : Option Said) → said p.0 ≡ o → cut 10 rest ≡ Some p → beside o p.1 ≡ None → judged_after before (lines rest) ≡ Err (Broken (before + 1))
  broken_said p None q e h =
      ap (λ ls. judged_after before ls) (lines_cut rest) ∙ (ap (λ o. judged_after before (lines_by rest o)) e
      ∙ ap (λ o. cond (is_some o) (judged_after (before + 1) (lines p.1)) (Err (Broken (before + 1)))) q)
  broken_said p (Some t) q e h = let z : ◌≡◌ {A = ℕ} 0 1 = cc in absurd (omega arith)

  uncut : (bs : List ℕ) → 0 < length bs → judged_after before (lines_by bs None) ≡ Err (Broken (before + 1))
  uncut [] l = absurd (omega arith)
  uncut (b ∷ bs) l = refl

  broken_cut : (o : Option (List ℕ × List ℕ)) → cut 10 rest ≡ o → said_first o ≡ None → judged_after before (lines rest) ≡ Err (Broken (before + 1))
  broken_cut None e h = ap (λ ls. judged_after before ls) (lines_cut rest) ∙ (ap (λ o. judged_after before (lines_by rest o)) e ∙ uncut rest some)
  broken_cut (Some p) e h = broken_said p (said p.0) refl e h

  pub judged_broken : None ≡ first_line rest → judged_after before (lines rest) ≡ Err (Broken (before + 1))
  judged_broken h = broken_cut (cut 10 rest) refl (sym h)

-- so many lines of a text were lawful and were taken: what is left decides, and there are no more lines than bytes
pub record Judging (body : List ℕ) (left : Lines) (lawful : ℕ) : Type 0 where
  pub same : judged_after 1 (lines body) ≡ judged_after (lawful + 1) (lines left.rest.now)
  pub few : lawful + length left.rest.now ≤ length body

module _ (body : List ℕ) (before : Lines) (line : Option Line) (after : Lines) (lawful : ℕ) (takes : TakesLine before line after) (so_far : Judging body before lawful) where
  pub judging_more : true ≡ is_some line → Judging body after (lawful + 1)
  judging_more h = by_line line (sym h) takes.taken
    where
      by_line : (line : Option Line) → is_some line ≡ true → shown_taken line after ≡ first_line before.rest.now → Judging body after (lawful + 1)
      by_line None h t = absurd (cc)
      by_line (Some l) h t =
          let m = judged_more (lawful + 1) before.rest.now (shown l) after.rest.now t in
          record { same = so_far.same ∙ m.0; few = omega (arith, so_far.few, m.1) }

  module _ (h : false ≡ is_some line) where
    none : (line : Option Line) → is_some line ≡ false → line ≡ None
    none None h = refl
    none (Some l) h = absurd (cc)

    stays : after.rest.now ≡ before.rest.now
    stays = takes.stays (none line (sym h))

    pub judging_done : length after.rest.now ≡ 0 → ◌≡◌ {A = Result (Unit {0}) TraceFault} (Ok tt) (judged_after 1 (lines body))
    judging_done z = sym (so_far.same ∙ ap (λ zs. judged_after (lawful + 1) (lines zs)) (nil_from_length before.rest.now (ap length (sym stays) ∙ z)))

    pub judging_broken : 0 < length after.rest.now → ◌≡◌ {A = Result (Unit {0}) TraceFault} (Err (Broken (lawful + 2))) (judged_after 1 (lines body))
    judging_broken some =
        let t : None ≡ first_line before.rest.now = ap (λ r. shown_taken r after) (sym (none line (sym h))) ∙ takes.taken in
        let e : (lawful + 1) + 1 ≡ lawful + 2 = omega arith in
        sym (so_far.same ∙ (judged_broken (lawful + 1) before.rest.now (subst (λ zs. 0 < length zs) stays some) t ∙ ap (λ n. Err (Broken n)) e))
