use Rattle.std.proofs.Common.{◌≡◌, ℕ, length, Some, None, Option, refl, ap, ◌∙◌, arith}
use Rattle.std.specs.Option.{option_map}
use Rattle.row.specs.declared.frame.Mark.{Mark}
use Rattle.row.specs.Entries.{Entry, find_entry, bytes_or}
use Rattle.row.specs.Rows.{model, entries}
use Rattle.tier.specs.Levels.{level_model}
use Rattle.tier.specs.Lifts.{lift_after}
use Rattle.tier.proofs.Intake.{below_after}
use Rattle.tier.proofs.level.LevelTier.lift.Goals as goal

none_found : (o : Option Entry) → ◌≡◌ {A = Option Mark} None (option_map (λ e. e.mark) o) → o ≡ None
none_found None h = refl
none_found (Some e) h = absurd (let z : ◌≡◌ {A = ℕ} 0 1 = cc in omega arith)

pub returns-in-None-clause-after : goal.returns-in-None-clause-after
returns-in-None-clause-after g c =
    let m = g.T.Tier.model c.args.self.now.below in
    let n = none_found (find_entry c.args.b (entries c.args.self.now.row)) c.in-None.ensures.answer in
    let f = c.take.ensures.buffer ∙ ap (λ o. bytes_or o c.args.buffer.now) n in
    (λ i. level_model ((ap model c.lift_below.ensures.row ∙ c.take.ensures.after) i) ((c.lift_below.ensures.after ∙ ap (λ xs. lift_after m c.args.b (length xs)) f) i))
    ∙ below_after (model c.args.self.now.row) m c.args.b n (length c.args.buffer.now)
