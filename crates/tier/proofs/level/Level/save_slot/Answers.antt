use Rattle.std.proofs.Common.{◌≡◌, true, ◌∷◌, ◌++◌, sym, ap, ◌∙◌}
use Rattle.std.proofs.lemmas.Result.{err_from_is_err_and}
use Rattle.row.specs.Entries.{holding, is_saved}
use Rattle.row.specs.Rows.{model, held, above, below}
use Rattle.row.proofs.Laws.{entries_split}
use Rattle.tier.proofs.Sweeping.{saved_same}
use Rattle.tier.proofs.level.Level.save_slot.Goals as goal

pub returns-then-is_saved-clause-row : goal.returns-then-is_saved-clause-row
returns-then-is_saved-clause-row g c =
    let e = held c.args.self.now.row c.args.slot in
    let s : is_saved e.mark ≡ true = sym (c.if-is_saved.ensures ∙ ap (λ t. is_saved t.mark) c.tag-tag.ensures) in
    ap (λ xs. holding xs (model c.args.self.now.row)) (entries_split c.args.self.now.row c.args.slot c.requires
    ∙ ap (λ x. above c.args.self.now.row c.args.slot ++ x ∷ below c.args.self.now.row c.args.slot) (saved_same e s))

pub returns-in_err-map_err-clause-row : goal.returns-in_err-map_err-clause-row
returns-in_err-map_err-clause-row g c =
    let p = err_from_is_err_and c.from_residual.result c.from_residual.ensures.1 in
    rw p.1 (ap (λ xs. holding xs (model c.args.self.now.row)) (entries_split c.args.self.now.row c.args.slot c.requires))
