use Rattle.std.proofs.Common.{◌<◌, length, sym, ap, ◌∙◌, subst}
use Rattle.row.specs.Entries.{RowModel, left, find_entry}
use Rattle.row.specs.Rows.{model}
use Rattle.row.proofs.Laws.{model_lawful}
use Rattle.tier.proofs.Intake.{room_made, none_left}
use Rattle.tier.proofs.level.Level.make_room.Goals as goal

pub returns-clause-room : goal.returns-clause-room
returns-clause-room g c =
    subst (λ (y : RowModel). length y.entries < y.capacity) (sym (c.eject.ensures.row ∙ ap left c.lose.ensures)) (room_made (model c.args.self.now.row) (model_lawful c.args.self.now.row) c.args.number)

pub returns-clause-fresh : goal.returns-clause-fresh
returns-clause-fresh g c =
    ap (λ y. find_entry c.args.number y.entries) (c.eject.ensures.row ∙ ap left c.lose.ensures) ∙ none_left (model c.args.self.now.row) (model_lawful c.args.self.now.row) c.args.number
