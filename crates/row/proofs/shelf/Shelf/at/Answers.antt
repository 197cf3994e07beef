use Rattle.std.proofs.Common.{sym, ◌∙◌}
use Rattle.std.proofs.lemmas.Iterator.Adapters.{option_map_id}
use Rattle.std.proofs.lemmas.Iterator.Consumers.{YieldsList-from_first, nth_from_yields_List}
use Rattle.rings.specs.Left.{left_of}
use Rattle.row.specs.Orders.{order}
use Rattle.row.proofs.Placing.{no_place, on_get, placed_get}
use Rattle.row.proofs.shelf.Shelf.at.Goals as goal

pub returns-in_err-passed-clause-entries : goal.returns-in_err-passed-clause-entries
returns-in_err-passed-clause-entries c fs = no_place c.args.self.now fs c.args.place c.from_residual.result c.in_err-passed.ensures c.from_residual.ensures

pub returns : goal.returns
returns c =
    let s = c.args.self.now in
    let n = c.in_ok-passed.passed in
    let k = c.in_ok-passed.ensures in
    let e = sym (option_map_id c.nth.result)
    ∙ nth_from_yields_List c.nth.result c.nth.new.self _ c.nth.ensures.ran (YieldsList-from_first (λ x. x) left_of {s = c.slots.result} (order s) c.slots.ensures) in
    record { standing = on_get s n c.nth.result e; entries = λ fs. placed_get s fs c.args.place n c.nth.result k.0 k.1 e }
