use Rattle.std.proofs.Common.{rules, eqb, get_or, sym, ◌∙◌}
use Rattle.std.proofs.lemmas.Iterator.Search.{find_from_yields_List}
use Rattle.std.proofs.lemmas.Iterator.Consumers.{YieldsList-from_first}
use Rattle.std.proofs.lemmas.Iterator.Adapters.{option_map_id}
use borrow.Author.Tests.{tests}
use Rattle.rings.specs.Left.{left_of}
use Rattle.rings.specs.Models.{ring}
use Rattle.rings.proofs.index.Index.seek.Goals as goal

pub returns : goal.returns
returns c =
    let s = c.args.self.now in
    sym (option_map_id c.find.result)
    ∙ find_from_yields_List (λ x. eqb (get_or s.keys x 0) c.args.number) c.find.new.self _ c.find.result c.find.ensures.ran
    (YieldsList-from_first (λ x. x) left_of {s = c.slots.result} (ring s.rings c.args.bucket) c.slots.ensures) (λ x b q k. search (rules, tests))
