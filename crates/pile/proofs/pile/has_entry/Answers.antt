use Rattle.std.proofs.Common.{◌+◌, length, is_some, ◌∙◌, rules, tests, arith}
use Rattle.std.proofs.lemmas.Iterator.{YieldsList-from_range}
use Rattle.std.proofs.lemmas.Iterator.Search.{any_from_yields_List}
use Rattle.tier.specs.Questions.{entry_of}
use Rattle.pile.proofs.Mounting.{any_first}
use Rattle.pile.proofs.pile.has_entry.Goals as goal

pub returns : goal.returns
returns g c =
    let rows = (g.T.Tier.model c.args.tier.now).rows in
    any_from_yields_List (λ i. is_some (entry_of rows (i + 1) 1)) _ _ c.any.result c.any.ensures.ran (YieldsList-from_range 0 c.args.levels (length rows) (search rules) (omega (arith, c.requires)))
    (λ x b q k. search (rules, tests))
    ∙ any_first rows
