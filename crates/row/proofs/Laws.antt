-- Every row is lawful.
use Rattle.std.proofs.Common.{◌≡◌, ℕ, ◌∷◌, ◌++◌, ap, ◌∙◌, arith}
use Rattle.rings.specs.Slots.{distinct}
use Rattle.row.specs.declared.row.Row.{Row}
use Rattle.row.specs.Entries.{Lawful, numbers}
use Rattle.row.specs.Held.{entry_in}
use Rattle.row.specs.Orders.{order}
use Rattle.row.specs.Rows.{model, entries, Stands, held, above, below}
use Rattle.row.proofs.Mapped.{all_held, distinct_numbers}
use Rattle.row.proofs.Entering.{entries_is, entries_around, length_entries, order_low, order_distinct, only}

pub model_lawful : (r : Row) → Lawful (model r)
model_lawful r =
    let e = entries_is r.shelf r.frames in
    record {
      some = r.some;
      few = r.few;
      room = (let l = length_entries r.shelf r.frames in let q = r.room in omega arith);
      single = ap (λ es. distinct (numbers es)) e ∙ distinct_numbers (entry_in r.shelf r.frames) (order r.shelf) (order_distinct r.shelf) (only r.shelf r.frames);
      whole = rw e (all_held (entry_in r.shelf r.frames) _ (order r.shelf) (λ x m. r.whole x (order_low r.shelf x m)));
      small = rw e (all_held (entry_in r.shelf r.frames) _ (order r.shelf) (λ x m. r.shelf.small x (order_low r.shelf x m)));
    }

-- a slot parts the entries of its row
pub entries_split : (r : Row) (x : ℕ) → Stands r x → entries r ≡ above r x ++ held r x ∷ below r x
entries_split r x h = entries_around r.shelf r.frames x h
