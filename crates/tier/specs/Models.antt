-- What a tier means: stored blocks, and rows of entries over them, top first.
use Rattle.std.specs.Prelude.{◌≡◌, ◌≤◌, true, List, length}
use Rattle.std.specs.List.{AllByRecursion}
use Rattle.device.specs.Store.{Store, Lawful}
use Rattle.rings.specs.Slots.{distinct}
use Rattle.row.specs.Entries.{RowModel, numbers}

-- stored blocks with their defects, and the rows of the levels above them, top first
pub record Model : Type 0 where
  pub store : Store
  pub rows : List RowModel

-- a row is never longer than its capacity, never names a block twice, and its entries are whole blocks
pub record LawfulRow (r : RowModel) : Type 0 where
  pub bounded : r.capacity ≤ 65536
  pub short : length r.entries ≤ r.capacity
  pub once : distinct (numbers r.entries) ≡ true
  pub whole : AllByRecursion (λ e. length e.bytes ≡ 256) r.entries

pub record LawfulModel (m : Model) : Type 0 where
  pub store : Lawful m.store
  pub rows : AllByRecursion LawfulRow m.rows
