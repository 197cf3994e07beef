-- A level: its row on top of the tier below.
use Rattle.std.specs.Prelude.{ℕ, ◌∷◌}
use Rattle.std.proofs.Common.{arith}
use Rattle.row.specs.declared.row.Row.{Row}
use Rattle.row.specs.Entries.{RowModel, holding, without}
use Rattle.row.specs.Rows as rows
use Rattle.row.proofs.Laws.{model_lawful}
use Rattle.tier.specs.Models.{Model, LawfulRow, LawfulModel}

abbrev pub level_model : RowModel → Model → Model
level_model r m = record { store = m.store; rows = r ∷ m.rows }

-- a row without its entry of a number
abbrev pub lost_in : ℕ → RowModel → RowModel
lost_in b r = holding (without b r.entries) r

row_lawful : (r : Row) → LawfulRow (rows.model r)
row_lawful r = let l = model_lawful r in record { bounded = omega (arith, l.few); short = l.room; once = l.single; whole = l.whole }

pub level_lawful : (r : Row) (m : Model) → LawfulModel m → LawfulModel (level_model (rows.model r) m)
level_lawful r m l = record { store = l.store; rows = (row_lawful r, l.rows) }
