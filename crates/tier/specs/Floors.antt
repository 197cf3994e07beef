-- The floor: stored blocks with no rows.
use Rattle.std.specs.Prelude.{[]}
use Rattle.device.specs.Store.{Store, Lawful}
use Rattle.tier.specs.Models.{Model, LawfulModel}

abbrev pub floor_model : Store → Model
floor_model s = record { store = s; rows = [] }

pub floor_lawful : (s : Store) → Lawful s → LawfulModel (floor_model s)
floor_lawful s l = record { store = l; rows = tt }
