use Rattle.std.proofs.Common.{vec_items}
use Rattle.formats.specs.Sheets.{capacity}
use Rattle.formats.proofs.Entries.{Left}
use Rattle.formats.proofs.sheet.reading.read_capacities.Given as goal

-- the capacities so far, and as many to come as the count says
abbrev pub invariant-loop : goal.invariant-loop
invariant-loop l = Left capacity (λ x. 0) l.initial.reader l.count (vec_items l.levels) 0 l.counter l.reader
