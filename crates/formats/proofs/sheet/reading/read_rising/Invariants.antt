use Rattle.std.proofs.Common.{vec_items, ◌+◌}
use Rattle.formats.specs.Sheets.{number_from}
use Rattle.formats.proofs.Entries.{Left}
use Rattle.formats.proofs.sheet.reading.read_rising.Given as goal

-- the numbers so far, and as many to come as the count says
abbrev pub invariant-loop : goal.invariant-loop
invariant-loop l = Left number_from (λ x. x + 1) l.initial.reader l.count (vec_items l.defects) l.least l.counter l.reader
