use Rattle.std.proofs.Common.{◌≤◌}
use Rattle.formats.proofs.Numbers.{Going}
use Rattle.formats.proofs.trace.fields.small_number.Given as goal

abbrev pub invariant-loop-digit : goal.invariant-loop-digit
invariant-loop-digit l = Going l.digits l.digit-index l.value × (l.value ≤ 65535)
