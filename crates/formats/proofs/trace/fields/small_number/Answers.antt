use Rattle.std.proofs.Common.{get_or, arith}
use Rattle.formats.proofs.Numbers.{digit_below, going_more, going_other, going_big}
use Rattle.formats.proofs.trace.fields.small_number.Goals as goal

pub returns-in_err-value : goal.returns-in_err-value
returns-in_err-value c = rw c.from_residual.ensures (going_other _ _ _ c.loop-digit.invariant.0 c.loop-digit-test.true c.in_err-value.ensures)

pub overflow_add-value : goal.overflow_add-value
overflow_add-value c = omega (arith, digit_below (get_or c.args.digits.now c.loop-digit.digit-index 0) c.in_ok-value.field-0 c.in_ok-value.ensures)

pub returns-then-value-gt65535 : goal.returns-then-value-gt65535
returns-then-value-gt65535 c = going_big _ _ _ c.loop-digit.invariant.0 c.loop-digit-test.true _ c.in_ok-value.ensures c.if-value-gt65535.true

pub loop-digit-preserved : goal.loop-digit-preserved
loop-digit-preserved c = (going_more _ _ _ c.loop-digit.invariant.0 c.loop-digit-test.true _ c.in_ok-value.ensures, omega arith)
