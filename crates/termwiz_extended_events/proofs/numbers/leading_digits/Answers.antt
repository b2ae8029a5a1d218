use Rattle.std.proofs.Common.{arith}
use Rattle.termwiz_extended_events.proofs.NumberLemmas.{ten_power}
use Rattle.termwiz_extended_events.proofs.numbers.leading_digits.Goals as goal

pub overflow_mul-value : goal.overflow_mul-value
overflow_mul-value c = omega (arith, ten_power c.loop-len.len (omega arith))

pub overflow_add-value : goal.overflow_add-value
overflow_add-value c = omega (arith, ten_power c.loop-len.len (omega arith))
