use Rattle.std.proofs.Common.{arith}
use Rattle.termwiz_extended_events.proofs.ReplyLemmas.{sixteen_power_before}
use Rattle.termwiz_extended_events.proofs.colours.hex_number.Goals as goal

pub overflow_mul-value : goal.overflow_mul-value
overflow_mul-value c = omega (arith, sixteen_power_before c.loop-byte.byte-index (omega arith))

pub overflow_add-value : goal.overflow_add-value
overflow_add-value c = omega (arith, sixteen_power_before c.loop-byte.byte-index (omega arith), c.in_ok-value.ensures.small)
