use Rattle.std.proofs.Common.{◌<◌, arith, length}
use Rattle.std.proofs.lemmas.Bool.Decides.{nat_tests}
use Rattle.termwiz_extended_events.proofs.ReplyLemmas.{sixteen_power, sixteen_power_some}
use Rattle.termwiz_extended_events.proofs.colours.colour_part.Goals as goal

pub overflow_mul-result : goal.overflow_mul-result
overflow_mul-result c = omega (arith, sixteen_power (length c.args.digits.now) (omega arith), c.in_ok-value.ensures.small)

pub nonzero_div-result : goal.nonzero_div-result
nonzero_div-result c =
    let some : 0 < length c.args.digits.now = grind (arith, nat_tests) in
    omega (arith, sixteen_power_some (length c.args.digits.now) some (omega arith))
