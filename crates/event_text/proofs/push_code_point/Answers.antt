use Rattle.std.proofs.Common.{◌<◌, arith, true}
use Rattle.std.specs.Fmt.{digits}
use Rattle.event_text.proofs.Printed.{zero_padded, byte_point}
use Rattle.event_text.proofs.push_code_point.Goals as goal

pub returns-then-code-lt256 : goal.returns-then-code-lt256
returns-then-code-lt256 c =
    let small : c.args.code < 256 = omega (arith, c.if-code-lt256.true) in
    rw (byte_point c.args.code small) (rw (c.hex_digit.ensures, c.hex_digit-then-code-lt256.ensures) at c.push.ensures)

pub returns : goal.returns
returns c =
    let put = rw (c.laid_out.ensures, c.in_radix.ensures) at c.push_text.ensures in
    rw (zero_padded 4 (digits 16 true c.args.code)) at put
