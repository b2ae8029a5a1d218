use Rattle.std.proofs.Common.{◌∙◌, ◌++◌, ◌∷◌, [], length, length-append, sym, ap, arith, add-one}
use Rattle.hedrugal.specs.Calls.{copied}
use Rattle.hedrugal.proofs.PastedLines.{all_written, byte_left_out, byte_written}
use Rattle.hedrugal.proofs.paste_lines.hed_paste_lines.Goals as goal

pub loop-byte-preserved-in_default : goal.loop-byte-preserved-in_default
loop-byte-preserved-in_default c =
    let (few, rest) = c.loop-byte.invariant in
    let (written, len, copy, is) = rest in
    let none = sym c.line_byte-written.ensures ∙ c.in_default.is in
    (omega (arith, few), (written, len, copy, rw add-one (byte_left_out _ written c.args.text.now c.loop-byte.is_behind_cr c.loop-byte.byte-index 0 c.loop-byte-test.true is none)))

pub loop-byte-preserved : goal.loop-byte-preserved
loop-byte-preserved c =
    let (few, rest) = c.loop-byte.invariant in
    let (written, len, copy, is) = rest in
    let b = c.in-Some.written in
    let one = sym c.line_byte-written.ensures ∙ c.in-Some.is in (
      omega (arith, few),
      (
        written ++ b ∷ [],
        omega (arith, len, length-append written (b ∷ [])),
        c.put_behind.ensures written c.args.out.now len copy,
        rw add-one (byte_written _ written c.args.text.now c.loop-byte.is_behind_cr c.loop-byte.byte-index 0 b c.loop-byte-test.true is one),
      ),
    )

pub returns-clause-len : goal.returns-clause-len
returns-clause-len c =
    let (few, rest) = c.loop-byte.invariant in
    let (written, len, copy, is) = rest in
    len ∙ ap length (sym (all_written _ written c.args.text.now c.loop-byte.is_behind_cr c.loop-byte.byte-index c.loop-byte-test.false is))

pub returns-clause-bytes : goal.returns-clause-bytes
returns-clause-bytes c =
    let (few, rest) = c.loop-byte.invariant in
    let (written, len, copy, is) = rest in
    copy ∙ ap (λ bytes. copied bytes c.args.out.now)
    (sym (all_written _ written c.args.text.now c.loop-byte.is_behind_cr c.loop-byte.byte-index c.loop-byte-test.false is))
