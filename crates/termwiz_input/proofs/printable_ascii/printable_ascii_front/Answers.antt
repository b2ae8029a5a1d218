use Rattle.std.proofs.Common.{arith, subst, take}
use Rattle.std.specs.List.{AllByRecursion}
use Rattle.termwiz_input.specs.PrintableAscii.{IsPrintableAscii}
use Rattle.termwiz_input.proofs.lemmas.items.PrintableAscii.{printable_run}
use Rattle.termwiz_input.proofs.printable_ascii.printable_ascii_front.Goals as goal

pub returns-then-not-is_printable_ascii : goal.returns-then-not-is_printable_ascii
returns-then-not-is_printable_ascii c = printable_run c.args.text.now c.loop-len.len
    (omega (arith, c.loop-len-test.true, c.min-limit.ensures)) c.loop-len.invariant.all (omega arith)

pub returns : goal.returns
returns c = printable_run c.args.text.now c.min-limit.result (omega (arith, c.min-limit.ensures))
    (subst (λ n. AllByRecursion IsPrintableAscii (take n c.args.text.now)) (omega (arith, c.loop-len.auto.len-end, c.loop-len-test.false))
    c.loop-len.invariant.all) (omega (arith, c.min-limit.ensures, c.requires.some, c.requires.inside))
