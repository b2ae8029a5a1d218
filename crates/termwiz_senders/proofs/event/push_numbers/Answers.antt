use Rattle.std.proofs.Common.{string_bytes}
use Rattle.termwiz_senders.proofs.lemmas.Numbers.{none_appended, one_appended, all_appended}
use Rattle.termwiz_senders.proofs.event.push_numbers.Goals as goal

pub loop-number-init : goal.loop-number-init
loop-number-init c = none_appended (string_bytes c.args.text.now)

pub loop-number-preserved : goal.loop-number-preserved
loop-number-preserved c =
    one_appended c.args.numbers.now c.loop-number.number-index _ _ _ c.loop-number-test.true c.loop-number.invariant c.in_ok-write.ensures.bytes

pub returns : goal.returns
returns c = all_appended c.args.numbers.now c.loop-number.number-index _ _ c.loop-number-test.false c.loop-number.invariant
