use Rattle.std.proofs.Common.{refl}
use Rattle.termwiz_input.proofs.lemmas.items.ItemByHead.{report_stands, character_stands, broken_stands, waits_rest}
use Rattle.termwiz_input.proofs.front.front_of_head.Goals as goal

pub returns-in-Some-Report : goal.returns-in-Some-Report
returns-in-Some-Report c =
    report_stands c.args.text.now c.args.maybe_more c.in-Some-Report.event c.in-Some-Report.len
    (c.in-Some-Report.ensures.closed refl)
    (rw c.in-Some-Report.field-0-is at c.in-Some-Report.ensures.head)

pub returns-in-Some-Character : goal.returns-in-Some-Character
returns-in-Some-Character c =
    character_stands c.args.text.now c.args.maybe_more c.in-Some-Character.character c.in-Some-Character.len
    (c.in-Some-Character.ensures.closed refl)
    (rw c.in-Some-Character.field-0-is at c.in-Some-Character.ensures.head)

pub returns-in-Some-Broken : goal.returns-in-Some-Broken
returns-in-Some-Broken c =
    broken_stands c.args.text.now c.args.maybe_more (c.in-Some-Broken.ensures.closed refl)
    (rw c.in-Some-Broken.field-0-is at c.in-Some-Broken.ensures.head)

pub returns-in-None : goal.returns-in-None
returns-in-None c = waits_rest c.args.text.now c.args.maybe_more c.in-None.ensures.waits
