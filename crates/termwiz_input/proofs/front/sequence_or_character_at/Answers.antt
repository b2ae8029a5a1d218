use Rattle.termwiz_input.proofs.lemmas.heads.HeadLookup.{mouse_report_front, report_closed, begun_waits, begun_no_report}
use Rattle.termwiz_input.proofs.front.sequence_or_character_at.Goals as goal

pub row_or_character_at-requires-clause-no_report : goal.row_or_character_at-requires-clause-no_report
row_or_character_at-requires-clause-no_report c = begun_no_report c.args.text.now c.in-Begun-2.ensures

pub returns-in-Whole-clause-closed : goal.returns-in-Whole-clause-closed
returns-in-Whole-clause-closed c = λ some opens.
    report_closed c.args.text.now c.in-Whole.len c.args.maybe_more c.in-Whole.event c.in-Whole.ensures.1 opens

pub returns-in-Whole-clause-head : goal.returns-in-Whole-clause-head
returns-in-Whole-clause-head c =
    mouse_report_front c.args.text.now c.in-Whole.len c.in-Whole.event c.in-Whole.ensures.0 c.in-Whole.ensures.1

pub returns-in-Begun-clause-waits : goal.returns-in-Begun-clause-waits
returns-in-Begun-clause-waits c = rw c.if-maybe_more.true (begun_waits c.args.text.now c.in-Begun.ensures)
