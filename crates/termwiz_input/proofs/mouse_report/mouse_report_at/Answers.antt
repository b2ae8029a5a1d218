use Rattle.termwiz_input.proofs.lemmas.mouse.ReportReading.{introducer_begun, no_introducer}
use Rattle.termwiz_keymap.proofs.lemmas.lists.PrefixTest.{denied}
use Rattle.termwiz_input.proofs.mouse_report.mouse_report_at.Goals as goal

pub returns-then-begins_with-2 : goal.returns-then-begins_with-2
returns-then-begins_with-2 c =
    introducer_begun c.args.text.now (c.begins_with-else-begins_with.ensures.0 c.if-begins_with-2.true)

pub returns-else-begins_with-2 : goal.returns-else-begins_with-2
returns-else-begins_with-2 c =
    no_introducer c.args.text.now (denied c.begins_with.ensures.1 c.if-begins_with.false)
    (denied c.begins_with-else-begins_with.ensures.1 c.if-begins_with-2.false)
