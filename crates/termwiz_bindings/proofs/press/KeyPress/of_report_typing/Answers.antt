use Rattle.std.proofs.Common.{rules, sym}
use Rattle.termwiz_bindings.specs.Presses.{canonical, with_text}
use Rattle.termwiz_bindings.proofs.lemmas.MadePresses.{press_made, presses_made}
use Rattle.termwiz_bindings.proofs.press.KeyPress.of_report_typing.Goals as goal

pub returns-then-types_text-clause-value : goal.returns-then-types_text-clause-value
unfolding canonical
returns-then-types_text-clause-value c = search rules

pub returns-then-types_text-clause-press : goal.returns-then-types_text-clause-press
returns-then-types_text-clause-press c =
    presses_made (with_text c.args.report.now c.args.text.now) c.typed_press.result (returns-then-types_text-clause-value c)
    (search rules)

pub returns-clause-value : goal.returns-clause-value
unfolding canonical
returns-clause-value c = search rules

pub returns-clause-press : goal.returns-clause-press
returns-clause-press c =
    press_made (with_text c.args.report.now c.args.text.now) c.settled.result (sym (returns-clause-value c)) (search rules)
