use Rattle.std.proofs.Common.{rules, sym}
use Rattle.termwiz_bindings.specs.MainKeys.{makes_no_press}
use Rattle.termwiz_bindings.specs.Presses.{canonical, standard_report}
use Rattle.termwiz_bindings.proofs.lemmas.MadePresses.{press_made}
use Rattle.termwiz_bindings.proofs.press.standard_press.Goals as goal

pub returns-clause-value : goal.returns-clause-value
unfolding canonical makes_no_press
returns-clause-value c = search rules

pub returns-clause-press : goal.returns-clause-press
returns-clause-press c =
    press_made (standard_report c.args.base c.args.modifiers) c.settled.result (sym (returns-clause-value c)) (search rules)
