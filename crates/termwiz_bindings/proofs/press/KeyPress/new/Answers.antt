use Rattle.std.proofs.Common.{rules, sym}
use Rattle.termwiz_extended_events.specs.declared.types.KeyEventKind.TheVariants.{Press}
use Rattle.termwiz_extended_events.specs.KeyReports.{report_of}
use Rattle.termwiz_bindings.specs.Presses.{canonical}
use Rattle.termwiz_bindings.proofs.lemmas.MadePresses.{press_made}
use Rattle.termwiz_bindings.proofs.press.KeyPress.new.Goals as goal

pub returns-clause-value : goal.returns-clause-value
unfolding canonical
returns-clause-value c = search rules

pub returns-clause-press : goal.returns-clause-press
returns-clause-press c =
    press_made (report_of c.args.key (record { modifiers = c.args.held; kind = Press })) c.settled.result
    (sym (returns-clause-value c)) (search rules)
