use Rattle.std.proofs.Common.{◌≡◌, true, false, refl, sym, ap, ◌∙◌, arith}
use Rattle.std.specs.Prelude.{◌==◌}
use Rattle.std.proofs.lemmas.Bool.Decides.{nat_tests}
use Rattle.termwiz_extended_events.specs.ReportedKeys.{entry_at, is_functional, control_keys, no_key}
use Rattle.termwiz_senders.specs.ReportTexts.{is_nameless}
use Rattle.termwiz_senders.proofs.lemmas.OwnKeys.{none_of, functional_of, character_of}
use Rattle.termwiz_senders.proofs.report.is_nameless.Goals as goal

pub returns-then-number-eq-NO_KEY : goal.returns-then-number-eq-NO_KEY
returns-then-number-eq-NO_KEY c =
    let none : (c.args.number == no_key) ≡ true = grind (arith, nat_tests) in sym (ap is_nameless (none_of c.args.number none))

pub returns-in-Functional : goal.returns-in-Functional
returns-in-Functional c =
    let inside : is_functional c.args.number ≡ true = cc in
    sym (ap is_nameless (functional_of c.args.number inside ∙ sym c.functional_key.ensures ∙ c.in-Functional.is))

pub returns-in_default : goal.returns-in_default
returns-in_default c =
    let inside : is_functional c.args.number ≡ true = cc in
    sym (ap is_nameless (functional_of c.args.number inside ∙ sym c.functional_key.ensures ∙ c.in_default.is))

pub returns-else-is_functional : goal.returns-else-is_functional
returns-else-is_functional c =
    let some : (c.args.number == no_key) ≡ false = grind (arith, nat_tests) in
    let outside : is_functional c.args.number ≡ false = cc in
    c.if-is_functional.false
    ∙ sym (ap is_nameless (character_of c.args.number (entry_at control_keys c.args.number) some outside refl))
