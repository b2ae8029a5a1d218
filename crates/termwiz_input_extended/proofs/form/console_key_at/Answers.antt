use Rattle.std.proofs.Common.{get_or, arith}
use Rattle.termwiz_input_extended.proofs.lemmas.forms.FixedFronts.{console_at_end, console_whole_at, console_absent_at}
use Rattle.termwiz_input_extended.proofs.lemmas.forms.FrontAnswers.{first_missing, first_there}
use Rattle.termwiz_input_extended.proofs.form.console_key_at.Goals as goal

pub returns-in-empty : goal.returns-in-empty
returns-in-empty c = λ x10_mouse. console_at_end c.args.rest.now (first_missing c.args.rest.now (omega arith))

pub returns-in-65-to-69 : goal.returns-in-65-to-69
returns-in-65-to-69 c = λ x10_mouse. console_whole_at c.args.rest.now (get_or c.args.rest.now 0 0) (first_there c.args.rest.now (omega arith))
    (omega arith, omega arith)

pub returns-in_default : goal.returns-in_default
returns-in_default c = λ x10_mouse. console_absent_at c.args.rest.now (get_or c.args.rest.now 0 0) (first_there c.args.rest.now (omega arith))
    (λ is. grind (arith, is))

pub returns-in_default-2 : goal.returns-in_default-2
returns-in_default-2 c = λ x10_mouse. console_absent_at c.args.rest.now (get_or c.args.rest.now 0 0) (first_there c.args.rest.now (omega arith))
    (λ is. grind (arith, is))
