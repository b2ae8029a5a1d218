use Rattle.std.proofs.Common.{arith}
use Rattle.termwiz_keymap.proofs.lemmas.lists.PrefixTest.{denied}
use Rattle.termwiz_input_extended.proofs.lemmas.forms.ControlFronts.{control_row_at, none_shifted, pair_shifted}
use Rattle.termwiz_input_extended.proofs.form.dollar_at.Goals.{in-36-2, in-36-2-2}
use Rattle.termwiz_input_extended.proofs.form.dollar_at.Goals as goal

pub returns-in-49-to-56-clause-form : goal.returns-in-49-to-56-clause-form
returns-in-49-to-56-clause-form c = λ x10_mouse. control_row_at c.args.rest.now ((omega arith, omega arith), omega arith)
    (none_shifted c.args.rest.now (λ l e is. denied c.is_rxvt_digit.ensures.1 c.if-is_rxvt_digit.false is) (λ l e is. grind (arith, is)))

pub returns-in-49-to-56-2-clause-form : goal.returns-in-49-to-56-2-clause-form
returns-in-49-to-56-2-clause-form c = λ x10_mouse. control_row_at c.args.rest.now ((omega arith, omega arith), omega arith)
    (none_shifted c.args.rest.now (λ l e is. denied c.is_rxvt_digit.ensures.1 c.if-is_rxvt_digit.false is) (λ l e is. grind (arith, is)))

pub returns-in-36-2-clause-form : goal.returns-in-36-2-clause-form
returns-in-36-2-clause-form c = λ x10_mouse. elim c.in-36-2-1.branch [
  | in-36-2 w ↦ pair_shifted c.args.rest.now (omega arith) (omega arith) (rw (w.first-is, w.second-is) at (c.is_rxvt_pair.ensures.0 c.if-is_rxvt_pair.true))
  | in-36-2-2 w ↦ absurd (let pair = rw (w.first-is, w.second-is) at (c.is_rxvt_pair.ensures.0 c.if-is_rxvt_pair.true) in grind (arith, pair))
]
