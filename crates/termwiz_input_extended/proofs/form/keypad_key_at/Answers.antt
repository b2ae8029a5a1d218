use Rattle.std.proofs.Common.{◌∷◌, get_or, subst, arith}
use Rattle.termwiz_keymap.proofs.lemmas.lists.PrefixTest.{denied}
use Rattle.termwiz_input_extended.specs.FormAnswers.{HasForm}
use Rattle.termwiz_input_extended.proofs.lemmas.forms.FixedFronts.{keypad_at_end, keypad_whole_at, keypad_absent_at}
use Rattle.termwiz_input_extended.proofs.lemmas.forms.FrontAnswers.{first_got, first_missing, first_there}
use Rattle.termwiz_input_extended.proofs.form.keypad_key_at.Goals as goal

pub returns-in-empty : goal.returns-in-empty
returns-in-empty c = λ x10_mouse. keypad_at_end c.args.rest.now (first_missing c.args.rest.now (omega arith))

pub returns-in-len1-up : goal.returns-in-len1-up
returns-in-len1-up c = λ x10_mouse. keypad_whole_at c.args.rest.now (get_or c.args.rest.now 0 0) (first_there c.args.rest.now (omega arith))
    (c.is_keypad_letter.ensures.0 c.if-is_keypad_letter.true)

pub returns-in-50-to-56 : goal.returns-in-50-to-56
returns-in-50-to-56 c = λ x10_mouse. subst (λ z. HasForm x10_mouse (27 ∷ 79 ∷ z) c.modified_key_at.result)
    (first_got c.args.rest.now (get_or c.args.rest.now 0 0) (first_there c.args.rest.now (omega arith)))
    (c.modified_key_at.ensures x10_mouse (get_or c.args.rest.now 0 0) (omega arith, omega arith))

pub returns-in-48 : goal.returns-in-48
returns-in-48 c = λ x10_mouse. subst (λ z. HasForm x10_mouse (27 ∷ 79 ∷ z) c.begun_key_at.result)
    (first_got c.args.rest.now (get_or c.args.rest.now 0 0) (first_there c.args.rest.now (omega arith))) (c.begun_key_at.ensures x10_mouse)

pub returns-in_default : goal.returns-in_default
returns-in_default c = λ x10_mouse.
    keypad_absent_at c.args.rest.now (get_or c.args.rest.now 0 0) (first_there c.args.rest.now (omega arith))
    (denied c.is_keypad_letter.ensures.1 c.if-is_keypad_letter.false) (λ is. grind (arith, is)) (λ is. grind (arith, is))

pub returns-in_default-2 : goal.returns-in_default-2
returns-in_default-2 c = λ x10_mouse.
    keypad_absent_at c.args.rest.now (get_or c.args.rest.now 0 0) (first_there c.args.rest.now (omega arith))
    (denied c.is_keypad_letter.ensures.1 c.if-is_keypad_letter.false) (λ is. grind (arith, is)) (λ is. grind (arith, is))
