use Rattle.std.proofs.Common.{◌∷◌, get_or, subst, arith}
use Rattle.termwiz_input_extended.specs.FormAnswers.{HasForm}
use Rattle.termwiz_input_extended.proofs.lemmas.forms.FixedFronts.{front_parted, parted_at_end, parted_absent_at}
use Rattle.termwiz_input_extended.proofs.lemmas.forms.FrontAnswers.{first_got, first_missing, first_there}
use Rattle.termwiz_input_extended.proofs.form.parted_key_at.Goals as goal

pub modified_key_at-requires : goal.modified_key_at-requires
modified_key_at-requires c = front_parted c.args.first c.requires

pub returns-in-empty : goal.returns-in-empty
returns-in-empty c = λ x10_mouse. parted_at_end c.args.first c.args.rest.now c.requires (first_missing c.args.rest.now (omega arith))

pub returns-in-50-to-56 : goal.returns-in-50-to-56
returns-in-50-to-56 c = λ x10_mouse. subst (λ z. HasForm x10_mouse (27 ∷ 79 ∷ c.args.first ∷ 59 ∷ z) c.modified_key_at.result)
    (first_got c.args.rest.now (get_or c.args.rest.now 0 0) (first_there c.args.rest.now (omega arith)))
    (c.modified_key_at.ensures x10_mouse (get_or c.args.rest.now 0 0) (omega arith, omega arith))

pub returns-in_default : goal.returns-in_default
returns-in_default c = λ x10_mouse.
    parted_absent_at c.args.first c.args.rest.now (get_or c.args.rest.now 0 0) c.requires (first_there c.args.rest.now (omega arith))
    (λ is. grind (arith, is))

pub returns-in_default-2 : goal.returns-in_default-2
returns-in_default-2 c = λ x10_mouse.
    parted_absent_at c.args.first c.args.rest.now (get_or c.args.rest.now 0 0) c.requires (first_there c.args.rest.now (omega arith))
    (λ is. grind (arith, is))
