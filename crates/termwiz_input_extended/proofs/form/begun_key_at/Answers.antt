use Rattle.std.proofs.Common.{◌≡◌, ◌∷◌, ℕ, get_or, subst, arith, Some}
use Rattle.std.specs.List.{slice_get}
use Rattle.termwiz_input_extended.specs.FormAnswers.{HasForm}
use Rattle.termwiz_input_extended.proofs.lemmas.forms.FixedFronts.{begun_at_end, begun_absent_at}
use Rattle.termwiz_input_extended.proofs.lemmas.forms.FrontAnswers.{first_got, first_missing, first_there}
use Rattle.termwiz_input_extended.proofs.form.begun_key_at.Goals as goal

pub returns-in-empty : goal.returns-in-empty
returns-in-empty c = λ x10_mouse. begun_at_end c.args.first c.args.rest.now c.requires (first_missing c.args.rest.now (omega arith))

pub returns-in_default : goal.returns-in_default
returns-in_default c = λ x10_mouse.
    begun_absent_at c.args.first c.args.rest.now (get_or c.args.rest.now 0 0) c.requires (first_there c.args.rest.now (omega arith)) (λ e. omega arith)

pub returns-in-59 : goal.returns-in-59
returns-in-59 c = λ x10_mouse. subst (λ z. HasForm x10_mouse (27 ∷ 79 ∷ c.args.first ∷ z) c.parted_key_at.result)
    (first_got c.args.rest.now 59 (subst (λ (b : ℕ). Some b ≡ slice_get c.args.rest.now 0) (omega arith) (first_there c.args.rest.now (omega arith))))
    (c.parted_key_at.ensures x10_mouse)
