use Rattle.std.proofs.Common.{◌∷◌, subst, sym}
use Rattle.termwiz_input_extended.specs.declared.form.FormAt.TheVariants.{Unfinished}
use Rattle.termwiz_input_extended.specs.FormAnswers.{HasForm}
use Rattle.termwiz_input_extended.proofs.lemmas.forms.FrontAnswers.{none_got}
use Rattle.termwiz_input_extended.proofs.lemmas.forms.TitleFronts.{title_nothing}
use Rattle.termwiz_input_extended.proofs.form.title_at.Goals as goal

pub returns-in-None : goal.returns-in-None
returns-in-None c = λ x10_mouse. subst (λ z. HasForm x10_mouse (27 ∷ 93 ∷ z) Unfinished) (sym (none_got c.args.rest.now c.in-None.ensures.value)) title_nothing
