use Rattle.std.proofs.Common.{◌≡◌, ◌∷◌, ℕ, Bool, true, sym, subst, Some}
use Rattle.std.specs.List.{slice_get}
use Rattle.termwiz_input_extended.specs.FormAnswers.{HasForm}
use Rattle.termwiz_input_extended.proofs.lemmas.forms.FrontAnswers.{first_got}
use Rattle.termwiz_input_extended.proofs.form.bracketed_at.Goals as goal

pub returns-in-Some-eq77 : goal.returns-in-Some-eq77
returns-in-Some-eq77 c = subst (λ (b : Bool). HasForm b (27 ∷ 91 ∷ c.args.rest.now) c.x10_report_at.result) (sym c.if-x10_mouse.true)
    (subst (λ z. HasForm true (27 ∷ 91 ∷ z) c.x10_report_at.result)
    (first_got c.args.rest.now 77
    (subst (λ (b : ℕ). Some b ≡ slice_get c.args.rest.now 0) c.in-Some-eq77.field-0-test c.in-Some-eq77.ensures.value))
    c.x10_report_at.ensures)

pub returns-in-Some-eq91 : goal.returns-in-Some-eq91
returns-in-Some-eq91 c = subst (λ z. HasForm c.args.x10_mouse (27 ∷ 91 ∷ z) c.console_key_at.result)
    (first_got c.args.rest.now 91
    (subst (λ (b : ℕ). Some b ≡ slice_get c.args.rest.now 0) c.in-Some-eq91.field-0-test c.in-Some-eq91.ensures.value))
    (c.console_key_at.ensures c.args.x10_mouse)
