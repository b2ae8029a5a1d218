use Rattle.std.proofs.Common.{◌≢◌, ℕ, ◌<◌, List, [], ◌∷◌, length, get_or, arith, subst, refl}
use Rattle.termwiz_input_extended.specs.FormAnswers.{HasForm}
use Rattle.termwiz_input_extended.proofs.lemmas.forms.FixedFronts.{no_escape_at, alone_at, no_second_at}
use Rattle.termwiz_input_extended.proofs.lemmas.forms.FrontAnswers.{two_first}
use Rattle.termwiz_input_extended.proofs.lemmas.forms.Scanned.{scanned_control_at}
use Rattle.termwiz_input_extended.proofs.form.form_at.Goals as goal

long_text : (u : List ℕ) → u ≢ [] → length u ≢ 1 → 1 < length u
long_text [] some n = absurd (some refl)
long_text (x ∷ []) some n = absurd (n refl)
long_text (x ∷ y ∷ u) some n = omega arith

pub returns-then-text-ne-ESCAPE : goal.returns-then-text-ne-ESCAPE
returns-then-text-ne-ESCAPE c = no_escape_at c.args.text.now c.requires.some c.if-text-ne-ESCAPE.true

pub returns-then-text-eq1 : goal.returns-then-text-eq1
returns-then-text-eq1 c = alone_at c.args.text.now c.if-text-eq1.true c.if-text-ne-ESCAPE.false

pub bracketed_at-requires : goal.bracketed_at-requires
bracketed_at-requires c = scanned_control_at c.args.text.now c.args.scanned c.saturating_sub-scanned.result
    (long_text c.args.text.now c.requires.some c.if-text-eq1.false) c.if-text-ne-ESCAPE.false c.in-91.is
    c.saturating_sub-scanned.ensures c.requires.scanned

pub returns-in-91 : goal.returns-in-91
returns-in-91 c = subst (λ z. HasForm c.args.x10_mouse z c.bracketed_at.result)
    (two_first c.args.text.now 27 91 (long_text c.args.text.now c.requires.some c.if-text-eq1.false)
    c.if-text-ne-ESCAPE.false c.in-91.is) c.bracketed_at.ensures

pub returns-in-79 : goal.returns-in-79
returns-in-79 c = subst (λ z. HasForm c.args.x10_mouse z c.keypad_key_at.result)
    (two_first c.args.text.now 27 79 (long_text c.args.text.now c.requires.some c.if-text-eq1.false)
    c.if-text-ne-ESCAPE.false c.in-79.is) (c.keypad_key_at.ensures c.args.x10_mouse)

pub returns-in-93 : goal.returns-in-93
returns-in-93 c = subst (λ z. HasForm c.args.x10_mouse z c.title_at.result)
    (two_first c.args.text.now 27 93 (long_text c.args.text.now c.requires.some c.if-text-eq1.false)
    c.if-text-ne-ESCAPE.false c.in-93.is) (c.title_at.ensures c.args.x10_mouse)

pub returns-in_default : goal.returns-in_default
returns-in_default c = no_second_at c.args.text.now (get_or c.args.text.now 1 0)
    (long_text c.args.text.now c.requires.some c.if-text-eq1.false) c.if-text-ne-ESCAPE.false refl (grind arith)
