use Rattle.std.proofs.Common.{◌≡◌, ⊎_elim, arith, length-take, subst}
use Rattle.termwiz_extended_events.specs.declared.types.StringKind.TheVariants.{Osc}
use Rattle.termwiz_input_extended.specs.declared.string.EndAt.{EndAt}
use Rattle.termwiz_input_extended.specs.declared.string.EndAt.TheVariants.{Escape, Escapes}
use Rattle.termwiz_input_extended.specs.StringAnswers.{HasEnd}
use Rattle.termwiz_input_extended.proofs.lemmas.forms.LetteredTitles.{body_of}
use Rattle.termwiz_input_extended.proofs.lemmas.forms.TitleFronts.{after_of, title_long_at, title_whole_at, title_held_at, title_cut_at}
use Rattle.termwiz_input_extended.proofs.form.lettered_title_at.Goals as goal

pub returns-then-len-eq-TYPED_TITLE : goal.returns-then-len-eq-TYPED_TITLE
returns-then-len-eq-TYPED_TITLE c = λ x10_mouse. title_long_at c.args.rest.now c.min.result c.data_end-len.result c.requires.some
    c.data_end-len.ensures.data c.data_end-len.ensures.within (omega arith)

pub returns-in-End : goal.returns-in-End
returns-in-End c = λ x10_mouse. title_whole_at c.args.rest.now c.min.result c.data_end-len.result c.in-End.end c.requires.some c.requires.letter
    c.data_end-len.ensures.data c.data_end-len.ensures.within
    (omega (arith, c.data_end-len.ensures.within, length-take c.min.result (body_of c.args.rest.now)))
    c.in-End.ensures.0 c.in-End.ensures.1

pub returns-in-Held : goal.returns-in-Held
returns-in-Held c = λ x10_mouse. title_held_at c.args.rest.now c.min.result c.data_end-len.result c.requires.some c.requires.letter
    c.data_end-len.ensures.data c.data_end-len.ensures.within
    (omega (arith, c.data_end-len.ensures.within, length-take c.min.result (body_of c.args.rest.now)))
    c.in-Held.ensures

pub returns-in-Escape : goal.returns-in-Escape
returns-in-Escape c = λ x10_mouse.
    let r = c.args.rest.now in
    let found : (z : EndAt) → c.end_at.result ≡ z → HasEnd Osc (after_of r c.data_end-len.result) z =
    λ z e. subst (HasEnd Osc (after_of r c.data_end-len.result)) e c.end_at.ensures in
    ⊎_elim
    (λ (one : c.end_at.result ≡ Escape). (
    let k = found Escape one in
    title_cut_at r k.1 c.min.result c.data_end-len.result k.0 c.requires.some c.data_end-len.ensures.data
    c.data_end-len.ensures.within k.2 k.4
    ))
    (λ (two : c.end_at.result ≡ Escapes). (
    let k = found Escapes two in
    title_cut_at r k.0 c.min.result c.data_end-len.result 27 c.requires.some c.data_end-len.ensures.data
    c.data_end-len.ensures.within k.1 (λ e. omega arith)
    ))
    c.in-Escape.is
