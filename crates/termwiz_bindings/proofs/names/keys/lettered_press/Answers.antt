use Rattle.std.proofs.Common.{◌∙◌, ◌+◌, sym, ap, arith, Err, drop, length-drop}
use Rattle.std.proofs.lemmas.Result.{err_from_is_err_and}
use Rattle.termwiz_bindings.specs.Names.{lettered_press}
use Rattle.termwiz_bindings.proofs.lemmas.TextPlaces.{rest_of}
use Rattle.termwiz_bindings.proofs.lemmas.WordSteps.{was_held, was_new}
use Rattle.termwiz_bindings.proofs.lemmas.LetterSteps as steps
use Rattle.termwiz_bindings.proofs.names.keys.lettered_press.Goals as goal

pub returns-in_err-held-in-Some-2 : goal.returns-in_err-held-in-Some-2
returns-in_err-held-in-Some-2 c =
    let l = c.loop-rest in
    let twice = was_held l.held c.in-Some.field-0 l.start c.in_err-held-in-Some-2.field-0.0 (sym c.in_err-held-in-Some-2.was ∙ c.with_modifier.ensures) in
    let p = err_from_is_err_and c.from_residual.result c.from_residual.ensures.1 in
    rw (p.1, p.2) (
    ap Err twice.1
    ∙ sym (steps.letter_held c.args.style l.held l.start l.rest.now c.loop-rest-test.true c.in-Some.field-0 (sym c.modifier_before.ensures ∙ c.in-Some.is) c.if-rest-eq2.false twice.0)
    ∙ l.invariant.same)

pub returns-in-Some : goal.returns-in-Some
returns-in-Some c =
    let l = c.loop-rest in
    ap Err c.error_at.ensures
    ∙ sym (steps.letter_last c.args.style l.held l.start l.rest.now c.loop-rest-test.true c.in-Some.field-0
    (sym c.modifier_before.ensures ∙ c.in-Some.is) c.if-rest-eq2.true)
    ∙ l.invariant.same

pub loop-rest-preserved : goal.loop-rest-preserved
loop-rest-preserved c =
    let l = c.loop-rest in
    let once = was_new l.held c.in-Some.field-0 l.start c.in_ok-held-in-Some-2.held (sym c.in_ok-held-in-Some-2.was ∙ c.with_modifier.ensures) in
    rw (rest_of l.rest.now 2) (record {
      place = omega (arith, length-drop 2 l.rest.now);
      same =
          ap (λ held. lettered_press c.args.style held (l.start + 2) (drop 2 l.rest.now)) once.1
          ∙ sym (steps.letter_new c.args.style l.held l.start l.rest.now c.loop-rest-test.true c.in-Some.field-0 (sym c.modifier_before.ensures ∙ c.in-Some.is) c.if-rest-eq2.false once.0)
          ∙ l.invariant.same;
    })

pub returns : goal.returns
returns c =
    let l = c.loop-rest in
    c.lettered_name-2.ensures
    ∙ sym (steps.short_name c.args.style l.held l.start l.rest.now c.loop-rest-test.false)
    ∙ l.invariant.same

pub returns-in-None : goal.returns-in-None
returns-in-None c =
    let l = c.loop-rest in
    c.lettered_name.ensures
    ∙ sym (steps.name_stands c.args.style l.held l.start l.rest.now c.loop-rest-test.true (sym c.in-None.ensures))
    ∙ l.invariant.same
