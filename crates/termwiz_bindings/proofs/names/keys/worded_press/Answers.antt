use Rattle.std.proofs.Common.{◌∙◌, ◌+◌, ◌-◌, [], take, drop, refl, sym, ap, arith, Err}
use Rattle.std.specs.Prelude.{is_some}
use Rattle.std.proofs.lemmas.Result.{err_from_is_err_and}
use Rattle.termwiz_bindings.specs.Names.{last_press, worded_press}
use Rattle.termwiz_bindings.proofs.lemmas.TextPlaces.{rest_of}
use Rattle.termwiz_bindings.proofs.lemmas.WordSteps as steps
use Rattle.termwiz_bindings.proofs.names.keys.worded_press.Goals as goal
use Rattle.termwiz_bindings.proofs.names.keys.worded_press.Goals.{then-i-start-via-then-i-start, then-i-start-via-else-i-start+then-not-is_separator}

pub loop-i-preserved-then-i-start : goal.loop-i-preserved-then-i-start
loop-i-preserved-then-i-start c =
    let l = c.loop-i in
    let text = c.args.text.now in
    let inside = c.loop-i-test.true in
    elim c.then-i-start.branch [
      | then-i-start-via-then-i-start w ↦ record {
        behind = omega arith;
        same = sym (steps.word_goes_on text l.held c.args.at l.start l.i l.invariant.behind _ inside refl
            (steps.at_start text l.held c.args.at l.start l.i l.invariant.behind _ inside refl w.if-i-start.true))
            ∙ l.invariant.same;
      }
      | then-i-start-via-else-i-start+then-not-is_separator w ↦ record {
        behind = omega arith;
        same = sym (steps.word_goes_on text l.held c.args.at l.start l.i l.invariant.behind _ inside refl
            (steps.no_separator text l.held c.args.at l.start l.i l.invariant.behind _ inside refl
            (sym w.is_separator.ensures ∙ w.if-not-is_separator.true)))
            ∙ l.invariant.same;
      }
    ]

pub returns-in_err-held-in-Some : goal.returns-in_err-held-in-Some
returns-in_err-held-in-Some c =
    let l = c.loop-i in
    let twice = steps.was_held l.held c.in-Some.modifier (c.args.at + l.start) c.in_err-held-in-Some.field-0.0
    (sym c.in_err-held-in-Some.was ∙ c.with_modifier.ensures) in
    let p = err_from_is_err_and c.from_residual.result c.from_residual.ensures.1 in
    rw (p.1, p.2) (
    ap Err twice.1
    ∙ sym (steps.modifier_twice c.args.text.now l.held c.args.at l.start l.i l.invariant.behind _ c.loop-i-test.true refl c.if-i-start.false
    (sym c.is_separator.ensures ∙ c.if-not-is_separator.false) c.in-Some.modifier (sym c.in-Some.ensures) twice.0)
    ∙ l.invariant.same)

pub returns-in-None : goal.returns-in-None
returns-in-None c =
    let l = c.loop-i in
    c.last_press.ensures ∙ ap (last_press l.held (c.args.at + l.start)) (rest_of c.args.text.now l.start)
    ∙ sym (steps.character_ends c.args.text.now l.held c.args.at l.start l.i l.invariant.behind _ c.loop-i-test.true refl c.if-i-start.false
    (sym c.is_separator.ensures ∙ c.if-not-is_separator.false) (sym c.in-None.ensures)
    (ap is_some (sym c.one_character.ensures) ∙ sym c.if-is_some.ensures))
    ∙ l.invariant.same

pub returns-in-None-2 : goal.returns-in-None-2
returns-in-None-2 c =
    let l = c.loop-i in
    ap Err c.error_at.ensures
    ∙ sym (steps.unknown_ends c.args.text.now l.held c.args.at l.start l.i l.invariant.behind _ c.loop-i-test.true refl c.if-i-start.false
    (sym c.is_separator.ensures ∙ c.if-not-is_separator.false) (sym c.in-None-2.ensures)
    (ap is_some (sym c.one_character.ensures) ∙ sym c.if-is_some.ensures))
    ∙ l.invariant.same

pub loop-i-preserved : goal.loop-i-preserved
loop-i-preserved c =
    let l = c.loop-i in
    let once = steps.was_new l.held c.in-Some.modifier (c.args.at + l.start) c.in_ok-held-in-Some.held
    (sym c.in_ok-held-in-Some.was ∙ c.with_modifier.ensures) in
    record {
      behind = omega arith;
      same =
          ap (λ n. worded_press c.in_ok-held-in-Some.held (c.args.at + (l.i + 1)) (take n (drop (l.i + 1) c.args.text.now)) (drop (l.i + 1) c.args.text.now))
          {x = l.i + 1 - (l.i + 1)} {y = 0} (omega arith)
          ∙ ap (λ held. worded_press held (c.args.at + (l.i + 1)) [] (drop (l.i + 1) c.args.text.now)) once.1
          ∙ sym (steps.modifier_ends c.args.text.now l.held c.args.at l.start l.i l.invariant.behind _ c.loop-i-test.true refl c.if-i-start.false
          (sym c.is_separator.ensures ∙ c.if-not-is_separator.false) c.in-Some.modifier (sym c.in-Some.ensures) once.0)
          ∙ l.invariant.same;
    }

pub returns : goal.returns
returns c =
    let l = c.loop-i in
    c.last_press-2.ensures ∙ ap (last_press l.held (c.args.at + l.start)) (rest_of c.args.text.now l.start)
    ∙ sym (steps.ended c.args.text.now l.held c.args.at l.start l.i l.invariant.behind c.loop-i-test.false)
    ∙ l.invariant.same
