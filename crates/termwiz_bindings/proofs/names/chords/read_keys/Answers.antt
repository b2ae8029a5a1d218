use Rattle.std.proofs.Common.{◌∙◌, ◌+◌, ◌-◌, take, drop, refl, sym, ap, arith}
use Rattle.std.proofs.lemmas.Result.{err_from_is_err_and}
use Rattle.termwiz_bindings.specs.ChordNames.{with_key, read_keys}
use Rattle.termwiz_bindings.proofs.lemmas.TextPlaces.{rest_of}
use Rattle.termwiz_bindings.proofs.lemmas.ChordSteps as steps
use Rattle.termwiz_bindings.proofs.names.chords.read_keys.Goals as goal

pub loop-i-preserved-then-not-is_blank : goal.loop-i-preserved-then-not-is_blank
loop-i-preserved-then-not-is_blank c =
    let l = c.loop-i in
    record {
      behind = omega arith;
      same = sym (steps.key_goes_on c.args.text.now l.chord l.start l.i l.invariant.behind _ c.loop-i-test.true refl
          (sym c.is_blank.ensures ∙ c.if-not-is_blank.true))
          ∙ l.invariant.same;
    }

pub returns-in_err-push_key : goal.returns-in_err-push_key
returns-in_err-push_key c =
    let l = c.loop-i in
    let p = err_from_is_err_and c.from_residual.result c.from_residual.ensures.1 in
    rw (p.1, p.2) (
    sym l.invariant.same
    ∙ steps.key_fails c.args.text.now l.chord l.start l.i l.invariant.behind _ c.loop-i-test.true refl c.in_err-push_key.field-0.0
    (sym c.is_blank.ensures ∙ c.if-not-is_blank.false) c.in_err-push_key.ensures)

pub loop-i-preserved : goal.loop-i-preserved
loop-i-preserved c =
    let l = c.loop-i in
    record {
      behind = omega arith;
      same =
          ap (λ n. read_keys c.push_key.new.chord (l.i + 1) (take n (drop (l.i + 1) c.args.text.now)) (drop (l.i + 1) c.args.text.now))
          {x = l.i + 1 - (l.i + 1)} {y = 0} (omega arith)
          ∙ sym (steps.key_ends c.args.text.now l.chord l.start l.i l.invariant.behind _ c.loop-i-test.true refl c.push_key.new.chord
          (sym c.is_blank.ensures ∙ c.if-not-is_blank.false) c.in_ok-push_key.ensures)
          ∙ l.invariant.same;
    }

pub returns-in_err-push_key-2 : goal.returns-in_err-push_key-2
returns-in_err-push_key-2 c =
    let l = c.loop-i in
    let p = err_from_is_err_and c.from_residual-in_err-push_key-2.result c.from_residual-in_err-push_key-2.ensures.1 in
    rw (p.1, p.2) (
    sym l.invariant.same ∙ steps.ended c.args.text.now l.chord l.start l.i l.invariant.behind c.loop-i-test.false
    ∙ ap (with_key l.chord l.start) (sym (rest_of c.args.text.now l.start)) ∙ c.in_err-push_key-2.ensures)

pub returns : goal.returns
returns c =
    let l = c.loop-i in
    sym l.invariant.same ∙ steps.ended c.args.text.now l.chord l.start l.i l.invariant.behind c.loop-i-test.false
    ∙ ap (with_key l.chord l.start) (sym (rest_of c.args.text.now l.start)) ∙ c.in_ok-push_key-2.ensures
