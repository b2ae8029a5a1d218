use Rattle.std.proofs.Common.{arith, sym, ◌∙◌}
use Rattle.termwiz_input_extended.proofs.lemmas.strings.Commands.{numbered_found, numbered_begun, numbered_none}
use Rattle.termwiz_input_extended.proofs.lemmas.strings.Openings.{digits_from}
use Rattle.termwiz_input_extended.proofs.string.numbered_at.Goals as goal

pub returns-in-Some-eq59 : goal.returns-in-Some-eq59
returns-in-Some-eq59 c =
    let e = c.digits_at-digits.ensures in
    let at = c.in-Some-eq59.ensures.lookup.3 in
    numbered_found c.args.rest.now c.digits_at-digits.result (digits_from c.args.rest.now c.digits_at-digits.result e.digits e.few e.stops)
    c.if-digits-gt0.true at.0 (sym (at.1 0) ∙ c.in-Some-eq59.field-0-test)

pub returns-in-Some : goal.returns-in-Some
returns-in-Some c =
    let e = c.digits_at-digits.ensures in
    numbered_none c.args.rest.now c.digits_at-digits.result (digits_from c.args.rest.now c.digits_at-digits.result e.digits e.few e.stops)
    c.in-Some.ensures.lookup.3.0 (λ some. absurd (omega arith)) c.requires

pub returns-in-Some-2 : goal.returns-in-Some-2
returns-in-Some-2 c =
    let e = c.digits_at-digits.ensures in
    let at = c.in-Some.ensures.lookup.3 in
    numbered_none c.args.rest.now c.digits_at-digits.result (digits_from c.args.rest.now c.digits_at-digits.result e.digits e.few e.stops)
    at.0 (λ some same. c.in-Some.field-0-test.1 (at.1 0 ∙ same)) c.requires

pub returns-in-None : goal.returns-in-None
returns-in-None c =
    let e = c.digits_at-digits.ensures in
    numbered_begun c.args.rest.now c.digits_at-digits.result (digits_from c.args.rest.now c.digits_at-digits.result e.digits e.few e.stops)
    (omega (arith, e.within, c.in-None.ensures.lookup.3))
