use Rattle.std.proofs.Common.{arith}
use Rattle.hedrugal.proofs.HeldCodes.{is_full, pushed}
use Rattle.hedrugal.proofs.matcher_calls.hed_matcher_press.Goals as goal

pub returns-then-matcher-eq-MAX_KEYS-clause-full : goal.returns-then-matcher-eq-MAX_KEYS-clause-full
returns-then-matcher-eq-MAX_KEYS-clause-full c = λ _.
    is_full c.args.matcher.now c.in-Some._codes.now c.in-Some.ensures.some c.if-matcher-eq-MAX_KEYS.true

pub returns-clause-pressed : goal.returns-clause-pressed
returns-clause-pressed c = λ _.
    pushed c.args.matcher.now c.push_code.new.matcher c.in-Some._codes.now c.in-Some-code_of.code c.args.press.now
    c.in-Some.ensures.some c.in-Some-code_of.ensures.some
    (omega (arith, c.in-Some.ensures.some.few, c.if-matcher-eq-MAX_KEYS.false)) c.push_code.ensures.count c.push_code.ensures.codes
