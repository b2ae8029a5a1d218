use Rattle.std.proofs.Common.{arith, subst, sym}
use Rattle.termwiz_extended_grammar.specs.Forms.{IsFinal}
use Rattle.termwiz_extended_grammar.specs.Strings.{IsReplySign}
use Rattle.termwiz_keymap.proofs.lemmas.lists.PrefixTest.{denied}
use Rattle.termwiz_input_extended.proofs.lemmas.strings.DeviceControls.{tail_size, tail_first, tail_second, reply_found, digits_begun, sign_begun, sign_none, last_none}
use Rattle.termwiz_input_extended.proofs.lemmas.strings.Openings.{digits_from}
use Rattle.termwiz_input_extended.proofs.string.numbered_reply_at.Goals as goal

pub returns-in-len1-up : goal.returns-in-len1-up
returns-in-len1-up c =
    let r = c.args.rest.now in
    let d = c.digits_at-digits.result in
    let e = c.digits_at-digits.ensures in
    let digits = digits_from r d e.digits e.few e.stops in
    sign_none r d digits (omega (arith, c.in-len1-up.len_at_least, tail_size r d)) (λ some. absurd (omega arith)) c.requires

pub returns-in-len1-up-2 : goal.returns-in-len1-up-2
returns-in-len1-up-2 c =
    let r = c.args.rest.now in
    let d = c.digits_at-digits.result in
    let e = c.digits_at-digits.ensures in
    let digits = digits_from r d e.digits e.few e.stops in
    sign_none r d digits (omega (arith, c.in-len1-up-2.len_at_least, tail_size r d))
    (λ some is. denied c.is_reply_sign.ensures.1 c.if-not-is_reply_sign.true (subst IsReplySign (sym (tail_first r d)) is)) c.requires

pub returns-in-len1 : goal.returns-in-len1
returns-in-len1 c =
    let r = c.args.rest.now in
    let d = c.digits_at-digits.result in
    let e = c.digits_at-digits.ensures in
    let digits = digits_from r d e.digits e.few e.stops in
    sign_begun r d digits (omega arith) (omega (arith, c.in-len1.len_at_least, c.in-len1.len_below, tail_size r d))
    (subst IsReplySign (tail_first r d) (c.is_reply_sign.ensures.0 c.if-not-is_reply_sign.false))

pub returns-in-len2-up : goal.returns-in-len2-up
returns-in-len2-up c =
    let r = c.args.rest.now in
    let d = c.digits_at-digits.result in
    let e = c.digits_at-digits.ensures in
    let digits = digits_from r d e.digits e.few e.stops in
    reply_found r d digits (omega arith) (omega (arith, c.in-len2-up.len_at_least, tail_size r d))
    (subst IsReplySign (tail_first r d) (c.is_reply_sign.ensures.0 c.if-not-is_reply_sign.false))
    (subst IsFinal (tail_second r d) (c.is_final.ensures.0 c.if-is_final.true))

pub returns-in_default : goal.returns-in_default
returns-in_default c =
    let r = c.args.rest.now in
    let d = c.digits_at-digits.result in
    let e = c.digits_at-digits.ensures in
    let digits = digits_from r d e.digits e.few e.stops in
    last_none r d digits (omega (arith, c.in-len2-up.len_at_least, tail_size r d))
    (λ is. denied c.is_final.ensures.1 c.if-is_final.false (subst IsFinal (sym (tail_second r d)) is)) c.requires

pub returns-in-empty : goal.returns-in-empty
returns-in-empty c =
    let r = c.args.rest.now in
    let d = c.digits_at-digits.result in
    let e = c.digits_at-digits.ensures in
    let digits = digits_from r d e.digits e.few e.stops in
    digits_begun r d digits (omega (arith, e.within, c.in-empty.len_below, tail_size r d))
