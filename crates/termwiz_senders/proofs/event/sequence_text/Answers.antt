use Rattle.std.proofs.Common.{◌≡◌, ◌++◌, ◌∙◌, ◌<◌, [], ap, length, arith}
use Rattle.std.proofs.lemmas.Bool.Decides.{nat_tests}
use Rattle.termwiz_keys.specs.Introducers.{CSI}
use Rattle.termwiz_senders.proofs.lemmas.ReadAlone.{csi_is, csi_none, csi_too_long, some_of, none_of}
use Rattle.termwiz_senders.proofs.event.sequence_text.Goals as goal

pub returns-in-Some-clause-sent : goal.returns-in-Some-clause-sent
returns-in-Some-clause-sent c =
    let all : c.in_ok-bytes.bytes.items ≡ CSI ++ c.args.text.now ++ [] =
    c.in_ok-bytes.ensures ∙ ap (λ f. f ++ c.args.text.now ++ []) c.as_bytes.ensures.value in
    csi_is c.args.parser.now.reading c.args.event.now c.args.text.now c.in_ok-bytes.bytes.items c.in-Some.sent.items c.requires all
    (some_of _ c.in_ok-sent.field-0 c.in-Some.sent c.in-Some.is c.in_ok-sent.ensures.some)

pub returns-in-None-clause-too_long : goal.returns-in-None-clause-too_long
returns-in-None-clause-too_long c e =
    let all : c.in_ok-bytes.bytes.items ≡ CSI ++ c.args.text.now ++ [] =
    c.in_ok-bytes.ensures ∙ ap (λ f. f ++ c.args.text.now ++ []) c.as_bytes.ensures.value in
    let long : 256 < length c.in_ok-bytes.bytes.items = grind (arith, nat_tests, c.if-is_long.true, c.len-is_long.ensures) in (
      csi_too_long c.args.event.now c.args.text.now c.in_ok-bytes.bytes.items c.requires all long,
      csi_none c.args.parser.now.reading c.args.event.now c.args.text.now c.in_ok-bytes.bytes.items c.requires all
          (none_of c.in_ok-sent.field-0 c.in-None.is c.in_ok-sent.ensures.none),
    )

pub returns-in-None-2-clause-no_text : goal.returns-in-None-2-clause-no_text
returns-in-None-2-clause-no_text c e =
    let all : c.in_ok-bytes.bytes.items ≡ CSI ++ c.args.text.now ++ [] =
    c.in_ok-bytes.ensures ∙ ap (λ f. f ++ c.args.text.now ++ []) c.as_bytes.ensures.value in
    csi_none c.args.parser.now.reading c.args.event.now c.args.text.now c.in_ok-bytes.bytes.items c.requires all
    (none_of c.in_ok-sent.field-0 c.in-None-2.is c.in_ok-sent.ensures.none)
