use Rattle.std.proofs.Common.{◌<◌, ◌+◌, length, arith}
use Rattle.std.proofs.lemmas.Bool.Decides.{nat_tests}
use Rattle.termwiz_senders.proofs.lemmas.ReadAlone.{string_is, string_none, string_too_long, some_of, none_of}
use Rattle.termwiz_senders.proofs.event.string_text.Goals as goal

pub returns-in-Some-clause-sent : goal.returns-in-Some-clause-sent
returns-in-Some-clause-sent c =
    string_is c.args.parser.now.reading c.args.event.now c.args.kind c.introducer_of.result.now c.args.text.now c.in_ok-bytes.bytes.items
    c.in-Some.sent.items c.requires c.introducer_of.ensures.bytes c.in_ok-bytes.ensures
    (some_of _ c.in_ok-sent.field-0 c.in-Some.sent c.in-Some.is c.in_ok-sent.ensures.some)

pub returns-in-None-clause-too_long : goal.returns-in-None-clause-too_long
returns-in-None-clause-too_long c e =
    let long : 65534 < 2 + length c.args.text.now = grind (arith, nat_tests, c.if-is_long.true) in (
      string_too_long c.args.event.now c.args.kind c.args.text.now c.requires long,
      string_none c.args.parser.now.reading c.args.event.now c.args.kind c.introducer_of.result.now c.args.text.now c.in_ok-bytes.bytes.items
          c.requires c.introducer_of.ensures.bytes c.in_ok-bytes.ensures
          (none_of c.in_ok-sent.field-0 c.in-None.is c.in_ok-sent.ensures.none),
    )

pub returns-in-None-2-clause-no_text : goal.returns-in-None-2-clause-no_text
returns-in-None-2-clause-no_text c e =
    string_none c.args.parser.now.reading c.args.event.now c.args.kind c.introducer_of.result.now c.args.text.now c.in_ok-bytes.bytes.items
    c.requires c.introducer_of.ensures.bytes c.in_ok-bytes.ensures
    (none_of c.in_ok-sent.field-0 c.in-None-2.is c.in_ok-sent.ensures.none)
