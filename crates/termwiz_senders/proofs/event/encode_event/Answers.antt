use Rattle.termwiz_senders.proofs.lemmas.ReadAlone.{key_refused, key_too_long, mouse_refused, none_of}
use Rattle.termwiz_senders.proofs.event.encode_event.Goals as goal

pub returns-in_ok-mouse_text-in-Mouse-clause-no_text : goal.returns-in_ok-mouse_text-in-Mouse-clause-no_text
returns-in_ok-mouse_text-in-Mouse-clause-no_text c e =
    mouse_refused c.args.parser.now.reading c.reading.result c.args.event.now c.in-Mouse.report c.reading.ensures
    c.in-Mouse.is (none_of c.in_ok-mouse_text-in-Mouse.field-0 (c.found.ensures.none e) c.in_ok-mouse_text-in-Mouse.ensures.none)

pub returns-in-Key-clause-no_text : goal.returns-in-Key-clause-no_text
returns-in-Key-clause-no_text c e =
    key_refused c.args.parser.now.reading c.args.event.now c.in-Key.report c.in-Key.is (c.key_text.ensures.no_text e)

pub returns-in-Key-clause-too_long : goal.returns-in-Key-clause-too_long
returns-in-Key-clause-too_long c e =
    key_too_long c.args.parser.now.reading c.args.event.now c.in-Key.report c.in-Key.is (c.key_text.ensures.too_long e)
