use Rattle.std.proofs.Common.{true, sym, ap, ◌∙◌, subst, None}
use Rattle.std.specs.Prelude.{unwrap_or}
use Rattle.termwiz_keys.specs.Keys.{plain}
use Rattle.termwiz_keys.specs.declared.types.KeyEvent.{KeyEvent}
use Rattle.termwiz_extended_events.specs.declared.types.Event.TheVariants.{Key}
use Rattle.termwiz_extended_events.specs.PortEvents.{pressed_key, with_key}
use Rattle.termwiz_input_extended.specs.NextItems.{IsPlainCharacter}
use Rattle.termwiz_input_extended.proofs.lemmas.fronts.ToldByFront.{key_lightly_emitted}
use Rattle.termwiz_input_extended.proofs.input.ExtendedParser.emit_character.Goals as goal

pub consume-requires : goal.consume-requires
consume-requires g c =
    let is = subst (λ t. IsPlainCharacter c.args.self.now.reading t true c.in-Some.character c.in-Some.len)
    c.waiting_text.ensures (c.in-Some.ensures c.args.self.now.reading true) in
    is.item.0

pub returns-in-Some-clause-emitted : goal.returns-in-Some-clause-emitted
returns-in-Some-clause-emitted g c = λ done more.
    let is = subst (λ t. IsPlainCharacter c.args.self.now.reading t more c.in-Some.character c.in-Some.len)
    c.waiting_text.ensures (c.in-Some.ensures c.args.self.now.reading more) in
    key_lightly_emitted g.S.EventSink.takes c.args.self.now _ c.args.sink.now _ more (plain c.in-Some.character) c.in-Some.len None
    c.key_event.result
    (c.key_event.ensures ∙ ap (λ (k : KeyEvent). Key (pressed_key (with_key k (unwrap_or None k.key)))) c.plain_key.ensures)
    (sym is.undecided) is.own is.item c.consume.ensures c.emit.ensures
