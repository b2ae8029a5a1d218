use Rattle.std.proofs.Common.{◌≡◌, inr, ◌∷◌, [], take, refl, sym, ap, ◌∙◌, subst, None}
use Rattle.std.specs.Prelude.{unwrap_or}
use Rattle.termwiz_keys.specs.Keys.{escape, with_alt}
use Rattle.termwiz_keys.specs.declared.types.KeyEvent.{KeyEvent}
use Rattle.termwiz_extended_events.specs.declared.types.Event.TheVariants.{Key}
use Rattle.termwiz_extended_events.specs.KeyReports.{plain_report}
use Rattle.termwiz_extended_events.specs.PortEvents.{decided_key, pressed_key, with_key}
use Rattle.termwiz_extended_grammar.specs.ExtendedGrammar.{Steps, escape_event}
use Rattle.termwiz_extended_grammar.specs.Readings.{event_in}
use Rattle.termwiz_input_extended.specs.Buffered.{Buffered}
use Rattle.termwiz_input_extended.specs.NextItems.{IsExtraAt, IsFormAt}
use Rattle.termwiz_input_extended.proofs.lemmas.fronts.EmittedItems.{emits_event, emits_none}
use Rattle.termwiz_input_extended.proofs.lemmas.fronts.FrontItems.{escape_step, extra_step}
use Rattle.termwiz_input_extended.proofs.lemmas.fronts.ToldByFront.{escapes_none, key_emitted}
use Rattle.termwiz_input_extended.proofs.lemmas.fronts.ControlFirst.{control_front, control_item, control_own}
use Rattle.termwiz_input_extended.proofs.input.ExtendedParser.emit_item.Goals as goal

pub returns-in-Control : goal.returns-in-Control
returns-in-Control g c =
    let reading = c.args.self.now.reading in
    let u = c.args.self.now.text in
    let byte = c.in-Control.byte in
    let is = c.in-Control.ensures in
    key_emitted g.S.EventSink.takes c.args.self.now _ c.args.sink.now _ c.args.maybe_more c.control_key.result 1 c.decided_key-decided.result c.key_event.result c.key_event.ensures
    (c.decided_key-decided.ensures ∙ ap (λ (b : Buffered). decided_key b.reading byte) c.self.view_is
    ∙ sym (control_front reading u byte is.1.0 is.0 is.1.1 is.1.2))
    (control_own reading u c.args.maybe_more byte is.1.0 is.1.1 is.1.2)
    (control_item u c.args.maybe_more byte is.1.0 c.control_key.result is.1.1 is.1.2 c.control_key.ensures) c.consume.ensures c.emit.ensures

pub returns-in-AltEscape : goal.returns-in-AltEscape
returns-in-AltEscape g c =
    let is = c.in-AltEscape.ensures in
    key_emitted g.S.EventSink.takes c.args.self.now _ c.args.sink.now _ c.args.maybe_more (with_alt escape) 2 None c.key_event-in-AltEscape.result
    (c.key_event-in-AltEscape.ensures
    ∙ ap (λ (k : KeyEvent). Key (pressed_key (with_key k (unwrap_or None k.key)))) (c.alt_key.ensures ∙ ap with_alt c.escape_key-in-AltEscape.ensures))
    (sym (escapes_none c.args.self.now.reading c.args.self.now.text (inr is.2))) is.0 is.1 c.consume-in-AltEscape.ensures c.emit-in-AltEscape.ensures

pub returns-in-MouseReport : goal.returns-in-MouseReport
returns-in-MouseReport g c = c.emit_report.ensures c.args.maybe_more

pub returns-in-Escape : goal.returns-in-Escape
returns-in-Escape g c = emits_event g.S.EventSink.takes c.args.self.now _ c.args.sink.now _ c.args.maybe_more escape_event
    (subst (λ t. Steps c.args.self.now.reading c.args.self.now.text c.args.maybe_more (escape_event ∷ []) t)
    (sym (ap (λ (b : Buffered). b.text) c.consume-in-Escape.ensures))
    (escape_step c.args.self.now.reading c.args.self.now.text c.in-Escape.ensures.0 c.args.maybe_more c.in-Escape.ensures.1
    c.in-Escape.ensures.2))
    (ap (λ (b : Buffered). b.reading) c.consume-in-Escape.ensures)
    (rw (c.key_event-in-Escape.ensures, c.escape_key.ensures) at c.emit-in-Escape.ensures)

pub returns-in-Incomplete : goal.returns-in-Incomplete
returns-in-Incomplete g c = emits_none g.S.EventSink.takes c.args.self.now _ c.args.sink.now _ c.args.maybe_more c.in-Incomplete.ensures.0 c.self.view_is refl

pub returns-in-Some : goal.returns-in-Some
returns-in-Some g c =
    let reading = c.args.self.now.reading in
    let u = c.args.self.now.text in
    let len = c.in-Form.len in
    let found = subst (λ t. IsExtraAt reading t len × (event_in reading (take len t) ≡ Key (plain_report c.in-Some.report))) c.waiting_text-text.ensures
    (c.in-Some.ensures reading (subst (λ t. IsFormAt reading t len) (sym c.waiting_text-text.ensures) c.in-Form.ensures)) in
    emits_event g.S.EventSink.takes c.args.self.now _ c.args.sink.now _ c.args.maybe_more (Key c.whole.result)
    (subst (λ t. Steps reading u c.args.maybe_more (Key c.whole.result ∷ []) t)
    (sym (ap (λ (b : Buffered). b.text) c.consume-in-Some.ensures))
    (extra_step reading u len _ c.args.maybe_more found.0.1 (Key c.whole.result)
    (ap (λ report. Key report) c.whole.ensures ∙ sym found.1)))
    (ap (λ (b : Buffered). b.reading) c.consume-in-Some.ensures) c.emit-in-Some.ensures
