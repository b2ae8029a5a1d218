use Rattle.std.proofs.Common.{◌≡◌, ◌∷◌, [], take, refl, sym, ap, ◌∙◌, subst, Some}
use Rattle.std.specs.Prelude.{IfSome}
use Rattle.termwiz_extended_events.specs.Meanings.{NeedsMemory, event_from}
use Rattle.termwiz_extended_grammar.specs.ExtraSequences.{with_alt}
use Rattle.termwiz_extended_grammar.specs.ExtendedGrammar.{Steps}
use Rattle.termwiz_extended_grammar.specs.Readings.{after_event, event_in}
use Rattle.termwiz_input_extended.specs.Buffered.{Buffered}
use Rattle.termwiz_input_extended.proofs.lemmas.fronts.EmittedItems.{after_escape_bytes, alt_reading, alt_refused, alt_step, emits_event, emits_refused}
use Rattle.termwiz_input_extended.proofs.input.ExtendedParser.emit_alt_form.Goals as goal

pub returns-in_err-event : goal.returns-in_err-event
returns-in_err-event g c =
    let u = c.args.self.now.text in
    let v = c.requires.0 in
    let bytes = after_escape_bytes c.waiting_text-text.result.now u v c.args.len c.waiting_text-text.ensures c.requires.1 in
    let same = ap (λ (b : Buffered). b.reading) c.self.view_is in
    let means : event_from c.meaning_in.result ≡ Some (event_in c.args.self.now.reading (take c.args.len v)) = cc (c.meaning_in.ensures, bytes, same) in
    emits_refused g.S.EventSink.takes c.args.self.now _ c.args.sink.now _ c.args.maybe_more _ c.from_residual.ensures.0
    (alt_refused c.args.self.now.reading u v c.args.len c.args.maybe_more c.requires.1 c.requires.2
    (subst (λ made. IfSome made NeedsMemory) means c.in_err-event.ensures.refused))
    refl refl

pub returns : goal.returns
returns g c =
    let reading = c.args.self.now.reading in
    let u = c.args.self.now.text in
    let v = c.requires.0 in
    let event = c.with_alt.result in
    let bytes = after_escape_bytes c.waiting_text-text.result.now u v c.args.len c.waiting_text-text.ensures c.requires.1 in
    let same = ap (λ (b : Buffered). b.reading) c.self.view_is in
    let key : c.in_ok-event.event ≡ event_in reading (take c.args.len v) = cc (c.meaning_in.ensures, c.in_ok-event.ensures.ok, bytes, same) in
    let made : event ≡ with_alt (event_in reading (take c.args.len v)) = c.with_alt.ensures ∙ ap with_alt key in
    emits_event g.S.EventSink.takes c.args.self.now _ c.args.sink.now _ c.args.maybe_more event
    (subst (λ t. Steps reading u c.args.maybe_more (event ∷ []) t) (sym (ap (λ (b : Buffered). b.text) c.consume.ensures))
    (alt_step reading u v c.args.len c.args.maybe_more c.requires.1 c.requires.2 event made))
    (ap (λ (b : Buffered). b.reading) c.consume.ensures
    ∙ sym (ap (λ e. after_event reading e) made ∙ alt_reading reading (event_in reading (take c.args.len v)) c.requires.2.1.is_key)) c.emit.ensures
