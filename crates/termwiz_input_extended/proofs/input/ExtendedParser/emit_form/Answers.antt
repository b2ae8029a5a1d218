use Rattle.std.proofs.Common.{◌≡◌, ◌∷◌, [], take, refl, sym, ap, ◌∙◌, subst, Some}
use Rattle.std.specs.Prelude.{IfSome}
use Rattle.termwiz_extended_events.specs.Meanings.{NeedsMemory, event_from}
use Rattle.termwiz_extended_grammar.specs.ExtendedGrammar.{Steps}
use Rattle.termwiz_extended_grammar.specs.Readings.{after_event, event_in}
use Rattle.termwiz_input_extended.specs.Buffered.{Buffered}
use Rattle.termwiz_input_extended.specs.NextItems.{IsExtraAt, IsPortsOwn}
use Rattle.termwiz_input_extended.proofs.lemmas.fronts.EmittedItems.{emits_event, emits_refused}
use Rattle.termwiz_input_extended.proofs.lemmas.fronts.FrontItems.{extra_refused, extra_step}
use Rattle.termwiz_input_extended.proofs.input.ExtendedParser.emit_form.Goals as goal

pub returns-in_err-emit_meaning : goal.returns-in_err-emit_meaning
returns-in_err-emit_meaning g c =
    let reading = ap (λ (b : Buffered). b.reading) c.self.view_is in
    let u = c.args.self.now.text in
    let is = subst (λ r. IsExtraAt r u c.args.len) reading
    (subst (λ t. IsExtraAt c.self.inside.reading t c.args.len) c.waiting_text-text.ensures (c.is_extra_at.ensures.some c.if-not-is_extra_at.false)) in
    let means = subst (λ r. event_from c.meaning_in-meaning.result ≡ Some (event_in r (take c.args.len u))) reading
    (subst (λ t. event_from c.meaning_in-meaning.result ≡ Some (event_in c.self.inside.reading (take c.args.len t))) c.waiting_text-text.ensures
    c.meaning_in-meaning.ensures) in
    emits_refused g.S.EventSink.takes c.args.self.now _ c.args.sink.now _ c.args.maybe_more _ c.from_residual.ensures.0
    (extra_refused c.args.self.now.reading u c.args.len _ c.args.maybe_more is.1
    (subst (λ made. IfSome made NeedsMemory) means c.in_err-emit_meaning.ensures.refused))
    refl c.in_err-emit_meaning.ensures.refused_same

pub returns : goal.returns
returns g c =
    let reading = ap (λ (b : Buffered). b.reading) c.self.view_is in
    let u = c.args.self.now.text in
    let event = event_in c.args.self.now.reading (take c.args.len u) in
    let is = subst (λ r. IsExtraAt r u c.args.len) reading
    (subst (λ t. IsExtraAt c.self.inside.reading t c.args.len) c.waiting_text-text.ensures (c.is_extra_at.ensures.some c.if-not-is_extra_at.false)) in
    let means = subst (λ r. event_from c.meaning_in-meaning.result ≡ Some (event_in r (take c.args.len u))) reading
    (subst (λ t. event_from c.meaning_in-meaning.result ≡ Some (event_in c.self.inside.reading (take c.args.len t))) c.waiting_text-text.ensures
    c.meaning_in-meaning.ensures) in
    let noted = c.note_position.ensures event (c.is_position-is_position.ensures event means) in
    emits_event g.S.EventSink.takes c.args.self.now _ c.args.sink.now _ c.args.maybe_more event
    (subst (λ t. Steps c.args.self.now.reading u c.args.maybe_more (event ∷ []) t) (sym (ap (λ (b : Buffered). b.text) noted ∙ ap (λ (b : Buffered). b.text) c.consume.ensures))
    (extra_step c.args.self.now.reading u c.args.len _ c.args.maybe_more is.1 event refl))
    (ap (λ (b : Buffered). b.reading) noted ∙ ap (λ (b : Buffered). after_event b.reading event) c.consume.ensures)
    (subst (λ made. IfSome made (λ event. g.S.EventSink.takes c.args.sink.now event c.emit_meaning.new.self)) means c.in_ok-emit_meaning.ensures.ok)

pub emit_of_port-requires : goal.emit_of_port-requires
emit_of_port-requires g c =
    let reading = ap (λ (b : Buffered). b.reading) c.self.view_is in
    subst (λ r. IsPortsOwn r c.args.self.now.text c.args.maybe_more) reading
    (subst (λ t. IsPortsOwn c.self.inside.reading t c.args.maybe_more) c.waiting_text-text.ensures
    (c.is_extra_at.ensures.none c.if-not-is_extra_at.true c.args.maybe_more))
