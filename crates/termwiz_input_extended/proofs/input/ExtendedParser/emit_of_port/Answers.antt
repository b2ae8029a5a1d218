use Rattle.std.specs.Prelude.{None}
use Rattle.std.proofs.Common.{◌≡◌, ◌∷◌, [], ◌≤◌, length, take, refl, ap, sym, ◌∙◌, subst}
use Rattle.termwiz_keymap.specs.Bytes.{Begins}
use Rattle.termwiz_keys.specs.declared.types.InputEvent.TheVariants.{Key}
use Rattle.termwiz_extended_events.specs.declared.types.Reading.{Reading}
use Rattle.termwiz_input_extended.proofs.lemmas.fronts.MouseForms.{no_report_there}
use Rattle.termwiz_input_extended.specs.NextItems.{IsSs3Key, front_key, told_by}
use Rattle.termwiz_grammar.specs.Grammar as port
use Rattle.termwiz_grammar.specs.MouseReports.{IsMouseReport}
use Rattle.termwiz_input_extended.specs.Buffered.{Buffered}
use Rattle.termwiz_input_extended.proofs.lemmas.fronts.EmittedItems.{emits_event, emits_none, emits_refused, still_buffered, told_keeps}
use Rattle.termwiz_input_extended.proofs.lemmas.fronts.FrontItems.{own_rest, own_refused}
use Rattle.termwiz_input_extended.proofs.lemmas.fronts.Ss3Keys.{ss3_front}
use Rattle.termwiz_input_extended.proofs.lemmas.fronts.ToldByFront.{key_emitted, own_step}
use Rattle.termwiz_input_extended.proofs.input.ExtendedParser.emit_of_port.Goals as goal

pub emit_report-requires : goal.emit_report-requires
emit_report-requires g c =
    let is = subst (λ t. (c.in-Whole.len ≤ length t) × IsMouseReport (take c.in-Whole.len t) c.in-Whole.event) c.waiting_text-text.ensures
    c.in-Whole.ensures in
    record { within = is.0; report = is.1 }

pub returns-in-Whole : goal.returns-in-Whole
returns-in-Whole g c = c.emit_report.ensures c.args.maybe_more

pub returns-in_err-key : goal.returns-in_err-key
returns-in_err-key g c =
    let text : c.self.inside.parser ≡ c.args.self.now.text = ap (λ (b : Buffered). b.text) c.self.view_is in
    emits_refused g.S.EventSink.takes c.args.self.now _ c.args.sink.now _ c.args.maybe_more _ c.from_residual.ensures.0
    (own_refused _ _ _ c.requires (subst (λ t. port.HasPaste t c.args.maybe_more) text c.in_err-key.ensures.refused))
    (still_buffered _ _ _ _ c.in_err-key.ensures.refused_same c.self.view_is) refl

pub returns-in-Some-2 : goal.returns-in-Some-2
returns-in-Some-2 g c =
    let text : c.self.inside.parser ≡ c.args.self.now.text = ap (λ (b : Buffered). b.text) c.self.view_is in
    let reading = ap (λ (b : Buffered). b.reading) c.self.view_is in
    let u = c.args.self.now.text in
    let step = rw c.in-Some-2.is at c.in_ok-key.ensures.event in
    let decided : c.decided_at-decided.result ≡ front_key c.args.self.now.reading.dialect c.args.self.now.reading u =
    c.decided_at-decided.ensures
    ∙ ap (λ t. front_key c.self.inside.reading.dialect c.self.inside.reading t) c.waiting_text-text.ensures
    ∙ ap (λ (r : Reading). front_key r.dialect r u) reading in
    let made : c.told_event.result ≡ told_by (front_key c.args.self.now.reading.dialect c.args.self.now.reading u) c.in-Some-2.event =
    c.told_event.ensures ∙ ap (λ found. told_by found c.in-Some-2.event) decided in
    let no_mouse = no_report_there c.waiting_text-text.result.now c.mouse_report_at.result c.mouse_report_at.ensures c.in_default.not-Whole in
    emits_event g.S.EventSink.takes c.args.self.now _ c.args.sink.now _ c.args.maybe_more _
    (own_step c.args.self.now.reading u _ c.in-Some-2.event c.args.maybe_more c.requires
    (λ word report e is b. no_mouse word report is (subst (λ t. Begins word t) (sym c.waiting_text-text.ensures) b))
    (subst (λ t. port.Steps t c.args.maybe_more (c.in-Some-2.event ∷ []) c.next_event.new.self) text step))
    (reading ∙ sym (told_keeps c.args.self.now.reading (front_key c.args.self.now.reading.dialect c.args.self.now.reading u) c.in-Some-2.event))
    (rw made at c.emit-in-Some-2.ensures)

pub returns-in-Some-Key : goal.returns-in-Some-Key
returns-in-Some-Key g c =
    let text : c.self.inside.parser ≡ c.args.self.now.text = ap (λ (b : Buffered). b.text) c.self.view_is in
    let reading = ap (λ (b : Buffered). b.reading) c.self.view_is in
    let u = c.args.self.now.text in
    let key = Key c.in-Some-Key.key in
    let step = rw (c.in-Some-Key.is, c.in-Some-Key.field-0-is) at c.in_ok-key.ensures.event in
    let decided : c.decided_at-decided.result ≡ front_key c.args.self.now.reading.dialect c.args.self.now.reading u =
    c.decided_at-decided.ensures
    ∙ ap (λ t. front_key c.self.inside.reading.dialect c.self.inside.reading t) c.waiting_text-text.ensures
    ∙ ap (λ (r : Reading). front_key r.dialect r u) reading in
    let made : c.key_event-in-Some-Key.result ≡ told_by (front_key c.args.self.now.reading.dialect c.args.self.now.reading u) key =
    c.key_event-in-Some-Key.ensures ∙ ap (λ found. told_by found key) decided in
    let no_mouse = no_report_there c.waiting_text-text.result.now c.mouse_report_at.result c.mouse_report_at.ensures c.in_default.not-Whole in
    emits_event g.S.EventSink.takes c.args.self.now _ c.args.sink.now _ c.args.maybe_more _
    (own_step c.args.self.now.reading u _ key c.args.maybe_more c.requires
    (λ word report e is b. no_mouse word report is (subst (λ t. Begins word t) (sym c.waiting_text-text.ensures) b))
    (subst (λ t. port.Steps t c.args.maybe_more (key ∷ []) c.next_event.new.self) text step))
    (reading ∙ sym (told_keeps c.args.self.now.reading (front_key c.args.self.now.reading.dialect c.args.self.now.reading u) key))
    (rw made at c.emit-in-Some-Key.ensures)

pub returns-in-None : goal.returns-in-None
returns-in-None g c =
    let text : c.self.inside.parser ≡ c.args.self.now.text = ap (λ (b : Buffered). b.text) c.self.view_is in
    let rest = rw c.in-None.is at c.in_ok-key.ensures.none in
    let same = rw c.in-None.is at c.in_ok-key.ensures.none_same in
    emits_none g.S.EventSink.takes c.args.self.now _ c.args.sink.now _ c.args.maybe_more
    (own_rest _ _ _ c.requires (subst (λ t. port.IsRest t c.args.maybe_more) text rest))
    (still_buffered _ _ _ _ same c.self.view_is) refl

pub returns-in-Some : goal.returns-in-Some
returns-in-Some g c =
    let is = subst (λ t. IsSs3Key t c.in-Some.key) c.waiting_text-text.ensures c.in-Some.ensures in
    key_emitted g.S.EventSink.takes c.args.self.now _ c.args.sink.now _ c.args.maybe_more c.in-Some.key 3 None c.key_event.result c.key_event.ensures
    (sym (ss3_front c.args.self.now.reading c.args.self.now.text is.0)) c.requires (is.1 c.args.maybe_more) c.consume.ensures c.emit.ensures

pub consume-requires : goal.consume-requires
consume-requires g c =
    let is = subst (λ t. IsSs3Key t c.in-Some.key) c.waiting_text-text.ensures c.in-Some.ensures in
    (is.1 c.args.maybe_more).0
