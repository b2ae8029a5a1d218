use Rattle.std.proofs.Common.{◌≡◌, ◌∷◌, [], ◌++◌, refl, sym, ap, ◌∙◌, subst, Some}
use Rattle.std.specs.Prelude.{IfSome}
use Rattle.termwiz_extended_events.specs.Meanings.{NeedsMemory, event_from}
use Rattle.termwiz_extended_grammar.specs.Strings.{IsOpenString}
use Rattle.termwiz_extended_grammar.specs.ExtendedGrammar.{Steps}
use Rattle.termwiz_extended_grammar.proofs.lemmas.items.ExtendedRests.{string_rests}
use Rattle.termwiz_input_extended.specs.Buffered.{Buffered}
use Rattle.termwiz_input_extended.specs.StringAnswers.{IsStringItem, string_event}
use Rattle.termwiz_input_extended.proofs.lemmas.fronts.EmittedItems.{emits_event, emits_none, emits_refused}
use Rattle.termwiz_input_extended.proofs.lemmas.fronts.StringSteps.{bytes_within, opening_scanned, scanned_open, string_reading, string_refused, string_step}
use Rattle.termwiz_input_extended.proofs.input.ExtendedParser.emit_string.Goals as goal

pub string_at-requires-clause-scanned : goal.string_at-requires-clause-scanned
string_at-requires-clause-scanned g c =
    opening_scanned _ c.args.self.now.text c.self.inside.parser c.args.kind c.args.opening _ c.waiting_text-text.ensures
    (ap (λ (b : Buffered). b.text) c.self.view_is) c.requires.opening c.self.invariant

pub invariant_of-self : goal.invariant_of-self
invariant_of-self g c =
    let found = c.in-Open.ensures in
    scanned_open _ c.args.self.now.text c.self.inside.parser c.args.kind c.args.opening c.in-Open.place c.waiting_text-text.ensures
    (ap (λ (b : Buffered). b.text) c.self.view_is) c.requires.opening found.2 found.3

pub returns-in-Open : goal.returns-in-Open
returns-in-Open g c =
    let found = c.in-Open.ensures in
    emits_none g.S.EventSink.takes c.args.self.now _ c.args.sink.now _ c.args.maybe_more
    (string_rests c.args.self.now.reading c.args.self.now.text c.args.maybe_more c.requires.reads
    (subst IsOpenString c.waiting_text-text.ensures found.0) found.1) c.self.view_is refl

pub returns-in_ok-emit_meaning-in-Item : goal.returns-in_ok-emit_meaning-in-Item
returns-in_ok-emit_meaning-in-Item g c =
    let u = c.args.self.now.text in
    let more = c.args.maybe_more in
    let item = c.in-Item.item in
    let is = subst (λ t. IsStringItem t more item) c.waiting_text-text.ensures c.in-Item.ensures in
    let event = string_event item.manner item.kind (is.head ++ is.bytes) in
    let bytes = bytes_within c.waiting_text-text.result.now u more item c.waiting_text-text.ensures is in
    let made : event_from c.string_meaning-meaning.result ≡ Some event = cc (c.string_meaning-meaning.ensures, bytes) in
    emits_event g.S.EventSink.takes c.args.self.now _ c.args.sink.now _ more event
    (subst (λ t. Steps c.args.self.now.reading u more (event ∷ []) t) (sym (ap (λ (b : Buffered). b.text) c.cut_out.ensures))
    (string_step c.args.self.now.reading u more item is c.requires.reads event refl))
    (ap (λ (b : Buffered). b.reading) c.cut_out.ensures
    ∙ sym (string_reading c.args.self.now.reading item.manner item.kind (is.head ++ is.bytes)))
    (subst (λ found. IfSome found (λ event. g.S.EventSink.takes c.args.sink.now event c.emit_meaning.new.self)) made c.in_ok-emit_meaning-in-Item.ensures.ok)

pub returns-in_err-emit_meaning-in-Item : goal.returns-in_err-emit_meaning-in-Item
returns-in_err-emit_meaning-in-Item g c =
    let u = c.args.self.now.text in
    let more = c.args.maybe_more in
    let item = c.in-Item.item in
    let is = subst (λ t. IsStringItem t more item) c.waiting_text-text.ensures c.in-Item.ensures in
    let bytes = bytes_within c.waiting_text-text.result.now u more item c.waiting_text-text.ensures is in
    let made : event_from c.string_meaning-meaning.result ≡ Some (string_event item.manner item.kind (is.head ++ is.bytes)) =
    cc (c.string_meaning-meaning.ensures, bytes) in
    emits_refused g.S.EventSink.takes c.args.self.now _ c.args.sink.now _ more _ c.from_residual.ensures.0
    (string_refused c.args.self.now.reading u more item is c.requires.reads
    (subst (λ found. IfSome found NeedsMemory) made c.in_err-emit_meaning-in-Item.ensures.refused))
    refl c.in_err-emit_meaning-in-Item.ensures.refused_same
