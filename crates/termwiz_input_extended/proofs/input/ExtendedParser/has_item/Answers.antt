use Rattle.std.proofs.Common.{◌≡◌, Bool, List, ℕ, ◌∷◌, [], take, refl, ap, subst}
use Rattle.termwiz_grammar.specs.Grammar as port
use Rattle.termwiz_extended_events.specs.declared.types.Event.{Event}
use Rattle.termwiz_extended_events.specs.declared.types.Reading.{Reading}
use Rattle.termwiz_extended_events.specs.declared.types.StringKind.{StringKind}
use Rattle.termwiz_extended_grammar.specs.ExtendedGrammar.{HasItem, IsRest, Steps}
use Rattle.termwiz_extended_grammar.specs.Readings.{event_in}
use Rattle.termwiz_input_extended.specs.declared.next_item.NextItem.{NextItem}
use Rattle.termwiz_input_extended.specs.declared.next_item.NextItem.TheVariants.{Control, Form, AltForm, String, MouseReport, Escape, AltEscape, Paste, Usual, Incomplete}
use Rattle.termwiz_extended_grammar.specs.Strings.{IsOpenString}
use Rattle.termwiz_extended_grammar.proofs.lemmas.items.ExtendedRests.{string_rests}
use Rattle.termwiz_input_extended.specs.Buffered.{Buffered}
use Rattle.termwiz_input_extended.specs.NextItems.{IsNextItem, IsExtraAt, IsPortsOwn}
use Rattle.termwiz_input_extended.specs.StringAnswers.{IsStringItem}
use Rattle.termwiz_input_extended.proofs.lemmas.fronts.EmittedItems.{alt_has_item}
use Rattle.termwiz_input_extended.proofs.lemmas.fronts.FrontItems.{escape_step, extra_step, own_has_item, own_rest}
use Rattle.termwiz_input_extended.proofs.lemmas.fronts.KnownFronts.{mouse_report_step, own_start}
use Rattle.termwiz_input_extended.proofs.lemmas.fronts.ToldByFront.{key_step}
use Rattle.termwiz_input_extended.proofs.lemmas.fronts.ControlFirst.{control_own}
use Rattle.termwiz_input_extended.proofs.lemmas.fronts.StringSteps.{opening_scanned, string_step}
use Rattle.termwiz_input_extended.proofs.input.ExtendedParser.has_item.Goals as goal

-- what one step consumes is an item
stepped : (reading : Reading) (u left : List ℕ) (more : Bool) (event : Event) → Steps reading u more (event ∷ []) left → HasItem reading u more
stepped reading u left more event (rest, stands, same) = (rest, event, stands)

found_item : (reading : Reading) (u : List ℕ) (more : Bool) (found : NextItem) → IsNextItem reading u more found
    → (found ≡ Paste → ⊥) → (found ≡ Usual → ⊥) → ((len : ℕ) → found ≡ Form len → ⊥) → ((byte : ℕ) → found ≡ Control byte → ⊥)
    → ((place : ℕ) → found ≡ Incomplete place → ⊥) → ((kind : StringKind) (len : ℕ) → found ≡ String kind len → ⊥)
    → HasItem reading u more
found_item reading u more (Control byte) is p o f b n s = absurd (b byte refl)
found_item reading u more (Form len) is p o f b n s = absurd (f len refl)
found_item reading u more (AltForm len) is p o f b n s = alt_has_item reading u is.0 len more is.1 is.2
found_item reading u more (String kind len) is p o f b n s = absurd (s kind len refl)
found_item reading u more (MouseReport len event) is p o f b n s = stepped reading u _ more _ (mouse_report_step reading u event len more is.0 is.1)
found_item reading u more Escape is p o f b n s = stepped reading u _ more _ (escape_step reading u is.0 more is.1 is.2)
found_item reading u more AltEscape is p o f b n s = stepped reading u _ more _ (key_step reading u _ 2 more is.0 is.1)
found_item reading u more Paste is p o f b n s = absurd (p refl)
found_item reading u more Usual is p o f b n s = absurd (o refl)
found_item reading u more (Incomplete place) is p o f b n s = absurd (n place refl)

-- an item of the port is one where the text is the port's own, and its rest a rest
module _ (reading : Reading) (u v : List ℕ) (more : Bool) (text : v ≡ u) (own : IsPortsOwn reading u more) where
  found_by_port : port.HasItem v more → HasItem reading u more
  found_by_port item = own_has_item reading u more own (subst (λ t. port.HasItem t more) text item)

  rest_by_port : port.IsRest v more → IsRest reading u more
  rest_by_port rest = own_rest reading u more own (subst (λ t. port.IsRest t more) text rest)

pub returns-in_default : goal.returns-in_default
returns-in_default c = record {
  some = λ t. found_item c.args.self.now.reading c.args.self.now.text c.args.maybe_more c.next_item.result c.next_item.ensures c.in_default.not-Paste
      c.in_default.not-Usual c.in_default.not-Form c.in_default.not-Control c.in_default.not-Incomplete
      c.in_default.not-String;
  none = λ e. absurd (cc (e));
}

pub returns-in-Form-clause-some : goal.returns-in-Form-clause-some
returns-in-Form-clause-some c = λ t.
    let reading = ap (λ (b : Buffered). b.reading) c.self.view_is in
    let u = c.args.self.now.text in
    let is = subst (λ r. IsExtraAt r u c.in-Form.len) reading
    (subst (λ t. IsExtraAt c.self.inside.reading t c.in-Form.len) c.waiting_text-text.ensures (c.is_extra_at.ensures.some c.if-is_extra_at.true)) in
    stepped c.args.self.now.reading u _ c.args.maybe_more _
    (extra_step c.args.self.now.reading u c.in-Form.len (event_in c.args.self.now.reading (take c.in-Form.len u)) c.args.maybe_more is.1 (event_in c.args.self.now.reading (take c.in-Form.len u)) refl)

pub returns-in-Form-2-clause-some : goal.returns-in-Form-2-clause-some
returns-in-Form-2-clause-some c = λ t.
    found_by_port c.args.self.now.reading c.args.self.now.text _ c.args.maybe_more (ap (λ (b : Buffered). b.text) c.self.view_is)
    (subst (λ r. IsPortsOwn r c.args.self.now.text c.args.maybe_more) (ap (λ (b : Buffered). b.reading) c.self.view_is)
    (subst (λ x. IsPortsOwn c.self.inside.reading x c.args.maybe_more) c.waiting_text-text.ensures
    (c.is_extra_at.ensures.none c.if-is_extra_at.false c.args.maybe_more))) (c.has_item.ensures.some t)

pub returns-in-Form-2-clause-none : goal.returns-in-Form-2-clause-none
returns-in-Form-2-clause-none c = λ e.
    rest_by_port c.args.self.now.reading c.args.self.now.text _ c.args.maybe_more (ap (λ (b : Buffered). b.text) c.self.view_is)
    (subst (λ r. IsPortsOwn r c.args.self.now.text c.args.maybe_more) (ap (λ (b : Buffered). b.reading) c.self.view_is)
    (subst (λ x. IsPortsOwn c.self.inside.reading x c.args.maybe_more) c.waiting_text-text.ensures
    (c.is_extra_at.ensures.none c.if-is_extra_at.false c.args.maybe_more))) (c.has_item.ensures.none e)

pub returns-in-Paste-clause-some : goal.returns-in-Paste-clause-some
returns-in-Paste-clause-some c = λ t.
    found_by_port c.args.self.now.reading c.args.self.now.text _ c.args.maybe_more (ap (λ (b : Buffered). b.text) c.self.view_is)
    (own_start c.args.self.now.reading c.args.self.now.text c.args.maybe_more c.in-Paste.ensures) (c.has_item-in-Paste.ensures.some t)

pub returns-in-Paste-clause-none : goal.returns-in-Paste-clause-none
returns-in-Paste-clause-none c = λ e.
    rest_by_port c.args.self.now.reading c.args.self.now.text _ c.args.maybe_more (ap (λ (b : Buffered). b.text) c.self.view_is)
    (own_start c.args.self.now.reading c.args.self.now.text c.args.maybe_more c.in-Paste.ensures) (c.has_item-in-Paste.ensures.none e)

pub returns-in-Usual-clause-some : goal.returns-in-Usual-clause-some
returns-in-Usual-clause-some c = λ t.
    found_by_port c.args.self.now.reading c.args.self.now.text _ c.args.maybe_more (ap (λ (b : Buffered). b.text) c.self.view_is)
    c.in-Usual.ensures (c.has_item-in-Usual.ensures.some t)

pub returns-in-Usual-clause-none : goal.returns-in-Usual-clause-none
returns-in-Usual-clause-none c = λ e.
    rest_by_port c.args.self.now.reading c.args.self.now.text _ c.args.maybe_more (ap (λ (b : Buffered). b.text) c.self.view_is)
    c.in-Usual.ensures (c.has_item-in-Usual.ensures.none e)

pub returns-in-Control-clause-some : goal.returns-in-Control-clause-some
returns-in-Control-clause-some c = λ t.
    found_by_port c.args.self.now.reading c.args.self.now.text _ c.args.maybe_more (ap (λ (b : Buffered). b.text) c.self.view_is)
    (control_own c.args.self.now.reading c.args.self.now.text c.args.maybe_more c.in-Control.field-0 c.in-Control.ensures.1.0
    c.in-Control.ensures.1.1 c.in-Control.ensures.1.2) (c.has_item-in-Control.ensures.some t)

pub returns-in-Control-clause-none : goal.returns-in-Control-clause-none
returns-in-Control-clause-none c = λ e.
    rest_by_port c.args.self.now.reading c.args.self.now.text _ c.args.maybe_more (ap (λ (b : Buffered). b.text) c.self.view_is)
    (control_own c.args.self.now.reading c.args.self.now.text c.args.maybe_more c.in-Control.field-0 c.in-Control.ensures.1.0
    c.in-Control.ensures.1.1 c.in-Control.ensures.1.2) (c.has_item-in-Control.ensures.none e)

pub string_at-requires-clause-scanned : goal.string_at-requires-clause-scanned
string_at-requires-clause-scanned c =
    opening_scanned _ c.args.self.now.text c.self.inside.parser c.in-String.kind c.in-String.opening _ c.waiting_text-text.ensures
    (ap (λ (b : Buffered). b.text) c.self.view_is) c.in-String.ensures.1 c.self.invariant

pub returns-in-Item-clause-some : goal.returns-in-Item-clause-some
returns-in-Item-clause-some c = λ t.
    let u = c.args.self.now.text in
    let more = c.args.maybe_more in
    stepped c.args.self.now.reading u _ more _ (string_step c.args.self.now.reading u more c.in-Item.field-0
    (subst (λ x. IsStringItem x more c.in-Item.field-0) c.waiting_text-text.ensures c.in-Item.ensures) c.in-String.ensures.0 _ refl)

pub returns-in-Open-clause-none : goal.returns-in-Open-clause-none
returns-in-Open-clause-none c = λ e.
    let found = c.in-Open.ensures in
    string_rests c.args.self.now.reading c.args.self.now.text c.args.maybe_more c.in-String.ensures.0
    (subst IsOpenString c.waiting_text-text.ensures found.0) found.1
