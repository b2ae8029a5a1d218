-- What is at the front of a text, as far as extra sequences and strings go.
use Rattle.std.specs.Prelude.{◌≡◌, ◌⊎◌, ◌++◌, ℕ, ◌<◌, ◌≤◌, ◌-◌, Bool, true, false, List, [], ◌∷◌, length, take, slice_index, codes, Option, None, Result, Ok, IfOk, OnErr, if◌then◌else◌, unwrap_or, ◌==◌}
use Rattle.termwiz_keymap.specs.Bytes.{Begins}
use Rattle.termwiz_keys.specs.Introducers.{ESC, CSI, SS3, START}
use Rattle.termwiz_keys.specs.Keys.{escape, plain, with_alt}
use Rattle.termwiz_keys.specs.declared.types.KeyEvent.{KeyEvent}
use Rattle.termwiz_keys.specs.declared.types.MouseEvent.{MouseEvent}
use Rattle.termwiz_keys.specs.declared.types.InputEvent.{InputEvent}
use Rattle.termwiz_keys.specs.declared.types.InputEvent.TheVariants as port
use Rattle.termwiz_keys.specs.declared.types.KeyCode.{KeyCode}
use Rattle.termwiz_grammar.specs.MouseReports.{IsMouseReport}
use Rattle.termwiz_input.specs.Matches.{IsItemAt}
use Rattle.termwiz_input.specs.PasteSearch.{IsPasteSoFar}
use Rattle.termwiz_extended_events.specs.declared.types.Event.{Event}
use Rattle.termwiz_extended_events.specs.declared.types.Event.TheVariants as event
use Rattle.termwiz_extended_events.specs.MouseReports.{sgr_report}
use Rattle.termwiz_extended_events.specs.PortEvents.{decided_key, pressed_key, with_key}
use Rattle.termwiz_extended_events.specs.declared.types.Reading.{Reading}
use Rattle.termwiz_extended_events.specs.declared.types.Dialect.{Dialect}
use Rattle.termwiz_extended_events.specs.declared.types.Dialect.TheVariants.{Extended, Termwiz}
use Rattle.termwiz_extended_events.specs.Meanings.{NeedsMemory}
use Rattle.termwiz_extended_grammar.specs.Forms.{IsForm, IsUnfinishedForm}
use Rattle.termwiz_extended_grammar.specs.ExtraSequences.{IsExtra, IsBareKey}
use Rattle.termwiz_extended_grammar.specs.Readings.{ReadsMore, after_event, after_events, event_in}
use Rattle.termwiz_extended_grammar.specs.Strings.{StartsWithOpening, IsUnfinishedOpening}
use Rattle.termwiz_extended_grammar.specs.ExtendedGrammar.{HasItem, IsRest, Stands, StartsApart, Steps}
use Rattle.termwiz_extended_grammar.specs.ExtendedLaws.{HasNoExtra}
use Rattle.termwiz_input_extended.specs.declared.next_item.AfterEscape.{AfterEscape}
use Rattle.termwiz_input_extended.specs.declared.next_item.AfterEscape.TheVariants.{Joined, Apart, OfPort}
use Rattle.termwiz_input_extended.specs.declared.next_item.FormMatch.{FormMatch}
use Rattle.termwiz_input_extended.specs.declared.next_item.FormMatch.TheVariants as front
use Rattle.termwiz_input_extended.specs.declared.next_item.NextItem.{NextItem}
use Rattle.termwiz_input_extended.specs.declared.next_item.NextItem.TheVariants.{Control, Form, AltForm, String, MouseReport, Escape, AltEscape, Paste, Usual, Incomplete}
use Rattle.termwiz_input_extended.specs.Buffered.{Buffered}
use Rattle.termwiz_input_extended.specs.FormAnswers.{IsScanned, NoFormBegins}
use Rattle.termwiz_input_extended.specs.StringAnswers.{IsOpeningOf}

-- a report of the focus
abbrev pub IsFocus : List ℕ → Type 0
IsFocus text = (text ≡ CSI ++ codes "I") ⊎ (text ≡ CSI ++ codes "O")

-- ESC [, a byte from < to ?, and more
abbrev pub IsPrivate : List ℕ → Type 0
IsPrivate text = (3 < length text) × (Begins CSI text × ((60 ≤ slice_index text 2) × (slice_index text 2 ≤ 63)))

-- the text is an extra sequence
abbrev pub IsSomeExtra : Reading → List ℕ → Type 0
IsSomeExtra reading text = (event : Event) × IsExtra reading text event

-- the first so many bytes of the text are a form that is no mouse report
pub record IsPlainForm (x10_mouse : Bool) (u : List ℕ) (len : ℕ) : Type 0 where
  pub within : len ≤ length u
  pub form : IsForm x10_mouse (take len u)
  pub no_mouse : (event : MouseEvent) → ¬ IsMouseReport (take len u) event

-- no form and no opening begins a text
pub record BeginsWithNone (x10_mouse : Bool) (u : List ℕ) : Type 0 where
  pub no_form : NoFormBegins x10_mouse u
  pub no_opening : ¬ StartsWithOpening u

-- a text properly begins a form or an opening
abbrev pub IsUnfinishedFront : Bool → List ℕ → Type 0
IsUnfinishedFront x10_mouse u = IsUnfinishedForm x10_mouse u ⊎ IsUnfinishedOpening u

-- What form or opening is at the front of a text. Of an unfinished one the search goes on from a place.
abbrev pub IsFormMatch : Bool → List ℕ → FormMatch → Type 0
IsFormMatch x10_mouse u (front.Form len) = IsPlainForm x10_mouse u len
IsFormMatch x10_mouse u (front.Opening kind len) = IsOpeningOf u kind len
IsFormMatch x10_mouse u (front.MouseReport len event) = (len ≤ length u) × IsMouseReport (take len u) event
IsFormMatch x10_mouse u (front.Unfinished place) =
    BeginsWithNone x10_mouse u × IsUnfinishedFront x10_mouse u × IsScanned u place × (place ≤ length u)
IsFormMatch x10_mouse u front.Absent = BeginsWithNone x10_mouse u × (¬ IsUnfinishedFront x10_mouse u)

-- neither the text nor what follows its ESC begins with an extra sequence or an opening, or is open but to the port
pub record IsPortsOwn (reading : Reading) (u : List ℕ) (more : Bool) : Type 0 where
  pub here : HasNoExtra reading u more
  pub after : (v : List ℕ) → u ≡ ESC ++ v → HasNoExtra reading v more

-- The bytes before this place, of the text or of what follows its ESC if another ESC does, needn't be looked at again.
pub record IsScannedTo (u : List ℕ) (place : ℕ) : Type 0 where
  pub within : place ≤ length u
  pub here : (¬ Begins (ESC ++ ESC) u) → IsScanned u place
  pub after : (v : List ℕ) → u ≡ ESC ++ v → Begins ESC v → IsScanned v (place - 1)

-- The first so many bytes of the text are a form that is no mouse report, after one ESC alone.
pub record IsFormAt (reading : Reading) (u : List ℕ) (len : ℕ) : Type 0 where
  pub reads : ReadsMore reading
  pub plain : IsPlainForm reading.x10_mouse u len
  pub escape : Begins ESC u
  pub one : ¬ Begins (ESC ++ ESC) u

-- the first so many bytes of the text are an extra sequence
abbrev pub IsExtraAt : Reading → List ℕ → ℕ → Type 0
IsExtraAt reading u len = (len ≤ length u) × IsExtra reading (take len u) (event_in reading (take len u))

-- the first so many bytes of the text are a bare key
abbrev pub IsBareKeyAt : Reading → List ℕ → ℕ → Type 0
IsBareKeyAt reading u len = IsExtraAt reading u len × IsBareKey reading (take len u)

-- how a form is read after an ESC
abbrev pub IsReadAfterEscape : Reading → List ℕ → AfterEscape → Type 0
IsReadAfterEscape reading text Joined = IsSomeExtra reading text × IsBareKey reading text
IsReadAfterEscape reading text Apart = IsSomeExtra reading text × (¬ IsBareKey reading text)
IsReadAfterEscape reading text OfPort = ¬ IsSomeExtra reading text

-- the key that the reading decides at the front of a text: of its first byte, or of the one after an ESC
abbrev pub decided_at : Reading → List ℕ → Option KeyCode
decided_at reading [] = None
decided_at reading (b ∷ []) = decided_key reading b
decided_at reading (b ∷ c ∷ u) = if b == 27 then decided_key reading c else decided_key reading b

abbrev pub front_key : Dialect → Reading → List ℕ → Option KeyCode
front_key Extended reading u = decided_at reading u
front_key Termwiz reading u = None

-- the event of an event of the port, with the key that was decided in place of its own
abbrev pub told_by : Option KeyCode → InputEvent → Event
told_by decided (port.Key k) = event.Key (pressed_key (with_key k (unwrap_or decided k.key)))
told_by decided (port.Mouse report) = event.Mouse (sgr_report [] report)
told_by decided (port.Paste text) = event.Paste text
told_by decided _ = event.Csi []

-- the character at the front, of so many bytes, is an item of the port's, and no reading decides its key
pub record IsPlainCharacter (reading : Reading) (u : List ℕ) (more : Bool) (c : ℕ) (len : ℕ) : Type 0 where
  pub own : IsPortsOwn reading u more
  pub item : IsItemAt u more (port.Key (plain c)) len
  pub undecided : front_key reading.dialect reading u ≡ None

-- the text begins with ESC O, and with this key of the port's, of three bytes, whatever follows it
abbrev pub IsSs3Key : List ℕ → KeyEvent → Type 0
IsSs3Key u key = Begins SS3 u × ((more : Bool) → IsItemAt u more (port.Key key) 3)

-- a control character, but ESC, that is a row of the sequence table
abbrev pub IsControlKey : ℕ → Type 0
IsControlKey byte = ((1 ≤ byte) × (byte ≤ 26)) ⊎ (byte ≡ 127)

-- this is at the front of the text, under this flag. Of an incomplete sequence the search goes on from a place.
abbrev pub IsNextItem : Reading → List ℕ → Bool → NextItem → Type 0
IsNextItem reading u more (Control byte) = ReadsMore reading × ((rest : List ℕ) × (u ≡ byte ∷ rest) × IsControlKey byte)
IsNextItem reading u more (Form len) = IsFormAt reading u len
IsNextItem reading u more (String kind len) = ReadsMore reading × IsOpeningOf u kind len
IsNextItem reading u more (MouseReport len event) = (len ≤ length u) × IsMouseReport (take len u) event
IsNextItem reading u more (AltForm len) = (v : List ℕ) × (u ≡ ESC ++ v) × IsBareKeyAt reading v len
IsNextItem reading u more Escape = (v : List ℕ) × (u ≡ ESC ++ v) × StartsApart reading v
IsNextItem reading u more AltEscape = IsPortsOwn reading u more × IsItemAt u more (port.Key (with_alt escape)) 2 × Begins (ESC ++ ESC) u
IsNextItem reading u more Paste = Begins START u
IsNextItem reading u more Usual = IsPortsOwn reading u more
IsNextItem reading u more (Incomplete place) = IsRest reading u more × IsScannedTo u place

-- an item stands at u whose event has a text or bytes of its own
pub record HasItemThatNeedsMemory (reading : Reading) (u : List ℕ) (more : Bool) : Type 0 where
  pub left : List ℕ
  pub event : Event
  pub stands : Stands reading u more left event
  pub needs : NeedsMemory event

-- the events that a text gives, as far as they are read, need no memory
abbrev pub GivesNoneThatNeedsMemory : Reading → List ℕ → Bool → Type 0
GivesNoneThatNeedsMemory reading text more =
    (events : List Event) (rest : List ℕ) → Steps reading text more events rest
    → ¬ HasItemThatNeedsMemory (after_events reading events) rest more

-- The event of the item at the front is emitted to a sink, which `takes` it. The reading is that after the event.
pub record IsEmitted {S : Type 0} (takes : S → Event → S → Type 0) (old : Buffered) (before : S) (more : Bool) (new : Buffered) (after : S)
    : Type 0 where
  pub event : Event
  pub steps : Steps old.reading old.text more (event ∷ []) new.text
  pub reading : new.reading ≡ after_event old.reading event
  pub taken : takes before event after

-- the same of an event that needs no memory, since it has no text and no bytes of its own
abbrev pub IsEmittedWithoutMemory : {S : Type 0} → (S → Event → S → Type 0) → Buffered → S → Bool → Buffered → S → Type 0
IsEmittedWithoutMemory takes old before more new after =
    (emitted : IsEmitted takes old before more new after) × (¬ NeedsMemory emitted.event)

-- What a call answers that consumes the item at the front and emits its event to a sink: whether an item is there.
pub record Emits {S F : Type 0} (takes : S → Event → S → Type 0) (old : Buffered) (before : S) (more : Bool) (new : Buffered) (after : S)
    (result : Result Bool F) : Type 0 where
  pub emitted : result ≡ Ok true → IsEmitted takes old before more new after
  pub none : result ≡ Ok false → IsRest old.reading old.text more
  pub none_same : result ≡ Ok false → new ≡ old
  pub none_sink : result ≡ Ok false → after ≡ before
  pub refused : OnErr result (HasItemThatNeedsMemory old.reading old.text more)
  pub refused_same : OnErr result (new ≡ old)
  pub refused_sink : OnErr result (after ≡ before)

-- What a call answers that moves the event of the item at the front to a list: whether an item is there. After a refusal one is.
pub record Stores {F : Type 0} (old : Buffered) (more : Bool) (before : List Event) (new : Buffered) (after : List Event)
    (result : Result Bool F) : Type 0 where
  pub stored : (reading : Reading) (text : List ℕ) → Steps reading text more before old.text → old.reading ≡ after_events reading before
      → Steps reading text more after new.text × (new.reading ≡ after_events reading after)
  pub fewer : IfOk result (λ found. found ≡ true → length new.text < length old.text)
  pub rest : IfOk result (λ found. found ≡ false → IsRest new.reading new.text more)
  pub refused : OnErr result (HasItem new.reading new.text more)

-- the paste whose text is what an open paste has so far
abbrev pub IsPasteEvent : List ℕ → Event → Type 0
IsPasteEvent u event = (paste : InputEvent) × IsPasteSoFar u paste × (event ≡ told_by None paste)
