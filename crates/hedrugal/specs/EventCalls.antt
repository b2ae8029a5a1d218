-- Which event the numbers and the bytes of one stand for, and what it is written as; and what a terminal replies.
use Rattle.std.specs.Prelude.{◌≡◌, ℕ, List, length, Option, Some, unwrap_or}
use Rattle.termwiz_extended_events.specs.declared.types.Event.{Event}
use Rattle.termwiz_extended_events.specs.declared.types.Event.TheVariants.{Key, Mouse, Paste, FocusGained, FocusLost, CursorPosition, Resized, KeyboardFlags, Csi, Osc, Dcs, Apc, StringPart, StringCut}
use Rattle.termwiz_extended_events.specs.declared.types.Reading.{Reading}
use Rattle.termwiz_senders.specs.EventTexts.{IsEventText, IsRefused, IsTooLong}
use Rattle.termwiz_extended_events.specs.declared.types.MouseReport.{MouseReport}
use Rattle.hedrugal.specs.declared.events.CEvent.{CEvent}
use Rattle.hedrugal.specs.declared.parser_and_text.ParserAndText.{ParserAndText}
use Rattle.hedrugal.specs.Calls.{copied}
use Rattle.hedrugal.specs.Events.{kind_number, mouse_kind_number, string_kind_number}
use Rattle.hedrugal.specs.KittyCalls.{StandForReport}
use Rattle.hedrugal.specs.ReadingCalls.{HasReading}
use Rattle.hedrugal.specs.SenderCalls.{modifiers_in}

-- the numbers are those of this mouse report
abbrev pub TellsMouse : CEvent → MouseReport → Type 0
TellsMouse n m = (mouse_kind_number m.kind ≡ n.mouse_kind) × (unwrap_or m.button 0 ≡ n.button) × (m.buttons.0 ≡ n.buttons)
    × (modifiers_in n.modifiers ≡ Some m.modifiers) × (m.x ≡ n.x) × (m.y ≡ n.y)

-- the numbers and the bytes are those of this event, as far as its kind has a use for them
abbrev pub Tells : CEvent → List ℕ → Event → Type 0
Tells n bytes (Key report) = StandForReport n report × (report.text ≡ bytes)
Tells n bytes (Mouse report) = TellsMouse n report
Tells n bytes (Paste text) = text ≡ bytes
Tells n bytes FocusGained = Unit {0}
Tells n bytes FocusLost = Unit {0}
Tells n bytes (CursorPosition row column) = (row ≡ n.row) × (column ≡ n.column)
Tells n bytes (Resized rows columns height width) =
    (rows ≡ n.rows) × (columns ≡ n.columns) × (height ≡ n.height) × (width ≡ n.width)
Tells n bytes (KeyboardFlags flags) = flags ≡ n.flags
Tells n bytes (Csi t) = t ≡ bytes
Tells n bytes (Osc t) = t ≡ bytes
Tells n bytes (Dcs t) = t ≡ bytes
Tells n bytes (Apc t) = t ≡ bytes
Tells n bytes (StringPart kind t) = (string_kind_number kind ≡ n.string_kind) × (t ≡ bytes)
Tells n bytes (StringCut kind t) = (string_kind_number kind ≡ n.string_kind) × (t ≡ bytes)

-- the numbers and the bytes stand for this event
abbrev pub StandForEvent : CEvent → List ℕ → Event → Type 0
StandForEvent n bytes event = (n.kind ≡ kind_number event) × Tells n bytes event

-- what is asked for: an event, and the reading of a parser
pub record IsAskedFor (n : CEvent) (bytes : List ℕ) (held : Option ParserAndText) (event : Event) (reading : Reading)
    : Type 0 where
  pub event_is : StandForEvent n bytes event
  pub reading_is : HasReading held reading

-- the event is written so: `out` has as much of the bytes as it has room for, and `len` is how many they are
abbrev pub WroteEvent : CEvent → List ℕ → Option ParserAndText → List ℕ → List ℕ → ℕ → Type 0
WroteEvent n bytes held before after len =
    (event : Event) × (reading : Reading) × (sent : List ℕ) × IsAskedFor n bytes held event reading
    × IsEventText reading event sent × (len ≡ length sent) × (after ≡ copied sent before)

-- no bytes are read as the event
abbrev pub HasNoText : CEvent → List ℕ → Option ParserAndText → Type 0
HasNoText n bytes held = (event : Event) × (reading : Reading) × IsAskedFor n bytes held event reading
    × IsRefused reading event

-- the event would be longer than a sequence or a string may be
abbrev pub HasLongText : CEvent → List ℕ → Option ParserAndText → Type 0
HasLongText n bytes held = (event : Event) × (reading : Reading) × IsAskedFor n bytes held event reading × IsTooLong event
    × IsRefused reading event

-- a number stands for nothing
abbrev pub IsBadEvent : CEvent → List ℕ → Type 0
IsBadEvent n bytes = (event : Event) → ¬ StandForEvent n bytes event

-- `out` has as much of these bytes as it has room for, and `len` is how many they are
abbrev pub Wrote : List ℕ → List ℕ → List ℕ → ℕ → Type 0
Wrote sent before after len = (len ≡ length sent) × (after ≡ copied sent before)
