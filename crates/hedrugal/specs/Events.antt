-- Events, and how a parser reads, as C has them.
use Rattle.std.specs.Prelude.{ℕ, List, [], length, Option, Some, None, unwrap_or}
use Rattle.termwiz_extended_events.specs.declared.types.Event.{Event}
use Rattle.termwiz_extended_events.specs.declared.types.Event.TheVariants.{Key, Mouse, Paste, FocusGained, FocusLost, CursorPosition, Resized, KeyboardFlags, Csi, Osc, Dcs, Apc, StringPart, StringCut}
use Rattle.termwiz_extended_events.specs.declared.types.KeyEventKind.{KeyEventKind}
use Rattle.termwiz_extended_events.specs.declared.types.KeyEventKind.TheVariants.{Press, Repeat, Release}
use Rattle.termwiz_extended_events.specs.declared.types.KeyReport.{KeyReport}
use Rattle.termwiz_extended_events.specs.declared.types.Dialect.{Dialect}
use Rattle.termwiz_extended_events.specs.declared.types.Dialect.TheVariants.{Extended, Termwiz}
use Rattle.termwiz_extended_events.specs.declared.types.EraseByte.{EraseByte}
use Rattle.termwiz_extended_events.specs.declared.types.EraseByte.TheVariants as erase
use Rattle.termwiz_extended_events.specs.declared.types.NewlineByte.{NewlineByte}
use Rattle.termwiz_extended_events.specs.declared.types.NewlineByte.TheVariants as newline
use Rattle.termwiz_extended_events.specs.declared.types.MouseKind.{MouseKind}
use Rattle.termwiz_extended_events.specs.declared.types.MouseKind.TheVariants as mouse
use Rattle.termwiz_extended_events.specs.declared.types.MouseReport.{MouseReport}
use Rattle.termwiz_extended_events.specs.declared.types.StringKind.{StringKind}
use Rattle.termwiz_extended_events.specs.declared.types.StringKind.TheVariants as kinds
use Rattle.termwiz_base.specs.Modifiers.{xterm_number}
use Rattle.termwiz_timed.specs.declared.parser.TimedEvent.{TimedEvent}
use Rattle.termwiz_timed.specs.declared.parser.TimedEvent.TheVariants.{Whole, PastePart}
use Rattle.hedrugal.specs.declared.events.CEvent.{CEvent}
use Rattle.termwiz_bindings.specs.Numbers.{reported_number, reported_detail}

-- the number of a dialect
unfoldable pub dialect_number : Dialect → ℕ
dialect_number Extended = 0
dialect_number Termwiz = 1

-- the number of the byte that the Backspace key sends
unfoldable pub erase_number : EraseByte → ℕ
erase_number erase.Delete = 0
erase_number erase.Backspace = 1

-- the number of what byte 10 is
unfoldable pub newline_number : NewlineByte → ℕ
newline_number newline.CtrlJ = 0
newline_number newline.Enter = 1

-- the number of what happened to a key
unfoldable pub key_event_kind_number : KeyEventKind → ℕ
key_event_kind_number Press = 1
key_event_kind_number Repeat = 2
key_event_kind_number Release = 3

-- what stands for a code point that the terminal didn't report
abbrev pub no_code : ℕ
no_code = 0xffffffff

-- the number of what happened to the mouse
unfoldable pub mouse_kind_number : MouseKind → ℕ
mouse_kind_number mouse.Press = 1
mouse_kind_number mouse.Release = 2
mouse_kind_number mouse.Drag = 3
mouse_kind_number mouse.Move = 4
mouse_kind_number mouse.Wheel = 5

-- the bytes that an event brings, if its kind has bytes: the text of a paste or of a key report, and the bytes of a sequence or a string
unfoldable pub own_bytes : Event → Option (List ℕ)
own_bytes (Paste text) = Some text
own_bytes (Key report) = Some report.text
own_bytes (Csi bytes) = Some bytes
own_bytes (Osc bytes) = Some bytes
own_bytes (Dcs bytes) = Some bytes
own_bytes (Apc bytes) = Some bytes
own_bytes (StringPart kind bytes) = Some bytes
own_bytes (StringCut kind bytes) = Some bytes
own_bytes event = None

-- the same, or no bytes
abbrev pub bytes_of : Event → List ℕ
bytes_of event = unwrap_or (own_bytes event) []

-- the number of an event's kind
unfoldable pub kind_number : Event → ℕ
kind_number (Key report) = 1
kind_number (Mouse report) = 2
kind_number (Paste text) = 3
kind_number FocusGained = 5
kind_number FocusLost = 6
kind_number (CursorPosition row column) = 7
kind_number (Resized rows columns height width) = 8
kind_number (KeyboardFlags flags) = 9
kind_number (Csi bytes) = 10
kind_number (Osc bytes) = 11
kind_number (Dcs bytes) = 12
kind_number (Apc bytes) = 13
kind_number (StringPart kind bytes) = 15
kind_number (StringCut kind bytes) = 16

-- the number of a string's kind: that of the event of a whole one
unfoldable pub string_kind_number : StringKind → ℕ
string_kind_number kinds.Osc = 11
string_kind_number kinds.Dcs = 12
string_kind_number kinds.Apc = 13

-- what each kind has: its number, and how many bytes the event brings
abbrev pub bare : ℕ → List ℕ → CEvent
bare kind bytes = record {
  kind = kind;
  modifiers = 0;
  key_event_kind = 0;
  mouse_kind = 0;
  button = 0;
  buttons = 0;
  flags = 0;
  string_kind = 0;
  key = 0;
  x = 0;
  y = 0;
  row = 0;
  column = 0;
  rows = 0;
  columns = 0;
  height = 0;
  width = 0;
  detail = 0;
  shifted = 0;
  base = 0;
  text_len = length bytes;
}

-- no event: all of it is 0
abbrev pub no_event : CEvent
no_event = bare 0 []

-- what each kind has, with what a key has
abbrev pub c_key : KeyReport → CEvent → CEvent
c_key report shown = record shown {
  modifiers = report.modifiers;
  key_event_kind = key_event_kind_number report.kind;
  key = reported_number report.key;
  detail = reported_detail report.key;
  shifted = unwrap_or report.shifted no_code;
  base = unwrap_or report.base no_code;
}

-- the same with what a mouse report has. A report that names no button has 0.
abbrev pub c_mouse : MouseReport → CEvent → CEvent
c_mouse report shown = record shown {
  modifiers = xterm_number report.modifiers.0;
  mouse_kind = mouse_kind_number report.kind;
  button = unwrap_or report.button 0;
  buttons = report.buttons.0;
  x = report.x;
  y = report.y;
}

-- the same with what only some kinds have
abbrev pub with_own : Event → CEvent → CEvent
with_own (Key report) shown = c_key report shown
with_own (Mouse report) shown = c_mouse report shown
with_own (CursorPosition row column) shown = record shown { row = row; column = column }
with_own (Resized rows columns height width) shown =
    record shown { rows = rows; columns = columns; height = height; width = width }
with_own (KeyboardFlags flags) shown = record shown { flags = flags }
with_own (StringPart kind bytes) shown = record shown { string_kind = string_kind_number kind }
with_own (StringCut kind bytes) shown = record shown { string_kind = string_kind_number kind }
with_own event shown = shown

-- An event in numbers. What its kind doesn't have is 0.
unfoldable pub c_event : Event → CEvent
c_event event = with_own event (bare (kind_number event) (bytes_of event))

-- the part of a paste that has this text, in numbers: as the paste would be, but of a kind of its own
abbrev pub c_part : List ℕ → CEvent
c_part text = record (c_event (Paste text)) { kind = 14 }

-- what is told, in numbers
abbrev pub c_told : TimedEvent → CEvent
c_told (Whole event) = c_event event
c_told (PastePart text) = c_part text

-- and the bytes that it brings
abbrev pub brought : TimedEvent → List ℕ
brought (Whole event) = bytes_of event
brought (PastePart text) = text
