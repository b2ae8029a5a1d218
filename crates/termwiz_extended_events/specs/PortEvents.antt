-- What an event of the port is, as it is read: the same key, mouse report or paste, with what its bytes tell besides.
use Rattle.std.specs.Prelude.{ℕ, ◌+◌, ◌*◌, ◌==◌, ◌||◌, Bool, false, List, [], ◌∷◌, nat_le, Option, Some, None, if◌then◌else◌, option_and_then, unwrap_or}
use Rattle.termwiz_base.specs.Modifiers.{xterm_number}
use Rattle.termwiz_keys.specs.KeyCodes.{holds}
use Rattle.termwiz_keys.specs.declared.types.KeyCode.{KeyCode}
use Rattle.termwiz_keys.specs.declared.types.KeyCode.TheVariants.{Char, Enter, Backspace as BackspaceKey}
use Rattle.termwiz_keys.specs.declared.types.KeyEvent.{KeyEvent}
use Rattle.termwiz_keys.specs.declared.types.MouseEvent.{MouseEvent}
use Rattle.termwiz_keys.specs.declared.types.InputEvent.{InputEvent}
use Rattle.termwiz_keys.specs.declared.types.InputEvent.TheVariants as input
use Rattle.termwiz_extended_events.specs.declared.types.KeyReport.{KeyReport}
use Rattle.termwiz_extended_events.specs.declared.types.KeyEventKind.{KeyEventKind}
use Rattle.termwiz_extended_events.specs.declared.types.KeyEventKind.TheVariants.{Press}
use Rattle.termwiz_extended_events.specs.declared.types.MouseReport.{MouseReport}
use Rattle.termwiz_extended_events.specs.declared.types.ReportedKey.{ReportedKey}
use Rattle.termwiz_extended_events.specs.declared.types.ReportedKey.TheVariants.{Named}
use Rattle.termwiz_extended_events.specs.declared.types.Event.{Event}
use Rattle.termwiz_extended_events.specs.declared.types.Event.TheVariants.{Key, Mouse, Paste, Csi}
use Rattle.termwiz_extended_events.specs.declared.types.Dialect.{Dialect}
use Rattle.termwiz_extended_events.specs.declared.types.Dialect.TheVariants.{Extended, Termwiz}
use Rattle.termwiz_extended_events.specs.declared.types.EraseByte.{EraseByte}
use Rattle.termwiz_extended_events.specs.declared.types.EraseByte.TheVariants as erase
use Rattle.termwiz_extended_events.specs.declared.types.NewlineByte.{NewlineByte}
use Rattle.termwiz_extended_events.specs.declared.types.NewlineByte.TheVariants as newline
use Rattle.termwiz_extended_events.specs.declared.types.Reading.{Reading}
use Rattle.termwiz_extended_events.specs.KeyReports.{report_of}
use Rattle.termwiz_extended_events.specs.MouseReports.{sgr_report}

-- kitty's bits of the port's modifiers, whose bit of SUPER is 16
abbrev pub kitty_bits : ℕ → ℕ
kitty_bits held = xterm_number held + (if holds held 16 then 8 else 0)

-- a key of the port as a report: it was pressed
abbrev pub pressed_key : KeyEvent → KeyReport
pressed_key k = report_of (Named k.key) (record { modifiers = kitty_bits k.modifiers.0; kind = Press })

-- the byte that the Backspace key sends
abbrev pub erase_byte : EraseByte → ℕ
erase_byte erase.Delete = 127
erase_byte erase.Backspace = 8

-- the key of the byte 10
abbrev pub newline_key : NewlineByte → KeyCode
newline_key newline.CtrlJ = Char 10
newline_key newline.Enter = Enter

-- the key of a byte that the reading decides: of 8 and 127 one is Backspace, and 10 may be Enter. The others are the characters.
abbrev pub decided_key : Reading → ℕ → Option KeyCode
decided_key reading b =
    if (b == 8) || (b == 127) then Some (if b == erase_byte reading.erase then BackspaceKey else Char b)
    else (if b == 10 then Some (newline_key reading.newline) else None)

-- a byte that is typed alone, or after ESC
abbrev pub typed_byte : List ℕ → Option ℕ
typed_byte (b ∷ []) = Some b
typed_byte (escape ∷ b ∷ []) = if escape == 27 then Some b else None
typed_byte _ = None

-- the key that the port reads of these bytes, or what the reading decides
abbrev pub typed_key : Dialect → Reading → List ℕ → KeyCode → KeyCode
typed_key Termwiz reading bytes key = key
typed_key Extended reading bytes key = unwrap_or (option_and_then (decided_key reading) (typed_byte bytes)) key

abbrev pub with_key : KeyEvent → KeyCode → KeyEvent
with_key k key = record k { key = key }

-- The event of the port's event and its bytes. The port has no other events than these three.
abbrev pub told : Reading → List ℕ → InputEvent → Event
told reading bytes (input.Key k) = Key (pressed_key (with_key k (typed_key reading.dialect reading bytes k.key)))
told reading bytes (input.Mouse event) = Mouse (sgr_report bytes event)
told reading bytes (input.Paste text) = Paste text
told reading bytes _ = Csi []

-- the port's key of a report that tells no more than the port does: its bits of the modifiers are twice kitty's
abbrev pub port_key : ReportedKey → ℕ → Option InputEvent
port_key (Named key) modifiers =
    if nat_le modifiers 15 then Some (input.Key (record { key = key; modifiers = record { 0 = 2 * modifiers } })) else None
port_key key modifiers = None

abbrev pub port_key_of : KeyEventKind → Option ℕ → Option ℕ → List ℕ → ReportedKey → ℕ → Option InputEvent
port_key_of Press None None [] key modifiers = port_key key modifiers
port_key_of kind shifted base text key modifiers = None

-- the port's event of a mouse report, but for one of a side button
abbrev pub is_side_button : Option ℕ → Bool
is_side_button (Some button) = nat_le 8 button
is_side_button None = false

abbrev pub port_mouse : MouseReport → MouseEvent
port_mouse report = record { x = report.x; y = report.y; mouse_buttons = report.buttons; modifiers = report.modifiers }

-- The port's event of an event that has one: of a key that was pressed, with no modifiers but SHIFT, ALT, CTRL and SUPER, of which nothing
-- else is told; of a mouse report that isn't one of a side button; and of a paste.
abbrev pub port_of : Event → Option InputEvent
port_of (Key report) = port_key_of report.kind report.shifted report.base report.text report.key report.modifiers
port_of (Mouse report) = if is_side_button report.button then None else Some (input.Mouse (port_mouse report))
port_of (Paste text) = Some (input.Paste text)
port_of _ = None
