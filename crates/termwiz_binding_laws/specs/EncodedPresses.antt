-- What is read of the texts of keys, as presses.
use Rattle.std.specs.Prelude.{◌≡◌, ◌≢◌, ⊤, ◌+◌, ◌≤◌, ◌==◌, ℕ, Bool, true, false, not, ◌&&◌, ◌||◌, List, [], ◌∷◌, ◌++◌, map, nat_le, Option, Some, option_and_then, Contains}
use Rattle.std.specs.Char.{IsScalar, is_control, is_ascii_digit}
use Rattle.termwiz_keys.specs.declared.types.KeyCode.{KeyCode}
use Rattle.termwiz_keys.specs.declared.types.KeyCode.TheVariants.{Char, Function, Tab, Enter, KeyPadBegin, Numpad0, Numpad1, Numpad2, Numpad3, Numpad4, Numpad5, Numpad6, Numpad7, Numpad8, Numpad9, Decimal}
use Rattle.termwiz_keys.specs.declared.types.KeyEvent.{KeyEvent}
use Rattle.termwiz_keys.specs.declared.types.InputEvent.TheVariants as input
use Rattle.termwiz_keys.specs.declared.encode.KeyCodeEncodeModes.{KeyCodeEncodeModes}
use Rattle.termwiz_keys.specs.Encoding.{enc}
use Rattle.termwiz_keys.specs.Keys.{NONE, SHIFT, CTRL}
use Rattle.termwiz_keys.specs.KeyCodes.{holds}
use Rattle.termwiz_grammar.specs.Grammar as port
use Rattle.termwiz_grammar.specs.Listed.{any_of_three}
use Rattle.termwiz_extended_events.specs.declared.types.Event.{Event}
use Rattle.termwiz_extended_events.specs.declared.types.EraseByte.TheVariants.{Delete}
use Rattle.termwiz_extended_events.specs.declared.types.NewlineByte.TheVariants.{CtrlJ}
use Rattle.termwiz_extended_events.specs.declared.types.Reading.{Reading}
use Rattle.termwiz_extended_events.specs.EventKeys.{key_of_event}
use Rattle.termwiz_extended_grammar.specs.ExtendedGrammar.{Means}
use Rattle.termwiz_extended_grammar.specs.Readings.{ReadsMore, is_asking}
use Rattle.termwiz_bindings.specs.declared.press.KeyPress.{KeyPress}
use Rattle.termwiz_bindings.specs.Presses.{canonical, event_report}
use Rattle.termwiz_binding_laws.specs.Twins.{SUPER, in_csi_u, is_on, twin, port_twin}

-- A reading by the extended grammar, where Backspace sends 127 and byte 10 is ctrl+j. So a parser begins. It may read X10 mouse reports or not, and
-- questions for the cursor's position may be open.
pub record HasFirstSettings (reading : Reading) : Type 0 where
  pub reads : ReadsMore reading
  pub erase : reading.erase ≡ Delete
  pub newline : reading.newline ≡ CtrlJ

-- the press of a key of the port
abbrev pub press_of_key : KeyEvent → Option KeyPress
press_of_key k = canonical (event_report k)

-- the press of an event, if it is a key that has one
abbrev pub press_of_event : Event → Option KeyPress
press_of_event event = option_and_then canonical (key_of_event event)

-- With no more to come, the text is one event, a key with this press, and nothing waits.
abbrev pub IsReadAsPress : Reading → List ℕ → KeyPress → Type 0
IsReadAsPress reading text p = (event : Event) × Means reading text false (event ∷ []) [] × (press_of_event event ≡ Some p)

-- the sets of SHIFT, ALT, CTRL and SUPER
abbrev pub any_of_four : List ℕ
any_of_four = any_of_three ++ map (λ held. held + SUPER) any_of_three

-- The keys that the laws on twins speak of: any but the keys of the keypad that are sent as keys of the editing block, and control characters of ASCII.
abbrev pub IsCovered : KeyCode → Type 0
IsCovered (Char c) = IsScalar c × (32 ≤ c) × (c ≢ 127)
IsCovered Numpad0 = ⊥
IsCovered Numpad1 = ⊥
IsCovered Numpad2 = ⊥
IsCovered Numpad3 = ⊥
IsCovered Numpad4 = ⊥
IsCovered Numpad5 = ⊥
IsCovered Numpad6 = ⊥
IsCovered Numpad7 = ⊥
IsCovered Numpad8 = ⊥
IsCovered Numpad9 = ⊥
IsCovered Decimal = ⊥
IsCovered key = ⊤

-- Enter in newline mode, without SHIFT and CTRL: it sends a carriage return and a line feed
abbrev pub is_newline : KeyCode → ℕ → KeyCodeEncodeModes → Bool
is_newline Enter held modes = modes.newline_mode && not (holds held SHIFT || holds held CTRL)
is_newline key held modes = false

-- F3 with a modifier: its text is also a report of the cursor's position, and is read as one while a question for it is open
abbrev pub is_position : KeyCode → ℕ → Bool
is_position (Function n) held = (n == 3) && not (held == NONE)
is_position key held = false

-- With no more to come, the parser of the port reads the text as one key, with this press.
abbrev pub IsReadByPort : List ℕ → KeyPress → Type 0
IsReadByPort text p = (k : KeyEvent) × port.Means text false (input.Key k ∷ []) [] × (press_of_key k ≡ Some p)

-- The port knows no text of the key: it is the middle key of the keypad, or a character beyond ASCII that is sent by its code.
abbrev pub is_unknown_to_port : KeyCode → ℕ → KeyCodeEncodeModes → Bool
is_unknown_to_port (Char c) held modes = nat_le 128 c && (is_on modes && not (held == NONE))
is_unknown_to_port KeyPadBegin held modes = true
is_unknown_to_port key held modes = false

-- The parser of the port reads any other key as the press of the twin that the key has there.
abbrev pub PressesByPort : Type 0
PressesByPort = (key : KeyCode) (held : ℕ) (modes : KeyCodeEncodeModes) (text : List ℕ) → IsCovered key → Contains any_of_four held
    → is_newline key held modes ≡ false → is_unknown_to_port key held modes ≡ false → enc key (record { 0 = held }) modes ≡ Some text
    → text ≢ [] → (p : KeyPress) × (press_of_key (port_twin key held modes) ≡ Some p) × IsReadByPort text p

-- A key that the laws speak of, with such modifiers, that is its own twin.
pub record IsOwnTwin (k : KeyEvent) (modes : KeyCodeEncodeModes) : Type 0 where
  pub covered : IsCovered k.key
  pub set : Contains any_of_four k.modifiers.0
  pub own : twin k.key k.modifiers.0 modes ≡ k

-- Every twin is such a key.
abbrev pub TwinsAreTheirOwn : Type 0
TwinsAreTheirOwn = (key : KeyCode) (held : ℕ) (modes : KeyCodeEncodeModes) → IsCovered key → Contains any_of_four held
    → IsOwnTwin (twin key held modes) modes

-- The text of the key is read as one key: it is no newline, and no position while a question is open.
pub record IsReadAlone (reading : Reading) (key : KeyCode) (held : ℕ) (modes : KeyCodeEncodeModes) : Type 0 where
  pub newline : is_newline key held modes ≡ false
  pub apart : (is_position key held && is_asking reading) ≡ false

-- What a key sends and what its twin sends are read as the same press, where each is read as one key.
abbrev pub TwinsReadAlike : Type 0
TwinsReadAlike = (reading : Reading) (key : KeyCode) (held : ℕ) (modes : KeyCodeEncodeModes) (text other : List ℕ) → HasFirstSettings reading
    → IsCovered key → Contains any_of_four held → IsReadAlone reading key held modes
    → IsReadAlone reading (twin key held modes).key (twin key held modes).modifiers.0 modes
    → enc key (record { 0 = held }) modes ≡ Some text
    → enc (twin key held modes).key (twin key held modes).modifiers modes ≡ Some other
    → text ≢ [] → other ≢ [] → (p : KeyPress) × IsReadAsPress reading text p × IsReadAsPress reading other p

-- keys that are sent in more than one way: Enter with 10 behind it or not, and Tab as its byte and, with ALT, by its code
abbrev pub has_more_texts : KeyCode → Bool
has_more_texts Enter = true
has_more_texts Tab = true
has_more_texts key = false

-- the code of such a character tells what SHIFT made: one beyond ASCII, but a control character, and a digit but in the form of CSI u
abbrev pub is_told_shifted : ℕ → KeyCodeEncodeModes → Bool
is_told_shifted c modes = (nat_le 128 c && not (is_control c)) || (is_ascii_digit c && not (in_csi_u modes))

-- the key is sent by its code, and SHIFT with it
abbrev pub is_shown : KeyCode → ℕ → KeyCodeEncodeModes → Bool
is_shown (Char c) held modes = is_on modes && holds held SHIFT && is_told_shifted c modes
is_shown key held modes = false

-- Without SUPER a key sends the very bytes of its twin, but where that is Enter or Tab, and where a code tells what SHIFT made.
abbrev pub TwinsSendTheSame : Type 0
TwinsSendTheSame = (key : KeyCode) (held : ℕ) (modes : KeyCodeEncodeModes) → IsCovered key → Contains any_of_three held
    → has_more_texts (twin key held modes).key ≡ false → is_shown key held modes ≡ false
    → enc (twin key held modes).key (twin key held modes).modifiers modes ≡ enc key (record { 0 = held }) modes
