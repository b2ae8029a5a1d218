-- What is proved first of the keys of the port's encoder.
use Rattle.std.specs.Prelude.{◌≡◌, ◌≢◌, ℕ, true, false, ◌&&◌, List, [], ◌∷◌, Some, Contains}
use Rattle.termwiz_keys.specs.declared.types.KeyCode.{KeyCode}
use Rattle.termwiz_keys.specs.declared.types.KeyCode.TheVariants.{Char, Enter}
use Rattle.termwiz_keys.specs.declared.types.KeyEvent.{KeyEvent}
use Rattle.termwiz_keys.specs.declared.encode.KeyCodeEncodeModes.{KeyCodeEncodeModes}
use Rattle.termwiz_keys.specs.Encoding.{enc}
use Rattle.termwiz_keys.specs.Keys.{NONE, key_with}
use Rattle.termwiz_extended_events.specs.declared.types.Event.TheVariants.{Key}
use Rattle.termwiz_extended_events.specs.declared.types.Reading.{Reading}
use Rattle.termwiz_extended_events.specs.PortEvents.{pressed_key}
use Rattle.termwiz_extended_grammar.specs.ExtendedGrammar.{Means}
use Rattle.termwiz_extended_grammar.specs.Readings.{is_asking}
use Rattle.termwiz_bindings.specs.declared.press.KeyPress.{KeyPress}
use Rattle.termwiz_binding_laws.specs.Twins.{only_alt, twin}
use Rattle.termwiz_binding_laws.specs.EncodedPresses.{HasFirstSettings, press_of_key, IsReadAsPress, any_of_four, is_newline, is_position}
use Rattle.termwiz_binding_laws.specs.SentPresses.{IsSentKey}

-- the text is read as one key, whose press is that of this key
abbrev pub IsReadAsKey : Reading → List ℕ → KeyEvent → Type 0
IsReadAsKey reading text k = (p : KeyPress) × (press_of_key k ≡ Some p) × IsReadAsPress reading text p

-- What a key sends is read as one key, which has the press of its twin, but for F3 with a modifier while a question is open.
abbrev pub PressesOfEncodedKeys : Type 0
PressesOfEncodedKeys = (reading : Reading) (key : KeyCode) (held : ℕ) (modes : KeyCodeEncodeModes) (text : List ℕ) → HasFirstSettings reading
    → IsSentKey key → Contains any_of_four held → is_newline key held modes ≡ false → (is_position key held && is_asking reading) ≡ false
    → enc key (record { 0 = held }) modes ≡ Some text → text ≢ []
    → IsReadAsKey reading text (twin key held modes)

-- Enter in newline mode is read as Enter, and as ctrl+j without ALT: a carriage return and a line feed.
abbrev pub NewlinesAreTwoKeys : Type 0
NewlinesAreTwoKeys = (reading : Reading) (held : ℕ) (modes : KeyCodeEncodeModes) (text : List ℕ) → HasFirstSettings reading
    → Contains any_of_four held → is_newline Enter held modes ≡ true → enc Enter (record { 0 = held }) modes ≡ Some text
    → Means reading text false (Key (pressed_key (key_with Enter (only_alt held))) ∷ Key (pressed_key (key_with (Char 10) NONE)) ∷ []) []
