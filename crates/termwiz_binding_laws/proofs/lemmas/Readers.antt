-- Who reads a text: the extended parser with its first settings, or the parser of the port.
use Rattle.std.proofs.Common.{◌≡◌, ℕ, Bool, false, List, [], ◌∷◌, Some, refl}
use Rattle.termwiz_keys.specs.declared.types.KeyCode.{KeyCode}
use Rattle.termwiz_keys.specs.declared.types.KeyEvent.{KeyEvent}
use Rattle.termwiz_keys.specs.declared.types.InputEvent.TheVariants as input
use Rattle.termwiz_keys.specs.declared.encode.KeyCodeEncodeModes.{KeyCodeEncodeModes}
use Rattle.termwiz_grammar.specs.Grammar as port
use Rattle.termwiz_extended_events.specs.declared.types.Dialect.{Dialect}
use Rattle.termwiz_extended_events.specs.declared.types.Dialect.TheVariants.{Extended, Termwiz}
use Rattle.termwiz_extended_events.specs.declared.types.Reading.{Reading}
use Rattle.termwiz_extended_events.specs.PortEvents.{pressed_key}
use Rattle.termwiz_extended_grammar.specs.Readings.{is_asking}
use Rattle.termwiz_bindings.specs.declared.press.KeyPress.{KeyPress}
use Rattle.termwiz_bindings.specs.Presses.{canonical}
use Rattle.termwiz_binding_laws.specs.EncodedPresses.{HasFirstSettings, press_of_key, IsReadAsPress, IsReadByPort, is_unknown_to_port}
use Rattle.termwiz_binding_laws.proofs.lemmas.EveryReading.{IsToldAlike, read_anywhere}

pub data Reader : Type 0 where
  extended : (reading : Reading) → HasFirstSettings reading → Reader
  of_port : Reader

-- it reads the text as one key, of this press
abbrev pub IsReadBy : Reader → List ℕ → KeyPress → Type 0
IsReadBy (extended reading first) text p = IsReadAsPress reading text p
IsReadBy of_port text p = IsReadByPort text p

-- the grammar by which it reads, and whether it asked for the cursor's position: the port knows nothing of that
abbrev pub dialect_of : Reader → Dialect
dialect_of (extended reading first) = Extended
dialect_of of_port = Termwiz

abbrev pub is_asking_reader : Reader → Bool
is_asking_reader (extended reading first) = is_asking reading
is_asking_reader of_port = false

abbrev pub IsKeyReadBy : Reader → List ℕ → KeyEvent → Type 0
IsKeyReadBy reader text k = (p : KeyPress) × (press_of_key k ≡ Some p) × IsReadBy reader text p

-- it knows the texts of the key
abbrev pub Knows : Reader → KeyCode → ℕ → KeyCodeEncodeModes → Type 0
Knows (extended reading first) key held modes = Unit {0}
Knows of_port key held modes = is_unknown_to_port key held modes ≡ false

pub read_by_port : (text : List ℕ) (k : KeyEvent) (p : KeyPress) → port.Means text false (input.Key k ∷ []) []
    → canonical (pressed_key k) ≡ Some p → IsReadByPort text p
read_by_port text k p means is = (k, means, is)

pub read_by : (reader : Reader) (text : List ℕ) (k : KeyEvent) (p : KeyPress) → port.Means text false (input.Key k ∷ []) []
    → IsToldAlike (dialect_of reader) (is_asking_reader reader) text k p → IsReadBy reader text p
read_by (extended reading first) text k p means alike = read_anywhere reading text k p first means alike
read_by of_port text k p means alike = read_by_port text k p means (alike.as_key refl)
