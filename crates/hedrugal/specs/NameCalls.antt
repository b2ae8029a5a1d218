-- The names of keys, as C reads and prints them.
use Rattle.std.specs.Prelude.{◌≡◌, ◌⊎◌, ℕ, List, [], ◌∷◌, ◌++◌, length, Ok, Err, Option, Some, None, encode_utf8}
use Rattle.std.specs.Str.{IsUtf8, IsValidUpTo}
use Rattle.termwiz_bindings.specs.declared.names.ReadError.{ReadError}
use Rattle.termwiz_bindings.specs.declared.names.ReadErrorKind.{ReadErrorKind}
use Rattle.termwiz_bindings.specs.declared.names.ReadErrorKind.TheVariants.{ControlCharacter, ModifierTwice, UnknownModifier, MissingKey, BadNumber, UnknownName, Ambiguous, NotAKey, ShiftedCharacter, TooLong, Empty}
use Rattle.termwiz_bindings.specs.declared.press.KeyPress.{KeyPress}
use Rattle.termwiz_bindings.specs.ChordNames.{printed_chord, read}
use Rattle.termwiz_bindings.specs.Presses.{text_of_press}
use Rattle.hedrugal.specs.declared.press_calls.CKeyPress.{CKeyPress}
use Rattle.hedrugal.specs.Calls.{copied}
use Rattle.hedrugal.specs.Chords.{AreOfChord, AreOfPress, with_presses}

-- the number of what is wrong with a name
unfoldable pub error_number : ReadErrorKind → ℕ
error_number ControlCharacter = 20
error_number ModifierTwice = 21
error_number UnknownModifier = 22
error_number MissingKey = 23
error_number BadNumber = 24
error_number UnknownName = 25
error_number Ambiguous = 26
error_number NotAKey = 27
error_number ShiftedCharacter = 28
error_number TooLong = 29
error_number Empty = 30

-- the text is the name of this chord
abbrev pub HasChord : List ℕ → List KeyPress → Type 0
HasChord text ps = IsUtf8 text × (read text ≡ Ok ps)

-- the text is the name of a chord: `keys` has as many of its presses as it has room for, and `count` is how many they are
abbrev pub ReadKeys : List ℕ → List CKeyPress → List CKeyPress → ℕ → Type 0
ReadKeys text before after count =
    (ps : List KeyPress) × HasChord text ps × (count ≡ length ps) × (after ≡ with_presses ps before)

-- the text is the name of no chord, for this reason, and the wrong part starts at this byte
abbrev pub IsWrong : List ℕ → ℕ → ℕ → Type 0
IsWrong text number at =
    (e : ReadError) × IsUtf8 text × (read text ≡ Err e) × (number ≡ error_number e.kind) × (at ≡ e.at)

-- The text is the name of no chord: this status says why, and the wrong part starts at this byte. That the text isn't UTF-8 is 9.
abbrev pub IsNoName : List ℕ → ℕ → ℕ → Type 0
IsNoName text status at = ((status ≡ 9) × (¬ IsUtf8 text) × IsValidUpTo text at) ⊎ IsWrong text status at

-- the numbers are those of a chord: `out` has as much of its name as it has room for, and `len` is the length of the name
abbrev pub PrintedKeys : List CKeyPress → List ℕ → List ℕ → ℕ → Type 0
PrintedKeys keys before after len =
    (ps : List KeyPress) × AreOfChord keys ps × (len ≡ length (printed_chord ps))
    × (after ≡ copied (printed_chord ps) before)

-- the numbers are those of no chord
abbrev pub AreOfNoChord : List CKeyPress → Type 0
AreOfNoChord keys = (ps : List KeyPress) → ¬ AreOfChord keys ps

-- the same of a press, with a final zero byte
abbrev pub PrintedPress : CKeyPress → List ℕ → List ℕ → ℕ → Type 0
PrintedPress press before after len =
    (ps : List KeyPress) × AreOfChord (press ∷ []) ps × (len ≡ length (printed_chord ps))
    × (after ≡ copied (printed_chord ps ++ 0 ∷ []) before)

-- `out` has this character in UTF-8 and a final zero byte, as much of both as it has room for, and `len` is how many bytes it has; or nothing
abbrev pub WroteCharacter : Option ℕ → List ℕ → List ℕ → ℕ → Type 0
WroteCharacter (Some character) before after len = (len ≡ length (encode_utf8 character)) × (after ≡ copied (encode_utf8 character ++ 0 ∷ []) before)
WroteCharacter None before after len = (len ≡ 0) × (after ≡ before)

-- so it has what the press types that has these numbers
abbrev pub WroteText : CKeyPress → List ℕ → List ℕ → ℕ → Type 0
WroteText press before after len = (p : KeyPress) → AreOfPress press p → WroteCharacter (text_of_press p) before after len

-- the numbers are those of no press
abbrev pub AreOfNoPress : CKeyPress → Type 0
AreOfNoPress numbers = (p : KeyPress) → ¬ AreOfPress numbers p
