-- How kitty's keyboard protocol writes keys: by a letter, by a number and a tilde, or by a number and the letter u. From the table
-- of functional keys of the protocol ("Comprehensive keyboard handling in terminals", "Functional key definitions").
use Rattle.std.specs.Prelude.{ℕ, Bool, true, false, ◌+◌, ◌==◌, ◌&&◌, ◌||◌, List, [], ◌∷◌, nat_le, Option, Some, None, option_map, unwrap_or, if◌then◌else◌}
use Rattle.termwiz_keys.specs.declared.types.KeyCode.{KeyCode}
use Rattle.termwiz_keys.specs.declared.types.KeyCode.TheVariants.{Char, Function, Tab, Enter, Escape, Backspace, UpArrow, DownArrow, RightArrow, LeftArrow, KeyPadBegin, End, Home, Insert, Delete, PageUp, PageDown, CapsLock, ScrollLock, NumLock, PrintScreen, Pause, Applications, Numpad0, Numpad1, Numpad2, Numpad3, Numpad4, Numpad5, Numpad6, Numpad7, Numpad8, Numpad9, Decimal, Divide, Multiply, Subtract, Add, Separator, KeyPadPageUp, KeyPadPageDown, KeyPadHome, KeyPadEnd, MediaPlayPause, MediaStop, MediaNextTrack, MediaPrevTrack, VolumeDown, VolumeUp, VolumeMute, LeftShift, LeftControl, LeftAlt, LeftWindows, RightShift, RightControl, RightAlt, RightWindows}
use Rattle.termwiz_extended_events.specs.declared.types.ReportedKey.{ReportedKey}
use Rattle.termwiz_extended_events.specs.declared.types.ReportedKey.TheVariants.{Named, Functional}
use Rattle.termwiz_extended_events.specs.ReportedKeys.{entry_at, is_functional, no_key, key_of, functional_key}
use Rattle.termwiz_kitty.specs.declared.key_forms.KeyForm.{KeyForm}
use Rattle.termwiz_kitty.specs.declared.key_forms.KeyForm.TheVariants.{Letter, Number, Code}

-- the function keys up to F12
abbrev pub function_forms : List (ℕ × KeyForm)
function_forms =
    (1, Letter 80) ∷ (2, Letter 81) ∷ (3, Number 13) ∷ (4, Letter 83) ∷ (5, Number 15) ∷ (6, Number 17) ∷ (7, Number 18)
    ∷ (8, Number 19) ∷ (9, Number 20) ∷ (10, Number 21) ∷ (11, Number 23) ∷ (12, Number 24) ∷ []

-- a function key: F13 to F35 have the numbers from 57376 on
abbrev pub function_form : ℕ → Option KeyForm
function_form n = if nat_le 13 n && nat_le n 35 then Some (Code (57363 + n)) else entry_at function_forms n

-- a key that has a name or types a character
unfoldable pub named_form : KeyCode → Option KeyForm
named_form (Char c) = Some (Code c)
named_form (Function n) = function_form n
named_form Tab = Some (Code 9)
named_form Enter = Some (Code 13)
named_form Escape = Some (Code 27)
named_form Backspace = Some (Code 127)
named_form UpArrow = Some (Letter 65)
named_form DownArrow = Some (Letter 66)
named_form RightArrow = Some (Letter 67)
named_form LeftArrow = Some (Letter 68)
named_form KeyPadBegin = Some (Letter 69)
named_form End = Some (Letter 70)
named_form Home = Some (Letter 72)
named_form Insert = Some (Number 2)
named_form Delete = Some (Number 3)
named_form PageUp = Some (Number 5)
named_form PageDown = Some (Number 6)
named_form CapsLock = Some (Code 57358)
named_form ScrollLock = Some (Code 57359)
named_form NumLock = Some (Code 57360)
named_form PrintScreen = Some (Code 57361)
named_form Pause = Some (Code 57362)
named_form Applications = Some (Code 57363)
named_form Numpad0 = Some (Code 57399)
named_form Numpad1 = Some (Code 57400)
named_form Numpad2 = Some (Code 57401)
named_form Numpad3 = Some (Code 57402)
named_form Numpad4 = Some (Code 57403)
named_form Numpad5 = Some (Code 57404)
named_form Numpad6 = Some (Code 57405)
named_form Numpad7 = Some (Code 57406)
named_form Numpad8 = Some (Code 57407)
named_form Numpad9 = Some (Code 57408)
named_form Decimal = Some (Code 57409)
named_form Divide = Some (Code 57410)
named_form Multiply = Some (Code 57411)
named_form Subtract = Some (Code 57412)
named_form Add = Some (Code 57413)
named_form Separator = Some (Code 57416)
named_form KeyPadPageUp = Some (Code 57421)
named_form KeyPadPageDown = Some (Code 57422)
named_form KeyPadHome = Some (Code 57423)
named_form KeyPadEnd = Some (Code 57424)
named_form MediaPlayPause = Some (Code 57430)
named_form MediaStop = Some (Code 57432)
named_form MediaNextTrack = Some (Code 57435)
named_form MediaPrevTrack = Some (Code 57436)
named_form VolumeDown = Some (Code 57438)
named_form VolumeUp = Some (Code 57439)
named_form VolumeMute = Some (Code 57440)
named_form LeftShift = Some (Code 57441)
named_form LeftControl = Some (Code 57442)
named_form LeftAlt = Some (Code 57443)
named_form LeftWindows = Some (Code 57444)
named_form RightShift = Some (Code 57447)
named_form RightControl = Some (Code 57448)
named_form RightAlt = Some (Code 57449)
named_form RightWindows = Some (Code 57450)
named_form key = None

-- the number of a functional key, or that of a text that no key typed
abbrev pub has_number : ℕ → Bool
has_number n = (n == no_key) || is_functional n

-- the form of a key, if the protocol has one
abbrev pub form_of : ReportedKey → Option KeyForm
form_of (Named key) = named_form key
form_of (Functional n) = if has_number n then Some (Code n) else None

-- the key that the number of a key is read as: Char of 27 is Escape, that of 0 is no key, and Functional of 57358 is CapsLock
unfoldable pub normal_key : ReportedKey → ReportedKey
normal_key (Named (Char c)) = key_of c
normal_key (Functional n) = functional_key n
normal_key key = key

-- the key types a character, or has its number
abbrev pub is_character : ReportedKey → Bool
is_character (Named (Char c)) = true
is_character key = false

-- the keys of the keypad by their numbers, each with its main key, which types or does the same
abbrev pub main_keys : List (ℕ × KeyCode)
main_keys =
    (57399, Char 48) ∷ (57400, Char 49) ∷ (57401, Char 50) ∷ (57402, Char 51) ∷ (57403, Char 52) ∷ (57404, Char 53)
    ∷ (57405, Char 54) ∷ (57406, Char 55) ∷ (57407, Char 56) ∷ (57408, Char 57) ∷ (57409, Char 46) ∷ (57410, Char 47)
    ∷ (57411, Char 42) ∷ (57412, Char 45) ∷ (57413, Char 43) ∷ (57414, Enter) ∷ (57415, Char 61) ∷ (57416, Char 44)
    ∷ (57417, LeftArrow) ∷ (57418, RightArrow) ∷ (57419, UpArrow) ∷ (57420, DownArrow) ∷ (57421, PageUp) ∷ (57422, PageDown)
    ∷ (57423, Home) ∷ (57424, End) ∷ (57425, Insert) ∷ (57426, Delete) ∷ (57427, KeyPadBegin) ∷ []

-- the main key of a key that has this form
abbrev pub main_of : ReportedKey → Option KeyForm → ReportedKey
main_of key (Some (Code n)) = unwrap_or (option_map Named (entry_at main_keys n)) key
main_of key form = key

-- the main key of a key of the keypad; any other key is its own
unfoldable pub main_key : ReportedKey → ReportedKey
main_key key = if is_character key then key else main_of key (form_of key)
