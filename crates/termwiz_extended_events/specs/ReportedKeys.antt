-- The keys of control sequences, by their letters and their numbers.
use Rattle.std.specs.Prelude.{ℕ, Bool, ◌-◌, ◌==◌, ◌&&◌, List, [], ◌∷◌, nat_le, Option, Some, None, if◌then◌else◌, option_map, find, unwrap_or}
use Rattle.std.specs.Option.{option_or}
use Rattle.termwiz_keys.specs.declared.types.KeyCode.{KeyCode}
use Rattle.termwiz_keys.specs.declared.types.KeyCode.TheVariants.{Char, Tab, Enter, Escape, Backspace, UpArrow, DownArrow, RightArrow, LeftArrow, Home, End, KeyPadBegin, Function, CapsLock, ScrollLock, NumLock, PrintScreen, Pause, Applications, Numpad0, Numpad1, Numpad2, Numpad3, Numpad4, Numpad5, Numpad6, Numpad7, Numpad8, Numpad9, Decimal, Divide, Multiply, Subtract, Add, Separator, KeyPadPageUp, KeyPadPageDown, KeyPadHome, KeyPadEnd, MediaPlayPause, MediaStop, MediaNextTrack, MediaPrevTrack, VolumeDown, VolumeUp, VolumeMute, LeftShift, LeftControl, LeftAlt, LeftWindows, RightShift, RightControl, RightAlt, RightWindows}
use Rattle.termwiz_keys.specs.FunctionCodes.{function_codes, high_function_codes}
use Rattle.termwiz_grammar.specs.Table.{digit_keys}
use Rattle.termwiz_extended_events.specs.declared.types.ReportedKey.{ReportedKey}
use Rattle.termwiz_extended_events.specs.declared.types.ReportedKey.TheVariants.{Named, Functional}

-- what a table has at a number
abbrev pub entry_at : {K : Type 0} → List (ℕ × K) → ℕ → Option K
entry_at table n = option_map (λ row. row.1) (find (λ row. row.0 == n) table)

-- the keys that a letter ends
abbrev pub lettered_keys : List (ℕ × KeyCode)
lettered_keys =
    (65, UpArrow) ∷ (66, DownArrow) ∷ (67, RightArrow) ∷ (68, LeftArrow) ∷ (69, KeyPadBegin) ∷ (70, End) ∷ (72, Home)
    ∷ (80, Function 1) ∷ (81, Function 2) ∷ (83, Function 4) ∷ []

-- kitty's numbers of functional keys run from here to there
abbrev pub first_functional : ℕ
first_functional = 57344

abbrev pub last_functional : ℕ
last_functional = 63743

-- the number is one of kitty's numbers of functional keys
abbrev pub is_functional : ℕ → Bool
is_functional n = nat_le first_functional n && nat_le n last_functional

-- the functional keys that have names, but F13 to F35
abbrev pub named_functional_keys : List (ℕ × KeyCode)
named_functional_keys =
    (57358, CapsLock) ∷ (57359, ScrollLock) ∷ (57360, NumLock) ∷ (57361, PrintScreen) ∷ (57362, Pause)
    ∷ (57363, Applications) ∷ (57399, Numpad0) ∷ (57400, Numpad1) ∷ (57401, Numpad2) ∷ (57402, Numpad3)
    ∷ (57403, Numpad4) ∷ (57404, Numpad5) ∷ (57405, Numpad6) ∷ (57406, Numpad7) ∷ (57407, Numpad8)
    ∷ (57408, Numpad9) ∷ (57409, Decimal) ∷ (57410, Divide) ∷ (57411, Multiply) ∷ (57412, Subtract) ∷ (57413, Add)
    ∷ (57416, Separator) ∷ (57421, KeyPadPageUp) ∷ (57422, KeyPadPageDown) ∷ (57423, KeyPadHome) ∷ (57424, KeyPadEnd)
    ∷ (57427, KeyPadBegin) ∷ (57430, MediaPlayPause) ∷ (57432, MediaStop) ∷ (57435, MediaNextTrack)
    ∷ (57436, MediaPrevTrack) ∷ (57438, VolumeDown) ∷ (57439, VolumeUp) ∷ (57440, VolumeMute) ∷ (57441, LeftShift)
    ∷ (57442, LeftControl) ∷ (57443, LeftAlt) ∷ (57444, LeftWindows) ∷ (57447, RightShift) ∷ (57448, RightControl)
    ∷ (57449, RightAlt) ∷ (57450, RightWindows) ∷ []

-- F13 to F35, whose numbers run from 57376 to 57398
abbrev pub is_high_function : ℕ → Bool
is_high_function n = nat_le 57376 n && nat_le n 57398

-- the functional key of a number
unfoldable pub functional_key : ℕ → ReportedKey
functional_key n =
    if is_high_function n then Named (Function (n - 57363))
    else unwrap_or (option_map Named (entry_at named_functional_keys n)) (Functional n)

-- the keys of control characters
abbrev pub control_keys : List (ℕ × KeyCode)
control_keys = (8, Backspace) ∷ (9, Tab) ∷ (10, Enter) ∷ (13, Enter) ∷ (27, Escape) ∷ (127, Backspace) ∷ []

-- the number of a text that no key typed
abbrev pub no_key : ℕ
no_key = 0

-- the key of a number in kitty's keyboard protocol
unfoldable pub key_of : ℕ → ReportedKey
key_of n =
    if n == no_key then Functional no_key
    else (if is_functional n then functional_key n else Named (unwrap_or (entry_at control_keys n) (Char n)))

-- the function key that codes have at a number
abbrev pub function_key : List (ℕ × ℕ) → ℕ → Option KeyCode
function_key codes n = option_map Function (entry_at codes n)

-- the key of a number that isn't functional: of the editing block, or a function key by xterm's numbers
abbrev pub numbered_key : ℕ → Option KeyCode
numbered_key n =
    option_or (option_or (entry_at digit_keys n) (function_key function_codes n)) (function_key high_function_codes n)

-- F21 to F24 by rxvt-unicode's numbers, which run from 35 to 38
abbrev pub is_rxvt_function : ℕ → Bool
is_rxvt_function n = nat_le 35 n && nat_le n 38

-- the key of a number, by these numbers too
abbrev pub key_with_number : ℕ → Option KeyCode
key_with_number n = if is_rxvt_function n then Some (Function (n - 14)) else numbered_key n

-- the key of a number with a tilde at the end
unfoldable pub tilde_key : ℕ → Option ReportedKey
tilde_key n = if is_functional n then Some (functional_key n) else option_map Named (key_with_number n)

-- the key of a number with ^, @ or $ at the end: none of rxvt-unicode's has the number 4
unfoldable pub rxvt_key_at : ℕ → Option KeyCode
rxvt_key_at n = if n == 4 then None else key_with_number n

-- the keys of the keypad in application mode, by their letters
abbrev pub keypad_keys : List (ℕ × ReportedKey)
keypad_keys =
    (77, Functional 57414) ∷ (88, Functional 57415) ∷ (69, Named KeyPadBegin) ∷ (71, Named KeyPadBegin) ∷ (106, Named Multiply)
    ∷ (107, Named Add) ∷ (108, Named Separator) ∷ (109, Named Subtract) ∷ (110, Named Decimal) ∷ (111, Named Divide)
    ∷ (112, Named Numpad0) ∷ (113, Named Numpad1) ∷ (114, Named Numpad2) ∷ (115, Named Numpad3) ∷ (116, Named Numpad4)
    ∷ (117, Named Numpad5) ∷ (118, Named Numpad6) ∷ (119, Named Numpad7) ∷ (120, Named Numpad8) ∷ (121, Named Numpad9) ∷ []

-- the keys with modifiers behind ESC O, by their letters: F1 to F4, and those of the keypad but its middle one
abbrev pub modified_keypad_keys : List (ℕ × ReportedKey)
modified_keypad_keys =
    (80, Named (Function 1)) ∷ (81, Named (Function 2)) ∷ (82, Named (Function 3)) ∷ (83, Named (Function 4))
    ∷ (77, Functional 57414) ∷ (88, Functional 57415) ∷ (106, Named Multiply) ∷ (107, Named Add)
    ∷ (108, Named Separator) ∷ (109, Named Subtract) ∷ (110, Named Decimal) ∷ (111, Named Divide) ∷ (112, Named Numpad0)
    ∷ (113, Named Numpad1) ∷ (114, Named Numpad2) ∷ (115, Named Numpad3) ∷ (116, Named Numpad4) ∷ (117, Named Numpad5)
    ∷ (118, Named Numpad6) ∷ (119, Named Numpad7) ∷ (120, Named Numpad8) ∷ (121, Named Numpad9) ∷ []

-- the function keys of the Linux console, by their letters
abbrev pub console_keys : List (ℕ × KeyCode)
console_keys = (65, Function 1) ∷ (66, Function 2) ∷ (67, Function 3) ∷ (68, Function 4) ∷ (69, Function 5) ∷ []
