-- The text of a key that is pressed: what a terminal sends to its program. First the key and the modifiers are brought
-- into a normal form, and then each group of keys has its rows. In each definition the first row that applies counts.
use Rattle.std.specs.Prelude.{◌+◌, ◌==◌, ◌&&◌, ◌||◌, ℕ, ℤ, pos, Bool, true, false, not, List, [], ◌∷◌, ◌++◌, Option, Some, None, is_some, unwrap_or, nat_lt, nat_le, codes, decimal, encode_utf8, if◌then◌else◌}
use Rattle.std.specs.Char.{is_ascii_uppercase, is_ascii_alphanumeric, is_ascii_punctuation}
use Rattle.std.specs.List.{find, list_any}
use Rattle.std.specs.Option.{option_map, option_or}
use Rattle.std.specs.Ordering.{int_eq}
use Rattle.bitflags.specs.Sets.{without}
use Rattle.termwiz_base.specs.declared.modifiers.Modifiers.{Modifiers}
use Rattle.termwiz_base.specs.Modifiers.{positional, xterm_number}
use Rattle.termwiz_base.specs.Control.{control_of}
use Rattle.termwiz_keys.specs.declared.types.KeyCode.{KeyCode}
use Rattle.termwiz_keys.specs.declared.types.KeyCode.TheVariants.{Char, Backspace, Tab, Enter, Escape, PageUp, PageDown, End, Home, LeftArrow, RightArrow, UpArrow, DownArrow, Insert, Delete, Numpad0, Numpad1, Numpad2, Numpad3, Numpad4, Numpad5, Numpad6, Numpad7, Numpad8, Numpad9, Decimal, Function, ApplicationLeftArrow, ApplicationRightArrow, ApplicationUpArrow, ApplicationDownArrow, KeyPadHome, KeyPadEnd, KeyPadPageUp, KeyPadPageDown, KeyPadBegin}
use Rattle.termwiz_keys.specs.declared.encode.KeyboardEncoding.{KeyboardEncoding}
use Rattle.termwiz_keys.specs.declared.encode.KeyboardEncoding.TheVariants.{CsiU}
use Rattle.termwiz_keys.specs.declared.encode.KeyCodeEncodeModes.{KeyCodeEncodeModes}
use Rattle.termwiz_keys.specs.Introducers.{ESC, CSI, SS3}
use Rattle.termwiz_keys.specs.Keys.{SHIFT, ALT, CTRL}
use Rattle.termwiz_keys.specs.KeyCodes.{holds, shifted}
use Rattle.termwiz_keys.specs.FunctionCodes.{function_codes, high_function_codes}

-- the bits of modifiers without the six flags that name the left or the right one
abbrev pub sideless : ℕ → ℕ
sideless held = without 16 held positional

-- the key shows by itself that Shift is held: it is an uppercase letter or punctuation of ASCII
unfoldable pub shows_shift : KeyCode → Bool
shows_shift (Char c) = is_ascii_uppercase c || is_ascii_punctuation c
shows_shift key = false

-- DEL stands for `Delete`, and BS for `Backspace`
unfoldable pub named_key : KeyCode → KeyCode
named_key (Char c) = if c == 0x7f then Delete else (if c == 8 then Backspace else Char c)
named_key key = key

-- the normal form of a key that is pressed while modifiers of these bits are held
unfoldable pub normal_key : KeyCode → ℕ → KeyCode
normal_key key held = named_key (shifted key (sideless held))

-- the normal form of the bits
unfoldable pub normal_held : KeyCode → ℕ → ℕ
normal_held key held =
    if shows_shift (shifted key (sideless held)) then without 16 (sideless held) SHIFT else sideless held

-- ESC, if Alt is held
abbrev pub escape_if_alt : ℕ → List ℕ
escape_if_alt held = if holds held ALT then ESC else []

-- xterm's number for the modifiers as sequences write it, in decimal and one more
abbrev pub modifier_number : ℕ → List ℕ
modifier_number held = decimal (1 + xterm_number held)

-- Shift, Alt or Ctrl is held
abbrev pub is_modified : ℕ → Bool
is_modified held = holds held SHIFT || holds held ALT || holds held CTRL

-- characters are sent in the form of CSI u
abbrev pub is_csi_u : KeyboardEncoding → Bool
is_csi_u CsiU = true
is_csi_u encoding = false

-- modifyOtherKeys is on at this level
abbrev pub is_level : Option ℤ → ℕ → Bool
is_level (Some level) n = int_eq level (pos n)
is_level None n = false

-- `c` and `d`, ESC, DEL and BS, which stay as they are at level 1 of modifyOtherKeys
abbrev pub stays_at_one : ℕ → Bool
stays_at_one c = list_any (λ d. d == c) (99 ∷ 100 ∷ 0x1b ∷ 0x7f ∷ 8 ∷ [])

-- `i`, `m`, `[` and `@`, and those that Ctrl makes the same of: TAB, CR, ESC and NUL, which other keys send too
abbrev pub is_ambiguous : ℕ → Bool
is_ambiguous c = list_any (λ d. d == c) (codes "iImM[{@")

-- modifyOtherKeys sends the character by its code
abbrev pub sends_code : Option ℤ → ℕ → Bool
sends_code level c = is_some level && not (is_level level 1 && stays_at_one c)

-- a character by its code: in CSI u, and by modifyOtherKeys
abbrev pub csi_u_form : ℕ → ℕ → List ℕ
csi_u_form c held = CSI ++ decimal c ++ codes ";" ++ modifier_number held ++ codes "u"

abbrev pub other_keys_form : ℕ → ℕ → List ℕ
other_keys_form c held = CSI ++ codes "27;" ++ modifier_number held ++ codes ";" ++ decimal c ++ codes "~"

-- a character that the rows of its key leave open
unfoldable pub other_text : ℕ → ℕ → KeyCodeEncodeModes → List ℕ
other_text c held modes =
    if is_csi_u modes.encoding && nat_lt c 0x80 then csi_u_form c held
    else (if sends_code modes.modify_other_keys c then other_keys_form c held
    else (if holds held CTRL then escape_if_alt held ++ encode_utf8 (unwrap_or (control_of c) c)
    else escape_if_alt held ++ encode_utf8 c))

-- `Char`, where Ctrl doesn't change it
unfoldable pub plain_char_text : ℕ → ℕ → KeyCodeEncodeModes → List ℕ
plain_char_text c held modes =
    if holds held ALT && (is_ascii_alphanumeric c || is_ascii_punctuation c) then ESC ++ encode_utf8 c
    else (if held == 0 then encode_utf8 c
    else other_text c held modes)

-- `Char`
unfoldable pub char_text : ℕ → ℕ → KeyCodeEncodeModes → List ℕ
char_text c held modes =
    if holds held CTRL && is_csi_u modes.encoding && is_ambiguous c then other_text c held modes
    else (if holds held CTRL && is_ascii_uppercase c then other_text c held modes
    else (if holds held CTRL && is_level modes.modify_other_keys 2 then other_text c held modes
    else (if holds held CTRL
    && is_some (control_of c) then escape_if_alt held ++ encode_utf8 (unwrap_or (control_of c) c)
    else plain_char_text c held modes)))

-- `Backspace`
unfoldable pub backspace_text : ℕ → KeyCodeEncodeModes → List ℕ
backspace_text held modes =
    if holds held CTRL then other_text 8 held modes
    else (if holds held SHIFT then other_text 0x7f held modes
    else escape_if_alt held ++ 0x7f ∷ [])

-- `Enter`
unfoldable pub enter_text : ℕ → KeyCodeEncodeModes → List ℕ
enter_text held modes =
    if holds held SHIFT || holds held CTRL then other_text 0x0d held modes
    else escape_if_alt held ++ 0x0d ∷ (if modes.newline_mode then 0x0a ∷ [] else [])

-- `Escape`
unfoldable pub escape_text : ℕ → KeyCodeEncodeModes → List ℕ
escape_text held modes =
    if holds held SHIFT || holds held CTRL then other_text 0x1b held modes
    else escape_if_alt held ++ 0x1b ∷ []

-- what `Tab` sends with exactly these modifiers, none of which is Alt
abbrev pub tab_alone : ℕ → List ℕ
tab_alone held =
    if held == CTRL then CSI ++ codes "9;5u"
    else (if held == CTRL + SHIFT then CSI ++ codes "1;5Z"
    else (if held == SHIFT then CSI ++ codes "Z"
    else 9 ∷ []))

-- `Tab`
unfoldable pub tab_text : ℕ → KeyCodeEncodeModes → List ℕ
tab_text held modes =
    if not (held == 0) && is_some modes.modify_other_keys then other_text 9 held modes
    else escape_if_alt held ++ tab_alone (without 16 held ALT)

-- xterm's form of a key that has a letter, with modifiers
abbrev pub xterm_form : List ℕ → ℕ → List ℕ
xterm_form letter held = CSI ++ codes "1;" ++ modifier_number held ++ letter

-- xterm's form of a key that has a number, with modifiers
abbrev pub xterm_number_form : ℕ → ℕ → List ℕ
xterm_number_form number held = CSI ++ decimal number ++ codes ";" ++ modifier_number held ++ codes "~"

-- an arrow, or a key to an end, by its letter
unfoldable pub cursor_text : List ℕ → ℕ → KeyCodeEncodeModes → List ℕ
cursor_text letter held modes =
    if is_modified held then xterm_form letter held
    else (if modes.application_cursor_keys then SS3 ++ letter
    else CSI ++ letter)

-- an application arrow, by its letter
unfoldable pub application_text : List ℕ → ℕ → List ℕ
application_text letter held =
    if is_modified held then xterm_form letter held
    else SS3 ++ letter

-- a key of the editing block, by its number
unfoldable pub edit_text : ℕ → ℕ → List ℕ
edit_text number held =
    if is_modified held then xterm_number_form number held
    else CSI ++ decimal number ++ codes "~"

-- F1 to F4, by their letters
unfoldable pub lettered_function_text : List ℕ → ℕ → List ℕ
lettered_function_text letter held =
    if held == 0 then SS3 ++ letter
    else xterm_form letter held

-- the code of the function key with this number, in a list of codes with numbers
abbrev pub code_in : List (ℕ × ℕ) → ℕ → Option ℕ
code_in codes n = option_map (λ f. f.0) (find (λ f. f.1 == n) codes)

-- the code of a function key from F5 on, as in the sequence table
abbrev pub code_of : ℕ → ℕ
code_of n = unwrap_or (option_or (code_in function_codes n) (code_in high_function_codes n)) 0

-- F5 to F24, by their numbers
unfoldable pub numbered_function_text : ℕ → ℕ → List ℕ
numbered_function_text n held =
    if xterm_number held == 0 then CSI ++ decimal (code_of n) ++ codes "~"
    else xterm_number_form (code_of n) held

-- a function key from F1 to F24, where the letters of F1 to F4 are those from `P` (80) on
unfoldable pub function_text : ℕ → ℕ → List ℕ
function_text n held =
    if nat_le n 4 then lettered_function_text ((79 + n) ∷ []) held
    else numbered_function_text n held

-- a key of the keypad that has a number
unfoldable pub keypad_number_text : ℕ → ℕ → List ℕ
keypad_number_text number held =
    if xterm_number held == 0 then CSI ++ decimal number ++ codes "~"
    else xterm_number_form number held

-- a key of the keypad that has a letter
unfoldable pub keypad_letter_text : List ℕ → ℕ → List ℕ
keypad_letter_text letter held =
    if xterm_number held == 0 then CSI ++ letter
    else xterm_form letter held

-- a key of the keypad; no other key sends anything
unfoldable pub keypad_text : KeyCode → ℕ → List ℕ
keypad_text Numpad0 held = keypad_number_text 2 held
keypad_text Numpad3 held = keypad_number_text 6 held
keypad_text Numpad9 held = keypad_number_text 6 held
keypad_text Decimal held = keypad_number_text 3 held
keypad_text Numpad1 held = keypad_letter_text (codes "F") held
keypad_text Numpad2 held = keypad_letter_text (codes "B") held
keypad_text Numpad4 held = keypad_letter_text (codes "D") held
keypad_text Numpad5 held = keypad_letter_text (codes "E") held
keypad_text KeyPadBegin held = keypad_letter_text (codes "E") held
keypad_text Numpad6 held = keypad_letter_text (codes "C") held
keypad_text Numpad7 held = keypad_letter_text (codes "H") held
keypad_text Numpad8 held = keypad_letter_text (codes "A") held
keypad_text key held = []

-- the text of a key in its normal form
unfoldable pub key_text : KeyCode → ℕ → KeyCodeEncodeModes → List ℕ
key_text (Char c) held modes = char_text c held modes
key_text Backspace held modes = backspace_text held modes
key_text Enter held modes = enter_text held modes
key_text Escape held modes = escape_text held modes
key_text Tab held modes = tab_text held modes
key_text UpArrow held modes = cursor_text (codes "A") held modes
key_text DownArrow held modes = cursor_text (codes "B") held modes
key_text RightArrow held modes = cursor_text (codes "C") held modes
key_text LeftArrow held modes = cursor_text (codes "D") held modes
key_text Home held modes = cursor_text (codes "H") held modes
key_text KeyPadHome held modes = cursor_text (codes "H") held modes
key_text End held modes = cursor_text (codes "F") held modes
key_text KeyPadEnd held modes = cursor_text (codes "F") held modes
key_text ApplicationUpArrow held modes = application_text (codes "A") held
key_text ApplicationDownArrow held modes = application_text (codes "B") held
key_text ApplicationRightArrow held modes = application_text (codes "C") held
key_text ApplicationLeftArrow held modes = application_text (codes "D") held
key_text Insert held modes = edit_text 2 held
key_text Delete held modes = edit_text 3 held
key_text PageUp held modes = edit_text 5 held
key_text KeyPadPageUp held modes = edit_text 5 held
key_text PageDown held modes = edit_text 6 held
key_text KeyPadPageDown held modes = edit_text 6 held
key_text (Function n) held modes = function_text n held
key_text key held modes = keypad_text key held

-- the number of a function key that has no text: only F1 to F24 have one
abbrev pub unhandled : KeyCode → Option ℕ
unhandled (Function n) = if n == 0 || nat_lt 24 n then Some n else None
unhandled key = None

-- the text of a key that is pressed with these modifiers, in these modes; none where the key is refused
unfoldable pub enc : KeyCode → Modifiers → KeyCodeEncodeModes → Option (List ℕ)
enc key modifiers modes =
    if is_some (unhandled key) then None
    else Some (key_text (normal_key key modifiers.0) (normal_held key modifiers.0) modes)
