-- Keys that a terminal's text doesn't tell apart: what is read in place of a key with modifiers. Each such key is its twin. The extended parser
-- reads the bytes 8 and 10 as ctrl+h and ctrl+j, and the port as Backspace and Enter. So they have twins of their own.
use Rattle.std.specs.Prelude.{◌==◌, ◌&&◌, ◌||◌, ℕ, Bool, false, not, List, [], ◌∷◌, Option, option_map, unwrap_or, is_some, codes, bit_and, bit_or, nat_le, if◌then◌else◌}
use Rattle.std.specs.Char.{is_control, is_ascii_control, is_ascii_uppercase, is_ascii_lowercase, is_ascii_alphabetic, is_ascii_digit, is_ascii_punctuation, to_ascii_lowercase}
use Rattle.std.specs.List.{find, list_any}
use Rattle.bitflags.specs.Sets.{without}
use Rattle.termwiz_keys.specs.declared.types.KeyCode.{KeyCode}
use Rattle.termwiz_keys.specs.declared.types.KeyCode.TheVariants.{Char, Backspace, Tab, Enter, Escape, Insert, Delete, Home, End, PageDown, UpArrow, DownArrow, LeftArrow, RightArrow, KeyPadBegin, Numpad0, Numpad1, Numpad2, Numpad3, Numpad4, Numpad5, Numpad6, Numpad7, Numpad8, Numpad9, Decimal}
use Rattle.termwiz_keys.specs.declared.types.KeyEvent.{KeyEvent}
use Rattle.termwiz_keys.specs.declared.encode.KeyCodeEncodeModes.{KeyCodeEncodeModes}
use Rattle.termwiz_keys.specs.Encoding.{is_csi_u, is_level}
use Rattle.termwiz_keys.specs.Keys.{NONE, SHIFT, ALT, CTRL, key_with}
use Rattle.termwiz_keys.specs.KeyCodes.{holds}
use Rattle.termwiz_extended_events.specs.declared.types.Dialect.{Dialect}
use Rattle.termwiz_extended_events.specs.declared.types.Dialect.TheVariants.{Extended, Termwiz}

-- the bit of SUPER
abbrev pub SUPER : ℕ
SUPER = 16

-- the modifiers without one of them, and ALT alone of them
abbrev pub dropping : ℕ → ℕ → ℕ
dropping held flag = without 16 held flag

abbrev pub only_alt : ℕ → ℕ
only_alt held = bit_and held ALT

-- characters are sent in the form of CSI u
abbrev pub in_csi_u : KeyCodeEncodeModes → Bool
in_csi_u modes = is_csi_u modes.encoding

-- modifyOtherKeys is on, and on at this level
abbrev pub is_on : KeyCodeEncodeModes → Bool
is_on modes = is_some modes.modify_other_keys

abbrev pub at_level : KeyCodeEncodeModes → ℕ → Bool
at_level modes n = is_level modes.modify_other_keys n

-- most keys are told by their codes, with their modifiers
abbrev pub tells_codes : KeyCodeEncodeModes → Bool
tells_codes modes = in_csi_u modes || is_on modes

-- the character is one of these
abbrev pub is_among : List ℕ → ℕ → Bool
is_among characters c = list_any (λ d. d == c) characters

-- CTRL and these characters send the byte 127 or 8, and 13 or 10: 8 and 10 are Backspace and Enter to the port alone
abbrev pub read_as_backspace : Dialect → List ℕ
read_as_backspace Extended = codes "8?"
read_as_backspace Termwiz = codes "h8?"

abbrev pub read_as_enter : Dialect → List ℕ
read_as_enter Extended = codes "m"
read_as_enter Termwiz = codes "jm"

-- What is read in place of CTRL and a character: in each row the characters, and the key that is read, with its modifiers. The space is
-- 32, and 92 to 95 are the backslash, ], ^ and _.
abbrev pub control_rows : Dialect → List (List ℕ × (KeyCode × ℕ))
control_rows dialect =
    (read_as_backspace dialect, (Backspace, NONE)) ∷ (codes "i", (Tab, NONE)) ∷ (read_as_enter dialect, (Enter, NONE))
    ∷ (codes "[3{", (Escape, NONE)) ∷ (codes "@2`", (Char 32, CTRL)) ∷ (codes "4|", (Char 92, CTRL)) ∷ (codes "5}", (Char 93, CTRL))
    ∷ (codes "6~", (Char 94, CTRL)) ∷ (codes "7/", (Char 95, CTRL)) ∷ []

-- the key of the character's row
abbrev pub control_row : Dialect → ℕ → Option (KeyCode × ℕ)
control_row dialect c = option_map (λ row. row.1) (find (λ row. is_among row.0 c) (control_rows dialect))

-- those that the form of CSI u tells from the key of their row
abbrev pub told_in_csi_u : List ℕ
told_in_csi_u = codes "im[@{"

-- CTRL and this character are what a control character is read as
abbrev pub has_control : ℕ → Bool
has_control c = is_ascii_lowercase c || is_among (32 ∷ 92 ∷ codes "]^_") c

-- CTRL and a character that has no row: a control character tells it, or its code, which isn't sent where ALT is held too. Else CTRL is lost.
abbrev pub unpaired_twin : ℕ → ℕ → KeyCodeEncodeModes → KeyEvent
unpaired_twin c held modes =
    if has_control c || (tells_codes modes && not (holds held ALT)) then key_with (Char c) held
    else key_with (Char c) (only_alt held)

-- the key of a row, with ALT too if that is held
abbrev pub row_twin : ℕ → KeyCode × ℕ → KeyEvent
row_twin held row = key_with row.0 (bit_or row.1 (only_alt held))

-- CTRL and a character of ASCII that isn't a capital letter
abbrev pub control_twin : Dialect → ℕ → ℕ → KeyCodeEncodeModes → KeyEvent
control_twin dialect c held modes =
    if in_csi_u modes && is_among told_in_csi_u c then key_with (Char c) held
    else unwrap_or (option_map (row_twin held) (control_row dialect c)) (unpaired_twin c held modes)

-- a letter is a capital, or SHIFT makes it one
abbrev pub is_capital : ℕ → ℕ → Bool
is_capital c held = is_ascii_uppercase c || (is_ascii_lowercase c && holds held SHIFT)

-- CTRL and a character of ASCII. At level 2 all are told. A capital letter is read as the small one, and the space loses SHIFT.
abbrev pub ascii_twin : Dialect → ℕ → ℕ → KeyCodeEncodeModes → KeyEvent
ascii_twin dialect c held modes =
    if at_level modes 2 then key_with (Char c) held
    else (if is_capital c held && tells_codes modes then key_with (Char c) held
    else (if is_capital c held then control_twin dialect (to_ascii_lowercase c) (dropping held SHIFT) modes
    else (if c == 32 then key_with (Char c) (dropping held SHIFT)
    else control_twin dialect c held modes)))

-- the space is sent by its code, or a digit: its code isn't sent where ALT is held too
abbrev pub is_coded : ℕ → ℕ → KeyCodeEncodeModes → Bool
is_coded c held modes = tells_codes modes && (c == 32 || not (holds held ALT))

-- a character of ASCII without CTRL: a letter shows SHIFT, and only their codes tell SHIFT of the space and of digits
abbrev pub typed_twin : ℕ → ℕ → KeyCodeEncodeModes → KeyEvent
typed_twin c held modes =
    if is_ascii_alphabetic c || is_coded c held modes then key_with (Char c) held else key_with (Char c) (dropping held SHIFT)

-- a character of ASCII, with the modifiers that are sent
abbrev pub sent_twin : Dialect → ℕ → ℕ → KeyCodeEncodeModes → KeyEvent
sent_twin dialect c held modes = if holds held CTRL then ascii_twin dialect c held modes else typed_twin c held modes

-- The modifiers that the code of such a character tells. It tells the character as what SHIFT made, but a control character.
abbrev pub coded_held : ℕ → ℕ → ℕ
coded_held c held = if is_control c then held else dropping held SHIFT

-- a character beyond ASCII: only its code tells of CTRL
abbrev pub wide_twin : ℕ → ℕ → KeyCodeEncodeModes → KeyEvent
wide_twin c held modes = key_with (Char c) (if is_on modes then coded_held c held else only_alt held)

-- a character: SHIFT is never sent of a sign of ASCII
abbrev pub character_twin : Dialect → ℕ → ℕ → KeyCodeEncodeModes → KeyEvent
character_twin dialect c held modes =
    if nat_le 128 c then wide_twin c held modes
    else sent_twin dialect c (if is_ascii_punctuation c then dropping held SHIFT else held) modes

-- SHIFT and CTRL with Enter, Escape and Backspace are told by codes alone, at level 1 only with Enter
abbrev pub told_or_plain : Bool → KeyCode → ℕ → KeyEvent
told_or_plain told key held = if told then key_with key held else key_with key (only_alt held)

abbrev pub tells_escape : KeyCodeEncodeModes → Bool
tells_escape modes = in_csi_u modes || (is_on modes && not (at_level modes 1))

-- Backspace with CTRL where no code tells it: the byte 8, which is ctrl+h
abbrev pub is_erasing : ℕ → KeyCodeEncodeModes → Bool
is_erasing held modes = holds held CTRL && not (tells_escape modes)

-- To the port the byte 8 is Backspace. But the form of CSI u, in which Backspace is sent with SHIFT or CTRL, has the codes of characters to it: with
-- CTRL that of U+0008, which is ctrl+h, and without that of U+007F, which is ctrl+backspace.
abbrev pub backspace_twin : Dialect → ℕ → KeyCodeEncodeModes → KeyEvent
backspace_twin Extended held modes =
    if is_erasing held modes then key_with (Char 104) (bit_or CTRL (only_alt held)) else told_or_plain (tells_escape modes) Backspace held
backspace_twin Termwiz held modes =
    if in_csi_u modes && holds held CTRL then key_with (Char 104) held
    else (if in_csi_u modes && holds held SHIFT then key_with Backspace (bit_or held CTRL)
    else told_or_plain (tells_escape modes) Backspace held)

-- the keys of the keypad that are sent as other keys
abbrev pub edit_key : KeyCode → KeyCode
edit_key Numpad0 = Insert
edit_key Numpad1 = End
edit_key Numpad2 = DownArrow
edit_key Numpad3 = PageDown
edit_key Numpad4 = LeftArrow
edit_key Numpad5 = KeyPadBegin
edit_key Numpad6 = RightArrow
edit_key Numpad7 = Home
edit_key Numpad8 = UpArrow
edit_key Numpad9 = PageDown
edit_key Decimal = Delete
edit_key key = key

-- the twin of a key without SUPER
abbrev pub twin_without_super : Dialect → KeyCode → ℕ → KeyCodeEncodeModes → KeyEvent
twin_without_super dialect (Char c) held modes = character_twin dialect c held modes
twin_without_super dialect Enter held modes = told_or_plain (tells_codes modes) Enter held
twin_without_super dialect Escape held modes = told_or_plain (tells_escape modes) Escape held
twin_without_super dialect Backspace held modes = backspace_twin dialect held modes
twin_without_super dialect key held modes = key_with (edit_key key) held

-- Nothing tells of SUPER. Tab loses SHIFT and CTRL with it, where modifyOtherKeys is off.
abbrev pub twin_with_super : Dialect → KeyCode → ℕ → KeyCodeEncodeModes → KeyEvent
twin_with_super dialect Tab held modes =
    if holds held SUPER && not (is_on modes) then key_with Tab (only_alt held) else key_with Tab (dropping held SUPER)
twin_with_super dialect key held modes = twin_without_super dialect key (dropping held SUPER) modes

-- the key of a digit
abbrev pub is_digit_key : KeyCode → Bool
is_digit_key (Char c) = is_ascii_digit c
is_digit_key key = false

-- A digit without SHIFT, unless it is sent in the form of CSI u: the codes of modifyOtherKeys are read as reports, and that of a digit tells it as
-- what SHIFT made.
abbrev pub shown_twin : Bool → KeyEvent → KeyEvent
shown_twin csi_u k = if is_digit_key k.key && not csi_u then key_with k.key (dropping k.modifiers.0 SHIFT) else k

-- a control character is told by its code, where any modifier is held, and U+001B as Escape is
abbrev pub tells_control : ℕ → KeyCodeEncodeModes → Bool
tells_control c modes = if c == 27 then tells_escape modes else tells_codes modes

-- the code 10 is Enter, where the byte 10 is ctrl+j
abbrev pub coded_key : ℕ → ℕ → KeyCode
coded_key c held = if (c == 10) && not (held == NONE) then Enter else Char c

-- A control character as a key. U+0008 is sent as Backspace, and U+007F as Delete. Any other one is typed as its byte.
abbrev pub control_key_twin : ℕ → ℕ → KeyCodeEncodeModes → KeyEvent
control_key_twin c held modes =
    if c == 8 then backspace_twin Extended (dropping held SUPER) modes
    else (if c == 127 then key_with Delete (dropping held SUPER)
    else (if tells_control c modes then key_with (coded_key c held) (dropping held SUPER)
    else key_with (Char c) (only_alt held)))

-- the twin of a key but for what a digit loses
abbrev pub whole_twin : KeyCode → ℕ → KeyCodeEncodeModes → KeyEvent
whole_twin (Char c) held modes =
    if is_ascii_control c then control_key_twin c held modes else twin_with_super Extended (Char c) held modes
whole_twin key held modes = twin_with_super Extended key held modes

-- The twin of a key that is pressed while modifiers of these bits are held, by each grammar.
unfoldable pub twin_in : Dialect → KeyCode → ℕ → KeyCodeEncodeModes → KeyEvent
twin_in Extended key held modes = shown_twin (in_csi_u modes) (whole_twin key held modes)
twin_in Termwiz key held modes = twin_with_super Termwiz key held modes

-- the twin to the extended parser, and to the port
abbrev pub twin : KeyCode → ℕ → KeyCodeEncodeModes → KeyEvent
twin key held modes = twin_in Extended key held modes

abbrev pub port_twin : KeyCode → ℕ → KeyCodeEncodeModes → KeyEvent
port_twin key held modes = twin_in Termwiz key held modes
