-- The sequence table, rule by rule: each rule gives pairs of bytes and the key that they spell.
-- From xterm's control sequences ("PC-Style Function Keys", "VT220-Style Function Keys", modifyOtherKeys), from
-- fixterms (CSI u) and from rxvt's keys ($, ^ and @ at the end). The table is the set of these pairs,
-- whatever their order.
use Rattle.std.specs.Prelude.{ℕ, zero, suc, ◌+◌, Bool, not, List, [], ◌∷◌, ◌++◌, map, filter, flat_map, codes, decimal, if◌then◌else◌, ◌==◌, ◌||◌}
use Rattle.std.specs.Fmt.{digits}
use Rattle.termwiz_keys.specs.declared.types.KeyCode.{KeyCode}
use Rattle.termwiz_keys.specs.declared.types.KeyCode.TheVariants.{Char, Backspace, Tab, Enter, Escape, PageUp, PageDown, End, Home, LeftArrow, RightArrow, UpArrow, DownArrow, Insert, Delete, Function, ApplicationLeftArrow, ApplicationRightArrow, ApplicationUpArrow, ApplicationDownArrow, InternalPasteStart, InternalPasteEnd}
use Rattle.termwiz_keys.specs.declared.types.KeyEvent.{KeyEvent}
use Rattle.termwiz_keys.specs.Introducers.{ESC, CSI, SS3, START, END}
use Rattle.std.specs.FinMap as map_of
use Rattle.termwiz_keymap.specs.Lookup.{ByteMap}
use Rattle.termwiz_keys.specs.Keys.{key_with, NONE, SHIFT, ALT, CTRL, escape}
pub use Rattle.termwiz_keys.specs.FunctionCodes.{function_codes, high_function_codes}

-- the bytes of a row, and its key
abbrev pub TableRow : Type 0
TableRow = List ℕ × KeyEvent

-- count numbers from first on
unfoldable pub numbers : ℕ → ℕ → List ℕ
numbers first zero = []
numbers first (suc count) = first ∷ numbers (suc first) count

-- a suffix with the modifiers that it stands for
abbrev pub Suffix : Type 0
Suffix = List ℕ × ℕ

-- the suffixes that aren't empty, up to ;8
abbrev pub to_eight : List Suffix
to_eight =
    (codes ";1", NONE) ∷ (codes ";2", SHIFT) ∷ (codes ";3", ALT) ∷ (codes ";4", ALT + SHIFT)
    ∷ (codes ";5", CTRL) ∷ (codes ";6", CTRL + SHIFT) ∷ (codes ";7", CTRL + ALT) ∷ (codes ";8", CTRL + ALT + SHIFT) ∷ []

-- the suffixes ;9 to ;16, in which Meta counts as Alt
abbrev pub nine_up : List Suffix
nine_up =
    (codes ";9", ALT) ∷ (codes ";10", ALT + SHIFT) ∷ (codes ";11", ALT) ∷ (codes ";12", ALT + SHIFT)
    ∷ (codes ";13", ALT + CTRL) ∷ (codes ";14", ALT + CTRL + SHIFT) ∷ (codes ";15", ALT + CTRL)
    ∷ (codes ";16", ALT + CTRL + SHIFT) ∷ []

-- the empty suffix, and those up to ;8
abbrev pub nine : List Suffix
nine = ([], NONE) ∷ to_eight

-- all seventeen suffixes
abbrev pub seventeen : List Suffix
seventeen = nine ++ nine_up

-- one key with each suffix, between a front and an end
abbrev pub key_with_each_suffix : List ℕ → List Suffix → List ℕ → KeyCode → List TableRow
key_with_each_suffix front suffixes end key = map (λ s. (front ++ s.0 ++ end, key_with key s.1)) suffixes

-- each key of a list with each suffix, where the key's own text is the end
abbrev pub keys_with_each_suffix : List ℕ → List Suffix → List (List ℕ × KeyCode) → List TableRow
keys_with_each_suffix front suffixes keys = flat_map (λ k. key_with_each_suffix front suffixes k.0 k.1) keys

-- each key of a list with these modifiers, behind a front
abbrev pub keys_with_modifiers : List ℕ → List (List ℕ × KeyCode) → ℕ → List TableRow
keys_with_modifiers front keys bits = map (λ k. (front ++ k.0, key_with k.1 bits)) keys

-- the cursor keys, by their letters
abbrev pub arrows_and_ends : List (List ℕ × KeyCode)
arrows_and_ends =
    (codes "A", UpArrow) ∷ (codes "B", DownArrow) ∷ (codes "C", RightArrow) ∷ (codes "D", LeftArrow)
    ∷ (codes "H", Home) ∷ (codes "F", End) ∷ []

-- the arrows, by lower case letters
abbrev pub small_arrows : List (List ℕ × KeyCode)
small_arrows = (codes "a", UpArrow) ∷ (codes "b", DownArrow) ∷ (codes "c", RightArrow) ∷ (codes "d", LeftArrow) ∷ []

-- the arrows in application cursor mode
abbrev pub application_arrows : List (List ℕ × KeyCode)
application_arrows =
    (codes "A", ApplicationUpArrow) ∷ (codes "B", ApplicationDownArrow)
    ∷ (codes "C", ApplicationRightArrow) ∷ (codes "D", ApplicationLeftArrow) ∷ []

-- F1 to F4, by their letters
abbrev pub first_functions : List (List ℕ × KeyCode)
first_functions =
    (codes "P", Function 1) ∷ (codes "Q", Function 2) ∷ (codes "R", Function 3) ∷ (codes "S", Function 4) ∷ []

-- the key that a number stands for in the rule modify_other_keys
abbrev pub key_of_code : ℕ → KeyCode
key_of_code c = if (c == 8) || (c == 127) then Backspace
    else (if c == 27 then Escape else (if c == 9 then Tab else (if (c == 10) || (c == 13) then Enter else Char c)))

-- a byte that stands for no key of its own: not 8, 9, 10 or 13
abbrev pub is_letter : ℕ → Bool
is_letter b = not ((b == 8) || (b == 9) || (b == 10) || (b == 13))

-- Ctrl and the letter at this place in the alphabet
abbrev pub control_letter : ℕ → TableRow
control_letter b = (b ∷ [], key_with (Char (96 + b)) CTRL)

-- the bytes 1 to 26 but 8, 9, 10 and 13: Ctrl and the letter at that place in the alphabet
unfoldable pub control_letters_rows : List TableRow
control_letters_rows = map control_letter (filter is_letter (numbers 1 26))

-- 8 and 0x7f: Backspace
unfoldable pub backspace_bytes_rows : List TableRow
backspace_bytes_rows = (8 ∷ [], key_with Backspace NONE) ∷ (127 ∷ [], key_with Backspace NONE) ∷ []

-- 9: Tab
unfoldable pub tab_byte_rows : List TableRow
tab_byte_rows = (9 ∷ [], key_with Tab NONE) ∷ []

-- 10 and 13: Enter
unfoldable pub enter_bytes_rows : List TableRow
enter_bytes_rows = (10 ∷ [], key_with Enter NONE) ∷ (13 ∷ [], key_with Enter NONE) ∷ []

-- ESC: Escape
unfoldable pub escape_byte_rows : List TableRow
escape_byte_rows = (ESC, escape) ∷ []

-- ESC and a letter: that letter with Alt
abbrev pub alt_letter : ℕ → TableRow
alt_letter c = (ESC ++ c ∷ [], key_with (Char c) ALT)

-- ESC and an upper case letter: that letter with Alt
unfoldable pub alt_letters_rows : List TableRow
alt_letters_rows = map alt_letter (numbers 65 26)

-- ESC [: the bracket with Alt
unfoldable pub alt_bracket_rows : List TableRow
alt_bracket_rows = (CSI, key_with (Char 91) ALT) ∷ []

-- ESC [Z: Tab with Shift
unfoldable pub shift_tab_rows : List TableRow
shift_tab_rows = (CSI ++ codes "Z", key_with Tab SHIFT) ∷ []

-- ESC [ c s u, c in decimal: the character c, with the modifiers of the suffix s
abbrev pub csi_u_of : ℕ → List TableRow
csi_u_of c = key_with_each_suffix (CSI ++ decimal c) nine (codes "u") (Char c)

-- the same for c from 0 to 127
unfoldable pub csi_u_rows : List TableRow
csi_u_rows = flat_map csi_u_of (numbers 0 128)

-- ESC [27 s ; c ~, c in decimal: the key of c, with the modifiers of the suffix s
abbrev pub modify_other_key : Suffix → ℕ → TableRow
modify_other_key s c = (CSI ++ codes "27" ++ s.0 ++ codes ";" ++ decimal c ++ codes "~", key_with (key_of_code c) s.1)

-- the same for c from 0 to 127
abbrev pub modify_other_keys_of : Suffix → List TableRow
modify_other_keys_of s = map (modify_other_key s) (numbers 0 128)

-- the same for each suffix s that isn't empty
unfoldable pub modify_other_keys_rows : List TableRow
modify_other_keys_rows = flat_map modify_other_keys_of to_eight

-- ESC [ and a letter: a cursor key
unfoldable pub cursor_keys_rows : List TableRow
cursor_keys_rows = keys_with_modifiers CSI arrows_and_ends NONE

-- ESC [1 s and a letter: a cursor key, with the modifiers of s
unfoldable pub modified_cursor_keys_rows : List TableRow
modified_cursor_keys_rows = keys_with_each_suffix (CSI ++ codes "1") seventeen arrows_and_ends

-- ESC [ and a lower case letter: an arrow with Shift
unfoldable pub shift_arrows_rows : List TableRow
shift_arrows_rows = keys_with_modifiers CSI small_arrows SHIFT

-- ESC O and a lower case letter: an arrow with Ctrl
unfoldable pub ctrl_arrows_rows : List TableRow
ctrl_arrows_rows = keys_with_modifiers SS3 small_arrows CTRL

-- ESC O and a letter: an arrow in application cursor mode
unfoldable pub application_arrows_rows : List TableRow
application_arrows_rows = keys_with_modifiers SS3 application_arrows NONE

-- ESC O1 s and a letter: such an arrow, with the modifiers of s
unfoldable pub modified_application_arrows_rows : List TableRow
modified_application_arrows_rows = keys_with_each_suffix (SS3 ++ codes "1") nine application_arrows

-- ESC O and P to S: F1 to F4
unfoldable pub ss3_function_keys_rows : List TableRow
ss3_function_keys_rows = keys_with_modifiers SS3 first_functions NONE

-- ESC [1 s and P to S: F1 to F4, with the modifiers of s
unfoldable pub lettered_function_keys_rows : List TableRow
lettered_function_keys_rows = keys_with_each_suffix (CSI ++ codes "1") seventeen first_functions

-- ESC [ code s ~: a function key by its code and its number, with the modifiers of s
abbrev pub function_key_of : ℕ × ℕ → List TableRow
function_key_of f = key_with_each_suffix (CSI ++ decimal f.0) seventeen (codes "~") (Function f.1)

-- the same for F1 to F20
unfoldable pub numbered_function_keys_rows : List TableRow
numbered_function_keys_rows = flat_map function_key_of function_codes

-- the editing block, by its digits
abbrev pub digit_keys : List (ℕ × KeyCode)
digit_keys = (2, Insert) ∷ (3, Delete) ∷ (1, Home) ∷ (7, Home) ∷ (4, End) ∷ (8, End) ∷ (5, PageUp) ∷ (6, PageDown) ∷ []

-- the ends, with the modifiers that they stand for
abbrev pub digit_ends : List Suffix
digit_ends = (codes "~", NONE) ∷ (codes "$", SHIFT) ∷ (codes "^", CTRL) ∷ (codes "@", SHIFT + CTRL) ∷ []

-- ESC [ digit s end: each key of a list by its digit, with the modifiers of the suffix s
abbrev pub keys_by_digit : List Suffix → List ℕ → List (ℕ × KeyCode) → List TableRow
keys_by_digit suffixes end keys = flat_map (λ d. key_with_each_suffix (CSI ++ decimal d.0) suffixes end d.1) keys

-- ESC [ digit end: a key of the editing block, with the modifiers of the end
unfoldable pub edit_keys_rows : List TableRow
edit_keys_rows = keys_by_digit digit_ends [] digit_keys

-- START
unfoldable pub paste_start_rows : List TableRow
paste_start_rows = (START, key_with InternalPasteStart NONE) ∷ []

-- END
unfoldable pub paste_end_rows : List TableRow
paste_end_rows = (END, key_with InternalPasteEnd NONE) ∷ []

-- the keys of the editing block that a suffix may modify, by their digits
abbrev pub modified_digit_keys : List (ℕ × KeyCode)
modified_digit_keys = (2, Insert) ∷ (3, Delete) ∷ (5, PageUp) ∷ (6, PageDown) ∷ []

-- ESC [ digit s ~, s not empty: such a key, with the modifiers of s
unfoldable pub modified_edit_keys_rows : List TableRow
modified_edit_keys_rows = keys_by_digit to_eight (codes "~") modified_digit_keys

-- ESC [ code s ~: F21 to F24 by their codes, with the modifiers of s
unfoldable pub high_function_keys_rows : List TableRow
high_function_keys_rows = flat_map function_key_of high_function_codes

-- Home and End, by their letters
abbrev pub home_and_end : List (List ℕ × KeyCode)
home_and_end = (codes "H", Home) ∷ (codes "F", End) ∷ []

-- ESC O and H or F: Home or End in application cursor mode
unfoldable pub application_home_end_rows : List TableRow
application_home_end_rows = keys_with_modifiers SS3 home_and_end NONE

-- ESC [1;5Z: Tab with Ctrl and Shift
unfoldable pub ctrl_shift_tab_rows : List TableRow
ctrl_shift_tab_rows = (CSI ++ codes "1;5Z", key_with Tab (CTRL + SHIFT)) ∷ []

-- the whole table. Its rows are all different, so the order of the rules says nothing.
unfoldable pub rows : List TableRow
rows =
    control_letters_rows ++ backspace_bytes_rows ++ tab_byte_rows ++ enter_bytes_rows ++ escape_byte_rows
    ++ alt_letters_rows ++ alt_bracket_rows ++ ctrl_arrows_rows ++ application_arrows_rows
    ++ modified_application_arrows_rows ++ ss3_function_keys_rows ++ application_home_end_rows ++ cursor_keys_rows
    ++ shift_tab_rows ++ shift_arrows_rows ++ edit_keys_rows ++ modified_edit_keys_rows ++ paste_start_rows
    ++ paste_end_rows ++ modified_cursor_keys_rows ++ lettered_function_keys_rows ++ ctrl_shift_tab_rows
    ++ numbered_function_keys_rows ++ high_function_keys_rows ++ csi_u_rows ++ modify_other_keys_rows

-- the table, written out: to unfold this is to unfold every rule
unfoldable pub written_out : List TableRow
unfolding numbers rows control_letters_rows backspace_bytes_rows tab_byte_rows enter_bytes_rows escape_byte_rows
    alt_letters_rows alt_bracket_rows shift_tab_rows csi_u_rows modify_other_keys_rows cursor_keys_rows
    modified_cursor_keys_rows shift_arrows_rows ctrl_arrows_rows application_arrows_rows
    modified_application_arrows_rows ss3_function_keys_rows lettered_function_keys_rows numbered_function_keys_rows
    edit_keys_rows paste_start_rows paste_end_rows modified_edit_keys_rows high_function_keys_rows
    application_home_end_rows ctrl_shift_tab_rows digits
written_out = rows

-- a map with these rows put into it, one after another
abbrev pub with_rows : ByteMap KeyEvent → List TableRow → ByteMap KeyEvent
with_rows m [] = m
with_rows m (r ∷ rs) = with_rows (map_of.insert m r.0 r.1) rs

-- the table as a map from bytes to keys
unfoldable pub table : ByteMap KeyEvent
table = with_rows map_of.empty rows
