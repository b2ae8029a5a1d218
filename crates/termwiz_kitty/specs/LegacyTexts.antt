-- What keys send before kitty's keyboard protocol, as its page has it ("Legacy functional keys", "Legacy text keys", "Legacy ctrl mapping of
-- ASCII keys"). The modifiers are kitty's bits without those of the locks.
use Rattle.std.specs.Prelude.{ℕ, ◌-◌, ◌==◌, ◌&&◌, ◌||◌, Bool, List, [], ◌∷◌, nat_le, Option, Some, None, option_map, unwrap_or, if◌then◌else◌}
use Rattle.std.specs.Char.{is_control, is_ascii_lowercase}
use Rattle.std.specs.Option.{option_or}
use Rattle.termwiz_keys.specs.declared.types.KeyCode.TheVariants.{Char, Function, Tab, Enter, Escape, Backspace, Applications}
use Rattle.termwiz_extended_events.specs.declared.types.ReportedKey.{ReportedKey}
use Rattle.termwiz_extended_events.specs.declared.types.ReportedKey.TheVariants.{Named, Functional}
use Rattle.termwiz_extended_events.specs.ReportedKeys.{entry_at}
use Rattle.termwiz_kitty.specs.declared.legacy.LegacyText.{LegacyText}
use Rattle.termwiz_kitty.specs.declared.legacy.LegacyText.TheVariants.{Alone, AfterEscape, BackTab, EscapeAndBackTab, FunctionLetter, Menu}

-- kitty's bits of the modifiers
abbrev pub NONE : ℕ
NONE = 0

abbrev pub SHIFT : ℕ
SHIFT = 1

abbrev pub ALT : ℕ
ALT = 2

abbrev pub CTRL : ℕ
CTRL = 4

abbrev pub SHIFT_ALT : ℕ
SHIFT_ALT = 3

abbrev pub SHIFT_CTRL : ℕ
SHIFT_CTRL = 5

abbrev pub CTRL_ALT : ℕ
CTRL_ALT = 6

-- The keys of C0 controls, by the columns of the page. 27 is ESC, 13 CR, 127 DEL, 8 BS and 9 HT.
abbrev pub enter_texts : List (ℕ × LegacyText)
enter_texts =
    (NONE, Alone 13) ∷ (CTRL, Alone 13) ∷ (ALT, AfterEscape 13) ∷ (SHIFT, Alone 13) ∷ (SHIFT_CTRL, Alone 13)
    ∷ (SHIFT_ALT, AfterEscape 13) ∷ (CTRL_ALT, AfterEscape 13) ∷ []

abbrev pub escape_texts : List (ℕ × LegacyText)
escape_texts =
    (NONE, Alone 27) ∷ (CTRL, Alone 27) ∷ (ALT, AfterEscape 27) ∷ (SHIFT, Alone 27) ∷ (SHIFT_CTRL, Alone 27)
    ∷ (SHIFT_ALT, AfterEscape 27) ∷ (CTRL_ALT, AfterEscape 27) ∷ []

abbrev pub backspace_texts : List (ℕ × LegacyText)
backspace_texts =
    (NONE, Alone 127) ∷ (CTRL, Alone 8) ∷ (ALT, AfterEscape 127) ∷ (SHIFT, Alone 127) ∷ (SHIFT_CTRL, Alone 8)
    ∷ (SHIFT_ALT, AfterEscape 127) ∷ (CTRL_ALT, AfterEscape 8) ∷ []

abbrev pub tab_texts : List (ℕ × LegacyText)
tab_texts =
    (NONE, Alone 9) ∷ (CTRL, Alone 9) ∷ (ALT, AfterEscape 9) ∷ (SHIFT, BackTab) ∷ (SHIFT_CTRL, BackTab)
    ∷ (SHIFT_ALT, EscapeAndBackTab) ∷ (CTRL_ALT, AfterEscape 9) ∷ []

abbrev pub space_texts : List (ℕ × LegacyText)
space_texts =
    (NONE, Alone 32) ∷ (CTRL, Alone 0) ∷ (ALT, AfterEscape 32) ∷ (SHIFT, Alone 32) ∷ (SHIFT_CTRL, Alone 0)
    ∷ (SHIFT_ALT, AfterEscape 32) ∷ (CTRL_ALT, AfterEscape 0) ∷ []

-- What Ctrl makes of a character: of / 2 3 4 5 6 7 8 ? @ [ and so on, and of a to z. Any other ASCII character stays as it is.
abbrev pub ctrl_mapping : List (ℕ × ℕ)
ctrl_mapping =
    (32, 0) ∷ (47, 31) ∷ (50, 0) ∷ (51, 27) ∷ (52, 28) ∷ (53, 29) ∷ (54, 30) ∷ (55, 31) ∷ (56, 127) ∷ (63, 127) ∷ (64, 0)
    ∷ (91, 27) ∷ (92, 28) ∷ (93, 29) ∷ (94, 30) ∷ (95, 31) ∷ (97, 1) ∷ (98, 2) ∷ (99, 3) ∷ (100, 4) ∷ (101, 5) ∷ (102, 6)
    ∷ (103, 7) ∷ (104, 8) ∷ (105, 9) ∷ (106, 10) ∷ (107, 11) ∷ (108, 12) ∷ (109, 13) ∷ (110, 14) ∷ (111, 15) ∷ (112, 16)
    ∷ (113, 17) ∷ (114, 18) ∷ (115, 19) ∷ (116, 20) ∷ (117, 21) ∷ (118, 22) ∷ (119, 23) ∷ (120, 24) ∷ (121, 25) ∷ (122, 26)
    ∷ (126, 30) ∷ []

abbrev pub ctrl_mapped : ℕ → ℕ
ctrl_mapped c = unwrap_or (entry_at ctrl_mapping c) c

-- a text key: printable ASCII but A to Z
abbrev pub is_text_key : ℕ → Bool
is_text_key c = (nat_le 32 c && nat_le c 64) || (nat_le 91 c && nat_le c 126)

-- the character, unless it is a control character
abbrev pub without_control : Option ℕ → Option ℕ
without_control None = None
without_control (Some c) = if is_control c then None else Some c

-- the capital letter of a to z
abbrev pub capital : ℕ → Option ℕ
capital c = if is_ascii_lowercase c then Some (c - 32) else None

-- what a key types with Shift, where that is known: what its report says, or else a capital letter
abbrev pub with_shift : ℕ → Option ℕ → Option ℕ
with_shift c shifted = option_or (without_control shifted) (capital c)

-- The text keys: ESC if Alt is held, and then with Ctrl what it makes of the key, with Shift the character with Shift, or else the key.
abbrev pub text_key_text : ℕ → ℕ → Option ℕ → Option LegacyText
text_key_text c held shifted =
    if held == ALT then Some (AfterEscape c)
    else (if held == CTRL then Some (Alone (ctrl_mapped c))
    else (if held == CTRL_ALT then Some (AfterEscape (ctrl_mapped c))
    else (if held == SHIFT_ALT then option_map AfterEscape (with_shift c shifted)
    else None)))

abbrev pub character_text : ℕ → ℕ → Option ℕ → Option LegacyText
character_text c held shifted =
    if c == 32 then entry_at space_texts held
    else (if is_text_key c then text_key_text c held shifted
    else None)

-- F1 to F4 without modifiers: their letters from P to S
abbrev pub function_letters : List (ℕ × LegacyText)
function_letters =
    (1, FunctionLetter 80) ∷ (2, FunctionLetter 81) ∷ (3, FunctionLetter 82) ∷ (4, FunctionLetter 83) ∷ []

-- kitty's number of Applications, the Menu key
abbrev pub menu_number : ℕ
menu_number = 57363

-- What a key sends before the protocol that isn't its report.
unfoldable pub legacy_text : ReportedKey → ℕ → Option ℕ → Option LegacyText
legacy_text (Named (Char c)) held shifted = character_text c held shifted
legacy_text (Named Enter) held shifted = entry_at enter_texts held
legacy_text (Named Escape) held shifted = entry_at escape_texts held
legacy_text (Named Backspace) held shifted = entry_at backspace_texts held
legacy_text (Named Tab) held shifted = entry_at tab_texts held
legacy_text (Named (Function n)) held shifted = if held == NONE then entry_at function_letters n else None
legacy_text (Named Applications) held shifted = Some (Menu held)
legacy_text (Named key) held shifted = None
legacy_text (Functional n) held shifted = if n == menu_number then Some (Menu held) else None
