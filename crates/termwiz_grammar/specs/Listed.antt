-- The keys that read back: a parser reads their texts as exactly these keys.
use Rattle.std.specs.Prelude.{◌≡◌, ◌≢◌, ℕ, ℤ, pos, ◌+◌, ◌*◌, ◌==◌, ◌≤◌, ◌||◌, Bool, true, false, List, [], ◌∷◌, ◌++◌, Option, Some, None, Contains, IsTrue, codes, decimal}
use Rattle.std.specs.Char.{IsScalar, is_ascii_lowercase, is_ascii_digit, is_ascii_alphanumeric, is_ascii_punctuation}
use Rattle.termwiz_base.specs.declared.modifiers.Modifiers.{Modifiers}
use Rattle.termwiz_keys.specs.declared.types.KeyCode.{KeyCode}
use Rattle.termwiz_keys.specs.declared.types.KeyCode.TheVariants.{Char, Backspace, Tab, Enter, Escape, PageUp, PageDown, End, Home, LeftArrow, RightArrow, UpArrow, DownArrow, Insert, Delete, Function, ApplicationLeftArrow, ApplicationRightArrow, ApplicationUpArrow, ApplicationDownArrow}
use Rattle.termwiz_keys.specs.declared.types.InputEvent.TheVariants.{Key}
use Rattle.termwiz_keys.specs.declared.encode.KeyboardEncoding.TheVariants.{Xterm}
use Rattle.termwiz_keys.specs.declared.encode.KeyCodeEncodeModes.{KeyCodeEncodeModes}
use Rattle.termwiz_keys.specs.Introducers.{CSI}
use Rattle.termwiz_keys.specs.Keys.{NONE, SHIFT, ALT, CTRL, key_with}
use Rattle.termwiz_grammar.specs.Grammar.{Means}
use Rattle.termwiz_keys.specs.Encoding.{enc}

-- the sets of Shift, Alt and Ctrl
abbrev pub any_of_three : List ℕ
any_of_three =
    NONE ∷ SHIFT ∷ ALT ∷ (ALT + SHIFT) ∷ CTRL ∷ (CTRL + SHIFT) ∷ (CTRL + ALT) ∷ (CTRL + ALT + SHIFT) ∷ []

-- the cursor keys and F1 to F20
abbrev pub cursor_and_function_keys : List KeyCode
cursor_and_function_keys =
    LeftArrow ∷ RightArrow ∷ UpArrow ∷ DownArrow ∷ Home ∷ End
    ∷ Function 1 ∷ Function 2 ∷ Function 3 ∷ Function 4 ∷ Function 5 ∷ Function 6 ∷ Function 7 ∷ Function 8
    ∷ Function 9 ∷ Function 10
    ∷ Function 11 ∷ Function 12 ∷ Function 13 ∷ Function 14 ∷ Function 15 ∷ Function 16 ∷ Function 17 ∷ Function 18
    ∷ Function 19 ∷ Function 20 ∷ []

-- the application arrows, and keys of the editing block
abbrev pub keys_without_modifiers : List KeyCode
keys_without_modifiers =
    ApplicationLeftArrow ∷ ApplicationRightArrow ∷ ApplicationUpArrow ∷ ApplicationDownArrow ∷ PageUp ∷ PageDown
    ∷ Insert ∷ Delete ∷ []

-- keys of the editing block, and F21 to F24
abbrev pub edit_and_high_function_keys : List KeyCode
edit_and_high_function_keys =
    Insert ∷ Delete ∷ PageUp ∷ PageDown ∷ Function 21 ∷ Function 22 ∷ Function 23 ∷ Function 24 ∷ []

-- `h`, `i`, `j` and `m`: with Ctrl they send bytes that are read as Backspace, Tab and Enter
abbrev pub IsSharedLetter : ℕ → Type 0
IsSharedLetter c = Contains (codes "hijm") c

-- A key is listed with the bits of the modifiers that are held, at a level of modifyOtherKeys,
-- where application cursor keys are off.
pub data IsListedAt : KeyCode → ℕ → Option ℤ → Type 0 where
  -- at every level, and with modifyOtherKeys off
  any_modifiers : (key : KeyCode) (held : ℕ) (level : Option ℤ)
      → Contains cursor_and_function_keys key → Contains any_of_three held → IsListedAt key held level
  no_modifiers : (key : KeyCode) (level : Option ℤ) → Contains keys_without_modifiers key → IsListedAt key NONE level
  character : (c : ℕ) (level : Option ℤ) → IsScalar c → 0x20 ≤ c → c ≢ 0x7f → IsListedAt (Char c) NONE level
  alt_character : (c : ℕ) (level : Option ℤ) → IsTrue (is_ascii_alphanumeric c || is_ascii_punctuation c)
      → IsListedAt (Char c) ALT level
  none_or_alt : (key : KeyCode) (held : ℕ) (level : Option ℤ)
      → Contains (Enter ∷ Escape ∷ Backspace ∷ []) key → Contains (NONE ∷ ALT ∷ []) held → IsListedAt key held level
  -- at every level but 2, and off
  ctrl_letter : (c held : ℕ) (level : Option ℤ) → IsTrue (is_ascii_lowercase c) → ¬ IsSharedLetter c
      → level ≢ Some (pos 2)
      → Contains (CTRL ∷ (CTRL + ALT) ∷ []) held → IsListedAt (Char c) held level
  -- off
  tab_with_alt_and_shift : (held : ℕ) → Contains (NONE ∷ ALT ∷ SHIFT ∷ (ALT + SHIFT) ∷ []) held
      → IsListedAt Tab held None
  tab_with_ctrl_and_shift : (held : ℕ) → Contains ((CTRL + SHIFT) ∷ (CTRL + ALT + SHIFT) ∷ []) held
      → IsListedAt Tab held None
  edit_or_high_function : (key : KeyCode) (held : ℕ)
      → Contains edit_and_high_function_keys key → Contains any_of_three held → IsListedAt key held None
  -- at every level, but not off
  tab_or_enter : (key : KeyCode) (held : ℕ) (n : ℤ)
      → Contains (Tab ∷ Enter ∷ []) key → Contains any_of_three held → IsListedAt key held (Some n)
  -- at level 2
  ctrl_character : (c held : ℕ) → 0x20 ≤ c → c ≤ 0x7e → Contains (CTRL ∷ (CTRL + ALT) ∷ []) held
      → IsListedAt (Char c) held (Some (pos 2))
  ctrl_shift_character : (c held : ℕ) → IsTrue (is_ascii_digit c || c == 0x20)
      → Contains ((CTRL + SHIFT) ∷ (CTRL + ALT + SHIFT) ∷ []) held
      → IsListedAt (Char c) held (Some (pos 2))
  escape_or_backspace : (key : KeyCode) (held : ℕ)
      → Contains (Escape ∷ Backspace ∷ []) key → Contains any_of_three held → IsListedAt key held (Some (pos 2))

-- The same where application cursor keys are on.
pub record IsListedInApplicationMode (key : KeyCode) (held : ℕ) (level : Option ℤ) : Type 0 where
  pub home_or_end : Contains (Home ∷ End ∷ []) key
  pub any_modifiers : Contains any_of_three held
  pub off : level ≡ None

-- The same, by whether application cursor keys are on.
abbrev pub IsListedInMode : Bool → KeyCode → ℕ → Option ℤ → Type 0
IsListedInMode false key held level = IsListedAt key held level
IsListedInMode true key held level = IsListedInApplicationMode key held level

-- The key, the modifiers and the modes are listed: xterm's encoding, with newline mode off, and one of the lines.
pub record IsListed (key : KeyCode) (modifiers : Modifiers) (modes : KeyCodeEncodeModes) : Type 0 where
  pub xterm : modes.encoding ≡ Xterm
  pub newline : modes.newline_mode ≡ false
  pub line : IsListedInMode modes.application_cursor_keys key modifiers.0 modes.modify_other_keys

-- The key has a text, which means exactly that key with those modifiers.
abbrev pub ReadsBack : KeyCode → Modifiers → KeyCodeEncodeModes → Type 0
ReadsBack key modifiers modes =
    (text : List ℕ) × (enc key modifiers modes ≡ Some text)
    × Means text false (Key (record { key = key; modifiers = modifiers }) ∷ []) []

-- ESC [ c ; 1+m u
abbrev pub csi_u : ℕ → ℕ → List ℕ
csi_u c m = CSI ++ decimal c ++ codes ";" ++ decimal (1 + m) ++ codes "u"

-- the bits of the modifiers that a number stands for: 1 for Shift, 2 for Alt and 4 for Ctrl, which are the bits 2,
-- 4 and 8
abbrev pub modifiers_of : ℕ → ℕ
modifiers_of m = 2 * m

-- It means the character with its modifiers, and nothing is left.
abbrev pub CsiUReadsBack : ℕ → ℕ → Type 0
CsiUReadsBack c m = Means (csi_u c m) false (Key (key_with (Char c) (modifiers_of m)) ∷ []) []
