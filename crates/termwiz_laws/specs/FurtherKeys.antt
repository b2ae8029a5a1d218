-- Exactly the keys that read back: those that are listed, and further ones, in all modes and encodings.
use Rattle.std.specs.Prelude.{◌≡◌, ◌≢◌, ◌⊎◌, ℕ, pos, ◌+◌, ◌<◌, ◌≤◌, ◌||◌, ◌==◌, false, List, [], ◌∷◌, Some, None, Contains, IsTrue, codes}
use Rattle.std.specs.Char.{IsScalar, is_ascii_lowercase, is_ascii_uppercase, is_ascii_digit, is_ascii_alphanumeric, is_ascii_punctuation}
use Rattle.termwiz_base.specs.declared.modifiers.Modifiers.{Modifiers}
use Rattle.termwiz_keys.specs.declared.types.KeyCode.{KeyCode}
use Rattle.termwiz_keys.specs.declared.types.KeyCode.TheVariants.{Char, Backspace, Tab, Enter, Escape, PageUp, PageDown, End, Home, LeftArrow, RightArrow, UpArrow, DownArrow, Insert, Delete, Function, ApplicationLeftArrow, ApplicationRightArrow, ApplicationUpArrow, ApplicationDownArrow}
use Rattle.termwiz_keys.specs.declared.encode.KeyboardEncoding.TheVariants.{CsiU}
use Rattle.termwiz_keys.specs.declared.encode.KeyCodeEncodeModes.{KeyCodeEncodeModes}
use Rattle.termwiz_keys.specs.Keys.{NONE, SHIFT, ALT, CTRL}
use Rattle.termwiz_grammar.specs.Listed.{any_of_three, IsListed, IsSharedLetter, ReadsBack}

-- Home, End, keys of the editing block, and F1 to F24
abbrev pub named_keys : List KeyCode
named_keys =
    Home ∷ End ∷ Insert ∷ Delete ∷ PageUp ∷ PageDown
    ∷ Function 1 ∷ Function 2 ∷ Function 3 ∷ Function 4 ∷ Function 5 ∷ Function 6 ∷ Function 7 ∷ Function 8
    ∷ Function 9 ∷ Function 10 ∷ Function 11 ∷ Function 12 ∷ Function 13 ∷ Function 14 ∷ Function 15 ∷ Function 16
    ∷ Function 17 ∷ Function 18 ∷ Function 19 ∷ Function 20 ∷ Function 21 ∷ Function 22 ∷ Function 23 ∷ Function 24 ∷ []

abbrev pub arrows : List KeyCode
arrows = LeftArrow ∷ RightArrow ∷ UpArrow ∷ DownArrow ∷ []

-- keys that read back without modifiers, in all modes
abbrev pub keys_alone : List KeyCode
keys_alone = ApplicationLeftArrow ∷ ApplicationRightArrow ∷ ApplicationUpArrow ∷ ApplicationDownArrow ∷ Tab ∷ []

-- the sets of Shift, Alt and Ctrl but the empty one; those with Shift or Ctrl; and those with Ctrl
abbrev pub some_of_three : List ℕ
some_of_three = SHIFT ∷ ALT ∷ (ALT + SHIFT) ∷ CTRL ∷ (CTRL + SHIFT) ∷ (CTRL + ALT) ∷ (CTRL + ALT + SHIFT) ∷ []

abbrev pub shift_or_ctrl : List ℕ
shift_or_ctrl = SHIFT ∷ (ALT + SHIFT) ∷ CTRL ∷ (CTRL + SHIFT) ∷ (CTRL + ALT) ∷ (CTRL + ALT + SHIFT) ∷ []

abbrev pub with_ctrl : List ℕ
with_ctrl = CTRL ∷ (CTRL + SHIFT) ∷ (CTRL + ALT) ∷ (CTRL + ALT + SHIFT) ∷ []

-- Ctrl alone, and Ctrl and Alt
abbrev pub ctrl_or_ctrl_alt : List ℕ
ctrl_or_ctrl_alt = CTRL ∷ (CTRL + ALT) ∷ []

-- digits and punctuation of which Ctrl makes no control character, where 34 is the quotation mark
abbrev pub no_control_character : List ℕ
no_control_character = 34 ∷ codes "019!#$%&'()*+,-.:;<=>"

-- What Ctrl makes of these is also what other keys send: `I`, `M`, `[` and `@`.
abbrev pub ambiguous_characters : List ℕ
ambiguous_characters = codes "iImM[{@"

-- modifyOtherKeys is on, at some level
abbrev pub IsOn : KeyCodeEncodeModes → Type 0
IsOn modes = modes.modify_other_keys ≢ None

abbrev pub IsOff : KeyCodeEncodeModes → Type 0
IsOff modes = modes.modify_other_keys ≡ None

abbrev pub IsLevel : KeyCodeEncodeModes → ℕ → Type 0
IsLevel modes n = modes.modify_other_keys ≡ Some (pos n)

abbrev pub IsInCsiU : KeyCodeEncodeModes → Type 0
IsInCsiU modes = modes.encoding ≡ CsiU

-- The character is sent by its code, with the modifiers, in CsiU or where modifyOtherKeys is on: nothing shorter shows them.
pub data IsSentByCode : ℕ → ℕ → KeyCodeEncodeModes → Type 0 where
  control_or_space : (c held : ℕ) (modes : KeyCodeEncodeModes) → c ≤ 0x20 → c ≢ 8
      → Contains (SHIFT ∷ ALT ∷ (ALT + SHIFT) ∷ []) held → IsSentByCode c held modes
  control_with_ctrl : (c held : ℕ) (modes : KeyCodeEncodeModes) → c < 0x20 → c ≢ 8 → Contains with_ctrl held
      → IsSentByCode c held modes
  backspace_with_ctrl : (held : ℕ) (modes : KeyCodeEncodeModes) → IsInCsiU modes → Contains with_ctrl held
      → IsSentByCode 8 held modes
  digit_with_shift : (c : ℕ) (modes : KeyCodeEncodeModes) → IsTrue (is_ascii_digit c) → IsSentByCode c SHIFT modes
  uppercase_with_ctrl : (c held : ℕ) (modes : KeyCodeEncodeModes) → IsTrue (is_ascii_uppercase c)
      → Contains ctrl_or_ctrl_alt held → IsSentByCode c held modes
  unpaired_with_ctrl : (c : ℕ) (modes : KeyCodeEncodeModes) → Contains no_control_character c
      → IsSentByCode c CTRL modes
  unpaired_digit : (c : ℕ) (modes : KeyCodeEncodeModes) → Contains (codes "019") c
      → IsSentByCode c (CTRL + SHIFT) modes
  at_two : (c held : ℕ) (modes : KeyCodeEncodeModes) → IsLevel modes 2 → 0x20 ≤ c → c ≤ 0x7e
      → Contains ctrl_or_ctrl_alt held → IsSentByCode c held modes
  at_two_with_shift : (c held : ℕ) (modes : KeyCodeEncodeModes) → IsLevel modes 2
      → IsTrue (is_ascii_digit c || c == 0x20) → Contains ((CTRL + SHIFT) ∷ (CTRL + ALT + SHIFT) ∷ []) held
      → IsSentByCode c held modes
  ambiguous : (c held : ℕ) (modes : KeyCodeEncodeModes) → IsInCsiU modes → Contains ambiguous_characters c
      → Contains ctrl_or_ctrl_alt held → IsSentByCode c held modes

-- The code is read as the character: always in CsiU, and by modifyOtherKeys unless it is the code of Tab, Enter or Escape.
abbrev pub IsReadByCode : ℕ → KeyCodeEncodeModes → Type 0
IsReadByCode c modes = IsInCsiU modes ⊎ ((¬ IsInCsiU modes) × IsOn modes × (¬ Contains (9 ∷ 10 ∷ 13 ∷ 27 ∷ []) c))

-- A key reads back in these modes, with the bits of the modifiers that are held. Each line below says it of some keys: first which
-- modes, then which key, then which modifiers. A key reads back if any line has it. The lines overlap, and the listed keys are among them.
-- By the law `only_these_read_back` there are no others.
pub data ReadsBackToo : KeyCode → ℕ → KeyCodeEncodeModes → Type 0 where
  -- in all modes
  -- keys that have a name and no character, with any set of the three modifiers
  any_modifiers : (key : KeyCode) (held : ℕ) (modes : KeyCodeEncodeModes)
      → Contains named_keys key → Contains any_of_three held → ReadsBackToo key held modes
  -- an arrow with at least one of the three
  modified_arrow : (key : KeyCode) (held : ℕ) (modes : KeyCodeEncodeModes)
      → Contains arrows key → Contains some_of_three held → ReadsBackToo key held modes
  alone : (key : KeyCode) (modes : KeyCodeEncodeModes) → Contains keys_alone key → ReadsBackToo key NONE modes
  none_or_alt : (key : KeyCode) (held : ℕ) (modes : KeyCodeEncodeModes)
      → Contains (Escape ∷ Backspace ∷ []) key → Contains (NONE ∷ ALT ∷ []) held → ReadsBackToo key held modes
  -- a character that is its own text
  character : (c : ℕ) (modes : KeyCodeEncodeModes) → IsScalar c → (c ≡ 0) ⊎ (28 ≤ c) → c ≢ 0x7f
      → ReadsBackToo (Char c) NONE modes
  -- ESC and a printable character of ASCII
  alt_character : (c : ℕ) (modes : KeyCodeEncodeModes) → IsTrue (is_ascii_alphanumeric c || is_ascii_punctuation c)
      → ReadsBackToo (Char c) ALT modes
  -- where application cursor keys are off, or newline mode
  arrow_alone : (key : KeyCode) (modes : KeyCodeEncodeModes) → modes.application_cursor_keys ≡ false
      → Contains arrows key → ReadsBackToo key NONE modes
  enter : (held : ℕ) (modes : KeyCodeEncodeModes) → modes.newline_mode ≡ false
      → Contains (NONE ∷ ALT ∷ []) held → ReadsBackToo Enter held modes
  -- where modifyOtherKeys isn't at level 2, or is off
  -- a control character, unless another key sends it too
  ctrl_letter : (c held : ℕ) (modes : KeyCodeEncodeModes) → ¬ IsLevel modes 2 → IsTrue (is_ascii_lowercase c)
      → ¬ IsSharedLetter c → Contains ctrl_or_ctrl_alt held → ReadsBackToo (Char c) held modes
  -- what xterm sends for Tab, with ESC [ Z for Shift
  tab : (held : ℕ) (modes : KeyCodeEncodeModes) → IsOff modes
      → Contains (ALT ∷ SHIFT ∷ (ALT + SHIFT) ∷ (CTRL + SHIFT) ∷ (CTRL + ALT + SHIFT) ∷ []) held
      → ReadsBackToo Tab held modes
  alt_beyond_ascii : (c : ℕ) (modes : KeyCodeEncodeModes) → IsOff modes → IsScalar c → 0x80 ≤ c
      → ReadsBackToo (Char c) ALT modes
  alt_control_or_space : (c : ℕ) (modes : KeyCodeEncodeModes) → IsOff modes → ¬ IsInCsiU modes
      → (c ≡ 0) ⊎ ((28 ≤ c) × (c ≤ 0x20)) → ReadsBackToo (Char c) ALT modes
  -- where modifyOtherKeys is on, in an encoding other than CsiU
  tab_by_code : (held : ℕ) (modes : KeyCodeEncodeModes) → IsOn modes → ¬ IsInCsiU modes
      → Contains some_of_three held → ReadsBackToo Tab held modes
  enter_by_code : (held : ℕ) (modes : KeyCodeEncodeModes) → IsOn modes → ¬ IsInCsiU modes
      → Contains shift_or_ctrl held → ReadsBackToo Enter held modes
  escape_or_backspace_by_code : (key : KeyCode) (held : ℕ) (modes : KeyCodeEncodeModes) → IsOn modes
      → ¬ IsLevel modes 1 → ¬ IsInCsiU modes
      → Contains (Escape ∷ Backspace ∷ []) key → Contains shift_or_ctrl held → ReadsBackToo key held modes
  -- by its code, in CsiU or where modifyOtherKeys is on
  by_code : (c held : ℕ) (modes : KeyCodeEncodeModes) → IsSentByCode c held modes → IsReadByCode c modes
      → ReadsBackToo (Char c) held modes

-- Each of these keys has a text, which means exactly that key with those modifiers.
abbrev pub FurtherKeysReadBack : Type 0
FurtherKeysReadBack = (key : KeyCode) (modifiers : Modifiers) (modes : KeyCodeEncodeModes)
    → ReadsBackToo key modifiers.0 modes → ReadsBack key modifiers modes

-- No other key reads back: whatever the modifiers and the modes are.
abbrev pub OnlyTheseReadBack : Type 0
OnlyTheseReadBack = (key : KeyCode) (modifiers : Modifiers) (modes : KeyCodeEncodeModes)
    → ReadsBack key modifiers modes → ReadsBackToo key modifiers.0 modes

-- The listed keys are among them.
abbrev pub ListedAreAmongThem : Type 0
ListedAreAmongThem = (key : KeyCode) (modifiers : Modifiers) (modes : KeyCodeEncodeModes)
    → IsListed key modifiers modes → ReadsBackToo key modifiers.0 modes
