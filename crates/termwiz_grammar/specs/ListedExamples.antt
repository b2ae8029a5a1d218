-- Examples of keys that read back, line by line of `IsListedAt`, and neighbours of them that aren't listed.
use Rattle.std.specs.Prelude.{ℕ, ℤ, pos, ◌+◌, true, List, [], ◌∷◌, Option, Some, None}
use Rattle.std.specs.List.{AllByRecursion}
use Rattle.termwiz_keys.specs.declared.types.KeyCode.{KeyCode}
use Rattle.termwiz_keys.specs.declared.types.KeyCode.TheVariants.{Char, Backspace, Tab, Enter, Escape, PageUp, PageDown, End, Home, LeftArrow, RightArrow, UpArrow, DownArrow, Insert, Delete, Function, ApplicationLeftArrow, ApplicationRightArrow, ApplicationUpArrow, ApplicationDownArrow, KeyPadHome, KeyPadPageUp}
use Rattle.termwiz_keys.specs.Keys.{NONE, SHIFT, ALT, CTRL}
use Rattle.termwiz_grammar.specs.Listed.{IsListedAt, IsListedInMode}

-- a key, the bits of the modifiers that are held with it, and the level of modifyOtherKeys
abbrev pub Press : Type 0
Press = KeyCode × ℕ × Option ℤ

abbrev pub off : Option ℤ
off = None

abbrev pub level : ℕ → Option ℤ
level n = Some (pos n)

-- a modifier that no listed key has
abbrev pub SUPER : ℕ
SUPER = 16

-- all of these are listed
abbrev pub AllListed : List Press → Type 0
AllListed presses = AllByRecursion (λ p. IsListedAt p.0 p.1 p.2) presses

-- none of these is
abbrev pub NoneListed : List Press → Type 0
NoneListed presses = AllByRecursion (λ p. ¬ IsListedAt p.0 p.1 p.2) presses

-- the arrows, Home, End and F1 to F20
abbrev pub cursor_and_function_keys : List Press
cursor_and_function_keys =
    (LeftArrow, NONE, off) ∷ (RightArrow, SHIFT, level 0) ∷ (UpArrow, ALT, level 1) ∷ (DownArrow, ALT + SHIFT, level 2)
    ∷ (Home, CTRL, level 3) ∷ (End, CTRL + SHIFT, off) ∷ (Function 1, CTRL + ALT, level 0)
    ∷ (Function 2, CTRL + ALT + SHIFT, level 1) ∷ (Function 3, NONE, level 2) ∷ (Function 4, SHIFT, level 3)
    ∷ (Function 5, ALT, off) ∷ (Function 6, ALT + SHIFT, level 0) ∷ (Function 7, CTRL, level 1)
    ∷ (Function 8, CTRL + SHIFT, level 2) ∷ (Function 9, CTRL + ALT, level 3) ∷ (Function 10, CTRL + ALT + SHIFT, off)
    ∷ (Function 11, NONE, level 0) ∷ (Function 12, SHIFT, level 1) ∷ (Function 13, ALT, level 2)
    ∷ (Function 14, ALT + SHIFT, level 3) ∷ (Function 15, CTRL, off) ∷ (Function 16, CTRL + SHIFT, level 0)
    ∷ (Function 17, CTRL + ALT, level 1) ∷ (Function 18, CTRL + ALT + SHIFT, level 2) ∷ (Function 19, NONE, level 3)
    ∷ (Function 20, SHIFT, off) ∷ []

abbrev pub unlisted_near_cursor_and_function_keys : List Press
unlisted_near_cursor_and_function_keys =
    (UpArrow, SUPER, off) ∷ (Function 0, NONE, off) ∷ (Function 21, NONE, level 1) ∷ (Function 25, NONE, off)
    ∷ (KeyPadHome, NONE, off) ∷ []

-- the application arrows and the editing block
abbrev pub keys_without_modifiers : List Press
keys_without_modifiers =
    (ApplicationLeftArrow, NONE, off) ∷ (ApplicationRightArrow, NONE, level 0) ∷ (ApplicationUpArrow, NONE, level 1)
    ∷ (ApplicationDownArrow, NONE, level 2) ∷ (PageUp, NONE, level 3) ∷ (PageDown, NONE, off) ∷ (Insert, NONE, level 0)
    ∷ (Delete, NONE, level 1) ∷ []

abbrev pub unlisted_near_keys_without_modifiers : List Press
unlisted_near_keys_without_modifiers =
    (ApplicationUpArrow, SHIFT, off) ∷ (PageUp, CTRL, level 1) ∷ (Delete, SHIFT, level 2)
    ∷ (KeyPadPageUp, NONE, off) ∷ []

-- characters alone, of each length in UTF-8: from the space on, but not DEL
abbrev pub characters : List Press
characters =
    (Char 0x20, NONE, off) ∷ (Char 0x7e, NONE, level 0) ∷ (Char 0x80, NONE, level 1) ∷ (Char 0x7ff, NONE, level 2)
    ∷ (Char 0x800, NONE, level 3) ∷ (Char 0xfffd, NONE, off) ∷ (Char 0x10000, NONE, level 0)
    ∷ (Char 0x10ffff, NONE, level 1) ∷ []

abbrev pub unlisted_near_characters : List Press
unlisted_near_characters =
    (Char 0x1f, NONE, off) ∷ (Char 0x7f, NONE, off) ∷ (Char 0x61, SHIFT, off) ∷ []

-- printable ASCII but the space, with Alt
abbrev pub characters_with_alt : List Press
characters_with_alt =
    (Char 0x21, ALT, off) ∷ (Char 0x30, ALT, level 0) ∷ (Char 0x41, ALT, level 1) ∷ (Char 0x5b, ALT, level 2)
    ∷ (Char 0x61, ALT, level 3) ∷ (Char 0x7e, ALT, off) ∷ []

abbrev pub unlisted_near_characters_with_alt : List Press
unlisted_near_characters_with_alt =
    (Char 0x20, ALT, off) ∷ (Char 0x7f, ALT, off) ∷ (Char 0xe9, ALT, off) ∷ (Char 0x61, ALT + SHIFT, off) ∷ []

-- Enter, Escape and Backspace
abbrev pub enter_escape_backspace : List Press
enter_escape_backspace =
    (Enter, NONE, off) ∷ (Escape, ALT, level 1) ∷ (Backspace, NONE, level 2) ∷ (Enter, ALT, level 3)
    ∷ (Escape, NONE, level 0) ∷ (Backspace, ALT, off) ∷ []

abbrev pub unlisted_near_enter_escape_backspace : List Press
unlisted_near_enter_escape_backspace =
    (Enter, SHIFT, off) ∷ (Escape, CTRL, level 1) ∷ (Backspace, SHIFT, off) ∷ []

-- lower case letters with Ctrl, but `h`, `i`, `j` and `m`
abbrev pub letters_with_ctrl : List Press
letters_with_ctrl =
    (Char 0x61, CTRL, off) ∷ (Char 0x67, CTRL + ALT, level 0) ∷ (Char 0x6b, CTRL, level 1)
    ∷ (Char 0x6c, CTRL + ALT, level 3) ∷ (Char 0x6e, CTRL, off) ∷ (Char 0x7a, CTRL + ALT, level 0) ∷ []

abbrev pub unlisted_near_letters_with_ctrl : List Press
unlisted_near_letters_with_ctrl =
    (Char 0x68, CTRL, off) ∷ (Char 0x69, CTRL, off) ∷ (Char 0x6a, CTRL, off) ∷ (Char 0x6d, CTRL, off)
    ∷ (Char 0x41, CTRL, off) ∷ (Char 0x60, CTRL, off) ∷ (Char 0x7b, CTRL, off) ∷ (Char 0x61, CTRL + SHIFT, off) ∷ []

-- Tab, where modifyOtherKeys is off
abbrev pub tabs_with_alt_or_shift : List Press
tabs_with_alt_or_shift =
    (Tab, NONE, off) ∷ (Tab, ALT, off) ∷ (Tab, SHIFT, off) ∷ (Tab, ALT + SHIFT, off) ∷ []

abbrev pub unlisted_near_tabs_with_alt_or_shift : List Press
unlisted_near_tabs_with_alt_or_shift =
    (Tab, CTRL, off) ∷ (Tab, CTRL + ALT, off) ∷ []

-- the same with Ctrl and Shift
abbrev pub tabs_with_ctrl_and_shift : List Press
tabs_with_ctrl_and_shift =
    (Tab, CTRL + SHIFT, off) ∷ (Tab, CTRL + ALT + SHIFT, off) ∷ []

-- the editing block and F21 to F24 with modifiers, where it is off
abbrev pub edit_and_high_function_keys : List Press
edit_and_high_function_keys =
    (Insert, NONE, off) ∷ (Delete, SHIFT, off) ∷ (PageUp, ALT, off) ∷ (PageDown, ALT + SHIFT, off)
    ∷ (Function 21, CTRL, off) ∷ (Function 22, CTRL + SHIFT, off) ∷ (Function 23, CTRL + ALT, off)
    ∷ (Function 24, CTRL + ALT + SHIFT, off) ∷ (Insert, CTRL + ALT + SHIFT, off) ∷ (Delete, CTRL + ALT, off)
    ∷ (PageUp, CTRL + SHIFT, off) ∷ (PageDown, CTRL, off) ∷ (Function 21, ALT + SHIFT, off) ∷ (Function 22, ALT, off)
    ∷ (Function 23, SHIFT, off) ∷ (Function 24, NONE, off) ∷ []

abbrev pub unlisted_near_edit_and_high_function_keys : List Press
unlisted_near_edit_and_high_function_keys =
    (Insert, SHIFT, level 0) ∷ (Function 24, NONE, level 1) ∷ (Home, SUPER, off) ∷ []

-- Tab and Enter, where it is on
abbrev pub tab_and_enter : List Press
tab_and_enter =
    (Tab, NONE, level 0) ∷ (Enter, NONE, level 1) ∷ (Tab, SHIFT, level 2) ∷ (Enter, SHIFT, level 3)
    ∷ (Tab, ALT, level 0)
    ∷ (Enter, ALT, level 1) ∷ (Tab, ALT + SHIFT, level 2) ∷ (Enter, ALT + SHIFT, level 3) ∷ (Tab, CTRL, level 0)
    ∷ (Enter, CTRL, level 1) ∷ (Tab, CTRL + SHIFT, level 2) ∷ (Enter, CTRL + SHIFT, level 3)
    ∷ (Tab, CTRL + ALT, level 0)
    ∷ (Enter, CTRL + ALT, level 1) ∷ (Tab, CTRL + ALT + SHIFT, level 2) ∷ (Enter, CTRL + ALT + SHIFT, level 3) ∷ []

abbrev pub unlisted_near_tab_and_enter : List Press
unlisted_near_tab_and_enter =
    (Enter, CTRL, off) ∷ (Tab, SUPER, level 1) ∷ []

-- printable ASCII with Ctrl at level 2
abbrev pub characters_with_ctrl : List Press
characters_with_ctrl =
    (Char 0x20, CTRL, level 2) ∷ (Char 0x41, CTRL + ALT, level 2) ∷ (Char 0x69, CTRL, level 2)
    ∷ (Char 0x7e, CTRL + ALT, level 2) ∷ []

abbrev pub unlisted_near_characters_with_ctrl : List Press
unlisted_near_characters_with_ctrl =
    (Char 0x7f, CTRL, level 2) ∷ (Char 0x20, CTRL, level 1) ∷ (Char 0x20, CTRL + ALT, off)
    ∷ (Char 0x1f, CTRL, level 2) ∷ []

-- digits and the space with Ctrl and Shift at level 2
abbrev pub digits_with_ctrl_and_shift : List Press
digits_with_ctrl_and_shift =
    (Char 0x20, CTRL + SHIFT, level 2) ∷ (Char 0x30, CTRL + ALT + SHIFT, level 2)
    ∷ (Char 0x39, CTRL + SHIFT, level 2) ∷ []

abbrev pub unlisted_near_digits_with_ctrl_and_shift : List Press
unlisted_near_digits_with_ctrl_and_shift =
    (Char 0x2f, CTRL + SHIFT, level 2) ∷ (Char 0x3a, CTRL + SHIFT, level 2) ∷ (Char 0x61, CTRL + SHIFT, level 2)
    ∷ (Char 0x30, CTRL + SHIFT, level 1) ∷ []

-- Escape and Backspace at level 2
abbrev pub escape_and_backspace : List Press
escape_and_backspace =
    (Escape, NONE, level 2) ∷ (Backspace, NONE, level 2) ∷ (Escape, SHIFT, level 2) ∷ (Backspace, SHIFT, level 2)
    ∷ (Escape, ALT, level 2) ∷ (Backspace, ALT, level 2) ∷ (Escape, ALT + SHIFT, level 2)
    ∷ (Backspace, ALT + SHIFT, level 2) ∷ (Escape, CTRL, level 2) ∷ (Backspace, CTRL, level 2)
    ∷ (Escape, CTRL + SHIFT, level 2) ∷ (Backspace, CTRL + SHIFT, level 2) ∷ (Escape, CTRL + ALT, level 2)
    ∷ (Backspace, CTRL + ALT, level 2) ∷ (Escape, CTRL + ALT + SHIFT, level 2)
    ∷ (Backspace, CTRL + ALT + SHIFT, level 2) ∷ []

abbrev pub unlisted_near_escape_and_backspace : List Press
unlisted_near_escape_and_backspace =
    (Escape, SHIFT, level 1) ∷ (Backspace, CTRL, level 3) ∷ (Escape, SHIFT, off) ∷ []

-- Of each line these keys are listed, and these aren't.
pub record ListedExamples : Type 0 where
  pub cursor_and_function_keys_are : AllListed cursor_and_function_keys
  pub near_cursor_and_function_keys : NoneListed unlisted_near_cursor_and_function_keys
  pub keys_without_modifiers_are : AllListed keys_without_modifiers
  pub near_keys_without_modifiers : NoneListed unlisted_near_keys_without_modifiers
  pub characters_are : AllListed characters
  pub near_characters : NoneListed unlisted_near_characters
  pub characters_with_alt_are : AllListed characters_with_alt
  pub near_characters_with_alt : NoneListed unlisted_near_characters_with_alt
  pub enter_escape_backspace_are : AllListed enter_escape_backspace
  pub near_enter_escape_backspace : NoneListed unlisted_near_enter_escape_backspace
  pub letters_with_ctrl_are : AllListed letters_with_ctrl
  pub near_letters_with_ctrl : NoneListed unlisted_near_letters_with_ctrl
  pub tabs_with_alt_or_shift_are : AllListed tabs_with_alt_or_shift
  pub near_tabs_with_alt_or_shift : NoneListed unlisted_near_tabs_with_alt_or_shift
  pub tabs_with_ctrl_and_shift_are : AllListed tabs_with_ctrl_and_shift
  pub edit_and_high_function_keys_are : AllListed edit_and_high_function_keys
  pub near_edit_and_high_function_keys : NoneListed unlisted_near_edit_and_high_function_keys
  pub tab_and_enter_are : AllListed tab_and_enter
  pub near_tab_and_enter : NoneListed unlisted_near_tab_and_enter
  pub characters_with_ctrl_are : AllListed characters_with_ctrl
  pub near_characters_with_ctrl : NoneListed unlisted_near_characters_with_ctrl
  pub digits_with_ctrl_and_shift_are : AllListed digits_with_ctrl_and_shift
  pub near_digits_with_ctrl_and_shift : NoneListed unlisted_near_digits_with_ctrl_and_shift
  pub escape_and_backspace_are : AllListed escape_and_backspace
  pub near_escape_and_backspace : NoneListed unlisted_near_escape_and_backspace
  -- with application cursor keys on only Home and End are listed, where modifyOtherKeys is off
  pub home_in_application_mode : IsListedInMode true Home CTRL off
  pub end_in_application_mode : IsListedInMode true End (CTRL + ALT + SHIFT) off
  pub no_arrow_in_application_mode : ¬ IsListedInMode true UpArrow NONE off
  pub none_beside_other_keys : ¬ IsListedInMode true Home NONE (level 1)
  pub no_other_modifier_in_application_mode : ¬ IsListedInMode true End SUPER off
