-- Which keys make a press, and under which name a key is known whatever mode the terminal is in.
use Rattle.std.specs.Prelude.{ℕ, Bool, true, false, not, ◌==◌, ◌&&◌, ◌||◌, List, [], ◌∷◌, nat_le, option_map, unwrap_or}
use Rattle.termwiz_keys.specs.declared.types.KeyCode.{KeyCode}
use Rattle.termwiz_keys.specs.declared.types.KeyCode.TheVariants.{Char, Hyper, Super, Meta, Shift, LeftShift, RightShift, Control, LeftControl, RightControl, Alt, LeftAlt, RightAlt, LeftWindows, RightWindows, Menu, LeftMenu, RightMenu, CapsLock, NumLock, ScrollLock, InternalPasteStart, InternalPasteEnd, Enter, UpArrow, DownArrow, LeftArrow, RightArrow, Home, End, PageUp, PageDown, Insert, Delete, ApplicationLeftArrow, ApplicationRightArrow, ApplicationUpArrow, ApplicationDownArrow, KeyPadHome, KeyPadEnd, KeyPadPageUp, KeyPadPageDown, Numpad0, Numpad1, Numpad2, Numpad3, Numpad4, Numpad5, Numpad6, Numpad7, Numpad8, Numpad9, Multiply, Add, Separator, Subtract, Decimal, Divide}
use Rattle.termwiz_extended_events.specs.declared.types.ReportedKey.{ReportedKey}
use Rattle.termwiz_extended_events.specs.declared.types.ReportedKey.TheVariants.{Named, Functional}
use Rattle.termwiz_extended_events.specs.ReportedKeys.{entry_at, is_functional, functional_key}

-- the key is held to modify another one
abbrev pub is_modifier : KeyCode → Bool
is_modifier Hyper = true
is_modifier Super = true
is_modifier Meta = true
is_modifier Shift = true
is_modifier LeftShift = true
is_modifier RightShift = true
is_modifier Control = true
is_modifier LeftControl = true
is_modifier RightControl = true
is_modifier Alt = true
is_modifier LeftAlt = true
is_modifier RightAlt = true
is_modifier LeftWindows = true
is_modifier RightWindows = true
is_modifier key = false

-- Windows' names for Alt, the locks, and the marks of a paste
abbrev pub is_menu_lock_or_mark : KeyCode → Bool
is_menu_lock_or_mark Menu = true
is_menu_lock_or_mark LeftMenu = true
is_menu_lock_or_mark RightMenu = true
is_menu_lock_or_mark CapsLock = true
is_menu_lock_or_mark NumLock = true
is_menu_lock_or_mark ScrollLock = true
is_menu_lock_or_mark InternalPasteStart = true
is_menu_lock_or_mark InternalPasteEnd = true
is_menu_lock_or_mark key = false

-- kitty's numbers of the locks, 57358 to 57360, and of the modifier keys, 57441 to 57454
abbrev pub is_modifier_number : ℕ → Bool
is_modifier_number n = (nat_le 57358 n && nat_le n 57360) || (nat_le 57441 n && nat_le n 57454)

-- The key makes no press by itself: a modifier or a lock, a mark of a paste, or a number that isn't in kitty's table.
unfoldable pub makes_no_press : ReportedKey → Bool
makes_no_press (Named key) = is_modifier key || is_menu_lock_or_mark key
makes_no_press (Functional n) = is_modifier_number n || not (is_functional n)

-- text that comes without a key
abbrev pub is_no_key : ReportedKey → Bool
is_no_key (Functional n) = n == 0
is_no_key (Named key) = false

-- a functional key by its name, if it has one
abbrev pub named : ReportedKey → ReportedKey
named (Functional n) = functional_key n
named (Named key) = Named key

-- The key of the main block that does or types the same as a key of the keypad or an arrow in application mode. Any other key is its own.
unfoldable pub main_code : KeyCode → KeyCode
main_code ApplicationLeftArrow = LeftArrow
main_code ApplicationRightArrow = RightArrow
main_code ApplicationUpArrow = UpArrow
main_code ApplicationDownArrow = DownArrow
main_code KeyPadHome = Home
main_code KeyPadEnd = End
main_code KeyPadPageUp = PageUp
main_code KeyPadPageDown = PageDown
main_code Numpad0 = Char 48
main_code Numpad1 = Char 49
main_code Numpad2 = Char 50
main_code Numpad3 = Char 51
main_code Numpad4 = Char 52
main_code Numpad5 = Char 53
main_code Numpad6 = Char 54
main_code Numpad7 = Char 55
main_code Numpad8 = Char 56
main_code Numpad9 = Char 57
main_code Multiply = Char 42
main_code Add = Char 43
main_code Separator = Char 44
main_code Subtract = Char 45
main_code Decimal = Char 46
main_code Divide = Char 47
main_code key = key

-- the keys of the keypad that have no name, by kitty's numbers
abbrev pub nameless_keys : List (ℕ × KeyCode)
nameless_keys =
    (57414, Enter) ∷ (57415, Char 61) ∷ (57417, LeftArrow) ∷ (57418, RightArrow) ∷ (57419, UpArrow) ∷ (57420, DownArrow)
    ∷ (57425, Insert) ∷ (57426, Delete) ∷ []

-- the main key of a key that has its name
unfoldable pub main_of_named : ReportedKey → ReportedKey
main_of_named (Named key) = Named (main_code key)
main_of_named (Functional n) = unwrap_or (option_map Named (entry_at nameless_keys n)) (Functional n)

-- the main key of a key
abbrev pub main_key : ReportedKey → ReportedKey
main_key key = main_of_named (named key)
