-- The names that lines show: of keys, and of the flags of a set.
use Rattle.std.specs.Prelude.{◌==◌, ◌-◌, ℕ, List, [], ◌∷◌, ◌++◌, true, not, length, replicate, codes, filter, map, bit_and}
use Rattle.std.specs.List.{join_with_byte}
use Rattle.std.specs.Fmt.{decimal, digits}
use Rattle.termwiz_input.specs.KeyCode.{KeyCode}
use Rattle.termwiz_input.specs.KeyCode.TheVariants.{Char, Hyper, Super, Meta, Cancel, Backspace, Tab, Clear, Enter, Shift, Escape, LeftShift, RightShift, Control, LeftControl, RightControl, Alt, LeftAlt, RightAlt, Menu, LeftMenu, RightMenu, Pause, CapsLock, PageUp, PageDown, End, Home, LeftArrow, RightArrow, UpArrow, DownArrow, Select, Print, Execute, PrintScreen, Insert, Delete, Help, LeftWindows, RightWindows, Applications, Sleep, Numpad0, Numpad1, Numpad2, Numpad3, Numpad4, Numpad5, Numpad6, Numpad7, Numpad8, Numpad9, Multiply, Add, Separator, Subtract, Decimal, Divide, Function, NumLock, ScrollLock, Copy, Cut, Paste, BrowserBack, BrowserForward, BrowserRefresh, BrowserStop, BrowserSearch, BrowserFavorites, BrowserHome, VolumeMute, VolumeDown, VolumeUp, MediaNextTrack, MediaPrevTrack, MediaStop, MediaPlayPause, ApplicationLeftArrow, ApplicationRightArrow, ApplicationUpArrow, ApplicationDownArrow, KeyPadHome, KeyPadEnd, KeyPadPageUp, KeyPadPageDown, KeyPadBegin, InternalPasteStart, InternalPasteEnd}

-- the name of a key's variant
unfoldable pub variant_name : KeyCode → List ℕ
variant_name (Char c) = codes "Char"
variant_name Hyper = codes "Hyper"
variant_name Super = codes "Super"
variant_name Meta = codes "Meta"
variant_name Cancel = codes "Cancel"
variant_name Backspace = codes "Backspace"
variant_name Tab = codes "Tab"
variant_name Clear = codes "Clear"
variant_name Enter = codes "Enter"
variant_name Shift = codes "Shift"
variant_name Escape = codes "Escape"
variant_name LeftShift = codes "LeftShift"
variant_name RightShift = codes "RightShift"
variant_name Control = codes "Control"
variant_name LeftControl = codes "LeftControl"
variant_name RightControl = codes "RightControl"
variant_name Alt = codes "Alt"
variant_name LeftAlt = codes "LeftAlt"
variant_name RightAlt = codes "RightAlt"
variant_name Menu = codes "Menu"
variant_name LeftMenu = codes "LeftMenu"
variant_name RightMenu = codes "RightMenu"
variant_name Pause = codes "Pause"
variant_name CapsLock = codes "CapsLock"
variant_name PageUp = codes "PageUp"
variant_name PageDown = codes "PageDown"
variant_name End = codes "End"
variant_name Home = codes "Home"
variant_name LeftArrow = codes "LeftArrow"
variant_name RightArrow = codes "RightArrow"
variant_name UpArrow = codes "UpArrow"
variant_name DownArrow = codes "DownArrow"
variant_name Select = codes "Select"
variant_name Print = codes "Print"
variant_name Execute = codes "Execute"
variant_name PrintScreen = codes "PrintScreen"
variant_name Insert = codes "Insert"
variant_name Delete = codes "Delete"
variant_name Help = codes "Help"
variant_name LeftWindows = codes "LeftWindows"
variant_name RightWindows = codes "RightWindows"
variant_name Applications = codes "Applications"
variant_name Sleep = codes "Sleep"
variant_name Numpad0 = codes "Numpad0"
variant_name Numpad1 = codes "Numpad1"
variant_name Numpad2 = codes "Numpad2"
variant_name Numpad3 = codes "Numpad3"
variant_name Numpad4 = codes "Numpad4"
variant_name Numpad5 = codes "Numpad5"
variant_name Numpad6 = codes "Numpad6"
variant_name Numpad7 = codes "Numpad7"
variant_name Numpad8 = codes "Numpad8"
variant_name Numpad9 = codes "Numpad9"
variant_name Multiply = codes "Multiply"
variant_name Add = codes "Add"
variant_name Separator = codes "Separator"
variant_name Subtract = codes "Subtract"
variant_name Decimal = codes "Decimal"
variant_name Divide = codes "Divide"
variant_name (Function n) = codes "Function"
variant_name NumLock = codes "NumLock"
variant_name ScrollLock = codes "ScrollLock"
variant_name Copy = codes "Copy"
variant_name Cut = codes "Cut"
variant_name Paste = codes "Paste"
variant_name BrowserBack = codes "BrowserBack"
variant_name BrowserForward = codes "BrowserForward"
variant_name BrowserRefresh = codes "BrowserRefresh"
variant_name BrowserStop = codes "BrowserStop"
variant_name BrowserSearch = codes "BrowserSearch"
variant_name BrowserFavorites = codes "BrowserFavorites"
variant_name BrowserHome = codes "BrowserHome"
variant_name VolumeMute = codes "VolumeMute"
variant_name VolumeDown = codes "VolumeDown"
variant_name VolumeUp = codes "VolumeUp"
variant_name MediaNextTrack = codes "MediaNextTrack"
variant_name MediaPrevTrack = codes "MediaPrevTrack"
variant_name MediaStop = codes "MediaStop"
variant_name MediaPlayPause = codes "MediaPlayPause"
variant_name ApplicationLeftArrow = codes "ApplicationLeftArrow"
variant_name ApplicationRightArrow = codes "ApplicationRightArrow"
variant_name ApplicationUpArrow = codes "ApplicationUpArrow"
variant_name ApplicationDownArrow = codes "ApplicationDownArrow"
variant_name KeyPadHome = codes "KeyPadHome"
variant_name KeyPadEnd = codes "KeyPadEnd"
variant_name KeyPadPageUp = codes "KeyPadPageUp"
variant_name KeyPadPageDown = codes "KeyPadPageDown"
variant_name KeyPadBegin = codes "KeyPadBegin"
variant_name InternalPasteStart = codes "InternalPasteStart"
variant_name InternalPasteEnd = codes "InternalPasteEnd"

-- a character as the Unicode standard writes it: U+ and its code point in uppercase hexadecimal digits, padded with
-- zeros (48) to at least four digits
abbrev pub code_point : ℕ → List ℕ
code_point c = let hexadecimal = digits 16 true c in codes "U+" ++ replicate (4 - length hexadecimal) 48 ++ hexadecimal

-- a character as its code point, a function key as F and its number, another key as its variant
unfoldable pub key_name : KeyCode → List ℕ
key_name (Char c) = code_point c
key_name (Function n) = codes "F" ++ decimal n
key_name key = variant_name key

-- a flag: its name and its bit
abbrev pub NamedFlag : Type 0
NamedFlag = List ℕ × ℕ

-- the modifiers, in the order of their bits
abbrev pub modifier_flags : List NamedFlag
modifier_flags =
    (codes "SHIFT", 2)
    ∷ (codes "ALT", 4)
    ∷ (codes "CTRL", 8)
    ∷ (codes "SUPER", 16)
    ∷ (codes "LEFT_ALT", 32)
    ∷ (codes "RIGHT_ALT", 64)
    ∷ (codes "LEADER", 128)
    ∷ (codes "LEFT_CTRL", 256)
    ∷ (codes "RIGHT_CTRL", 512)
    ∷ (codes "LEFT_SHIFT", 1024)
    ∷ (codes "RIGHT_SHIFT", 2048)
    ∷ []

-- the mouse buttons, in the order of their bits
abbrev pub button_flags : List NamedFlag
button_flags =
    (codes "LEFT", 2)
    ∷ (codes "RIGHT", 4)
    ∷ (codes "MIDDLE", 8)
    ∷ (codes "VERT_WHEEL", 16)
    ∷ (codes "HORZ_WHEEL", 32)
    ∷ (codes "WHEEL_POSITIVE", 64)
    ∷ []

-- the names of the flags whose bits are all in a set of bits
abbrev pub names_in_set : List NamedFlag → ℕ → List (List ℕ)
names_in_set flags bits = map (λ flag. flag.0) (filter (λ flag. bit_and bits flag.1 == flag.1) flags)

-- names joined by + (43), or NONE if there are none
abbrev pub joined_names : List (List ℕ) → List ℕ
joined_names [] = codes "NONE"
joined_names (name ∷ names) = join_with_byte 43 (name ∷ names)

-- the flags of a table that have a bit, which NONE has not
abbrev pub flags_with_a_bit : List NamedFlag → List NamedFlag
flags_with_a_bit flags = filter (λ flag. not (flag.1 == 0)) flags
