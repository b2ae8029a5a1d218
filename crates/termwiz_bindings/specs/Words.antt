-- The words that name keys and modifiers. They are read in any case, and printed in lower case.
use Rattle.std.specs.Prelude.{ℕ, List, [], ◌∷◌, codes, Option, find, option_map}
use Rattle.std.specs.Option.{option_or}
use Rattle.std.specs.Str.{str_eq_ignore_ascii_case}
use Rattle.termwiz_keys.specs.declared.types.KeyCode.{KeyCode}
use Rattle.termwiz_keys.specs.declared.types.KeyCode.TheVariants.{Char, Hyper, Super, Meta, Cancel, Backspace, Tab, Clear, Enter, Shift, Escape, LeftShift, RightShift, Control, LeftControl, RightControl, Alt, LeftAlt, RightAlt, Menu, LeftMenu, RightMenu, Pause, CapsLock, PageUp, PageDown, End, Home, LeftArrow, RightArrow, UpArrow, DownArrow, Select, Print, Execute, PrintScreen, Insert, Delete, Help, LeftWindows, RightWindows, Applications, Sleep, Numpad0, Numpad1, Numpad2, Numpad3, Numpad4, Numpad5, Numpad6, Numpad7, Numpad8, Numpad9, Multiply, Add, Separator, Subtract, Decimal, Divide, Function, NumLock, ScrollLock, Copy, Cut, Paste, BrowserBack, BrowserForward, BrowserRefresh, BrowserStop, BrowserSearch, BrowserFavorites, BrowserHome, VolumeMute, VolumeDown, VolumeUp, MediaNextTrack, MediaPrevTrack, MediaStop, MediaPlayPause, ApplicationLeftArrow, ApplicationRightArrow, ApplicationUpArrow, ApplicationDownArrow, KeyPadHome, KeyPadEnd, KeyPadPageUp, KeyPadPageDown, KeyPadBegin, InternalPasteStart, InternalPasteEnd}
use Rattle.termwiz_bindings.specs.Presses.{SHIFT, ALT, CTRL, SUPER, HYPER, META}

-- the word that is printed for a key: another one than that of its code for the arrows, for the 5 of the keypad, and for the menu key
unfoldable pub printed_word : KeyCode → List ℕ
printed_word (Char c) = codes "char"
printed_word Hyper = codes "hyper"
printed_word Super = codes "super"
printed_word Meta = codes "meta"
printed_word Cancel = codes "cancel"
printed_word Backspace = codes "backspace"
printed_word Tab = codes "tab"
printed_word Clear = codes "clear"
printed_word Enter = codes "enter"
printed_word Shift = codes "shift"
printed_word Escape = codes "escape"
printed_word LeftShift = codes "leftshift"
printed_word RightShift = codes "rightshift"
printed_word Control = codes "control"
printed_word LeftControl = codes "leftcontrol"
printed_word RightControl = codes "rightcontrol"
printed_word Alt = codes "alt"
printed_word LeftAlt = codes "leftalt"
printed_word RightAlt = codes "rightalt"
printed_word Menu = codes "menu"
printed_word LeftMenu = codes "leftmenu"
printed_word RightMenu = codes "rightmenu"
printed_word Pause = codes "pause"
printed_word CapsLock = codes "capslock"
printed_word PageUp = codes "pageup"
printed_word PageDown = codes "pagedown"
printed_word End = codes "end"
printed_word Home = codes "home"
printed_word LeftArrow = codes "left"
printed_word RightArrow = codes "right"
printed_word UpArrow = codes "up"
printed_word DownArrow = codes "down"
printed_word Select = codes "select"
printed_word Print = codes "print"
printed_word Execute = codes "execute"
printed_word PrintScreen = codes "printscreen"
printed_word Insert = codes "insert"
printed_word Delete = codes "delete"
printed_word Help = codes "help"
printed_word LeftWindows = codes "leftwindows"
printed_word RightWindows = codes "rightwindows"
printed_word Applications = codes "menu"
printed_word Sleep = codes "sleep"
printed_word Numpad0 = codes "numpad0"
printed_word Numpad1 = codes "numpad1"
printed_word Numpad2 = codes "numpad2"
printed_word Numpad3 = codes "numpad3"
printed_word Numpad4 = codes "numpad4"
printed_word Numpad5 = codes "numpad5"
printed_word Numpad6 = codes "numpad6"
printed_word Numpad7 = codes "numpad7"
printed_word Numpad8 = codes "numpad8"
printed_word Numpad9 = codes "numpad9"
printed_word Multiply = codes "multiply"
printed_word Add = codes "add"
printed_word Separator = codes "separator"
printed_word Subtract = codes "subtract"
printed_word Decimal = codes "decimal"
printed_word Divide = codes "divide"
printed_word (Function n) = codes "function"
printed_word NumLock = codes "numlock"
printed_word ScrollLock = codes "scrolllock"
printed_word Copy = codes "copy"
printed_word Cut = codes "cut"
printed_word Paste = codes "paste"
printed_word BrowserBack = codes "browserback"
printed_word BrowserForward = codes "browserforward"
printed_word BrowserRefresh = codes "browserrefresh"
printed_word BrowserStop = codes "browserstop"
printed_word BrowserSearch = codes "browsersearch"
printed_word BrowserFavorites = codes "browserfavorites"
printed_word BrowserHome = codes "browserhome"
printed_word VolumeMute = codes "volumemute"
printed_word VolumeDown = codes "volumedown"
printed_word VolumeUp = codes "volumeup"
printed_word MediaNextTrack = codes "medianexttrack"
printed_word MediaPrevTrack = codes "mediaprevtrack"
printed_word MediaStop = codes "mediastop"
printed_word MediaPlayPause = codes "mediaplaypause"
printed_word ApplicationLeftArrow = codes "applicationleftarrow"
printed_word ApplicationRightArrow = codes "applicationrightarrow"
printed_word ApplicationUpArrow = codes "applicationuparrow"
printed_word ApplicationDownArrow = codes "applicationdownarrow"
printed_word KeyPadHome = codes "keypadhome"
printed_word KeyPadEnd = codes "keypadend"
printed_word KeyPadPageUp = codes "keypadpageup"
printed_word KeyPadPageDown = codes "keypadpagedown"
printed_word KeyPadBegin = codes "begin"
printed_word InternalPasteStart = codes "internalpastestart"
printed_word InternalPasteEnd = codes "internalpasteend"

-- the keys that have a word of their own
unfoldable pub worded_keys : List KeyCode
worded_keys =
    Hyper ∷ Super ∷ Meta ∷ Cancel ∷ Backspace ∷ Tab ∷ Clear ∷ Enter ∷ Shift ∷ Escape ∷ LeftShift ∷ RightShift ∷ Control
    ∷ LeftControl ∷ RightControl ∷ Alt ∷ LeftAlt ∷ RightAlt ∷ LeftMenu ∷ RightMenu ∷ Pause ∷ CapsLock ∷ PageUp ∷ PageDown
    ∷ End ∷ Home ∷ LeftArrow ∷ RightArrow ∷ UpArrow ∷ DownArrow ∷ Select ∷ Print ∷ Execute ∷ PrintScreen ∷ Insert ∷ Delete
    ∷ Help ∷ LeftWindows ∷ RightWindows ∷ Applications ∷ Sleep ∷ Numpad0 ∷ Numpad1 ∷ Numpad2 ∷ Numpad3 ∷ Numpad4 ∷ Numpad5
    ∷ Numpad6 ∷ Numpad7 ∷ Numpad8 ∷ Numpad9 ∷ Multiply ∷ Add ∷ Separator ∷ Subtract ∷ Decimal ∷ Divide ∷ NumLock ∷ ScrollLock
    ∷ Copy ∷ Cut ∷ Paste ∷ BrowserBack ∷ BrowserForward ∷ BrowserRefresh ∷ BrowserStop ∷ BrowserSearch ∷ BrowserFavorites
    ∷ BrowserHome ∷ VolumeMute ∷ VolumeDown ∷ VolumeUp ∷ MediaNextTrack ∷ MediaPrevTrack ∷ MediaStop ∷ MediaPlayPause
    ∷ ApplicationLeftArrow ∷ ApplicationRightArrow ∷ ApplicationUpArrow ∷ ApplicationDownArrow ∷ KeyPadHome ∷ KeyPadEnd
    ∷ KeyPadPageUp ∷ KeyPadPageDown ∷ KeyPadBegin ∷ InternalPasteStart ∷ InternalPasteEnd ∷ []

-- the other words for keys: the space, what Emacs, Vim and Helix call keys, the names of the codes that are printed otherwise, and the
-- words of modifiers
unfoldable pub other_words : List (List ℕ × KeyCode)
other_words =
    (codes "space", Char 32) ∷ (codes "spc", Char 32) ∷ (codes "esc", Escape) ∷ (codes "return", Enter) ∷ (codes "ret", Enter)
    ∷ (codes "cr", Enter) ∷ (codes "kpenter", Enter) ∷ (codes "del", Delete) ∷ (codes "ins", Insert) ∷ (codes "bs", Backspace)
    ∷ (codes "pgup", PageUp) ∷ (codes "prior", PageUp) ∷ (codes "pgdn", PageDown) ∷ (codes "next", PageDown)
    ∷ (codes "plus", Char 43) ∷ (codes "minus", Char 45) ∷ (codes "comma", Char 44) ∷ (codes "less", Char 60)
    ∷ (codes "lt", Char 60) ∷ (codes "greater", Char 62) ∷ (codes "gt", Char 62) ∷ (codes "bar", Char 124)
    ∷ (codes "bslash", Char 92) ∷ (codes "kpequal", Char 61) ∷ (codes "uparrow", UpArrow) ∷ (codes "downarrow", DownArrow)
    ∷ (codes "leftarrow", LeftArrow) ∷ (codes "rightarrow", RightArrow) ∷ (codes "keypadbegin", KeyPadBegin)
    ∷ (codes "applications", Applications) ∷ (codes "ctrl", Control) ∷ (codes "option", Alt) ∷ (codes "cmd", Super)
    ∷ (codes "win", LeftWindows) ∷ []

-- the key that has this word
unfoldable pub worded_key : List ℕ → Option KeyCode
worded_key name = find (λ key. str_eq_ignore_ascii_case (printed_word key) name) worded_keys

-- what a table has at a word
abbrev pub entry_at_word : {K : Type 0} → List (List ℕ × K) → List ℕ → Option K
entry_at_word table name = option_map (λ row. row.1) (find (λ row. str_eq_ignore_ascii_case row.0 name) table)

-- the key of a word
unfoldable pub key_of_word : List ℕ → Option KeyCode
key_of_word name = option_or (worded_key name) (entry_at_word other_words name)

-- the words of the modifiers
unfoldable pub modifier_words : List (List ℕ × ℕ)
modifier_words =
    (codes "ctrl", CTRL) ∷ (codes "control", CTRL) ∷ (codes "alt", ALT) ∷ (codes "option", ALT) ∷ (codes "shift", SHIFT)
    ∷ (codes "super", SUPER) ∷ (codes "cmd", SUPER) ∷ (codes "win", SUPER) ∷ (codes "hyper", HYPER) ∷ (codes "meta", META) ∷ []

-- the modifier of a word
unfoldable pub modifier_of_word : List ℕ → Option ℕ
modifier_of_word word = entry_at_word modifier_words word
