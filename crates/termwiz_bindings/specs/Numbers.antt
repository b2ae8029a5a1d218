-- The numbers of keys: from 1 on, in the order of `KeyCode`. A number is given once: a new key gets the next one.
use Rattle.std.specs.Prelude.{⊤, ◌≡◌, ◌≤◌, ℕ}
use Rattle.std.specs.Char.{IsScalar}
use Rattle.termwiz_keys.specs.declared.types.KeyCode.{KeyCode}
use Rattle.termwiz_keys.specs.declared.types.KeyCode.TheVariants.{Char, Hyper, Super, Meta, Cancel, Backspace, Tab, Clear, Enter, Shift, Escape, LeftShift, RightShift, Control, LeftControl, RightControl, Alt, LeftAlt, RightAlt, Menu, LeftMenu, RightMenu, Pause, CapsLock, PageUp, PageDown, End, Home, LeftArrow, RightArrow, UpArrow, DownArrow, Select, Print, Execute, PrintScreen, Insert, Delete, Help, LeftWindows, RightWindows, Applications, Sleep, Numpad0, Numpad1, Numpad2, Numpad3, Numpad4, Numpad5, Numpad6, Numpad7, Numpad8, Numpad9, Multiply, Add, Separator, Subtract, Decimal, Divide, Function, NumLock, ScrollLock, Copy, Cut, Paste, BrowserBack, BrowserForward, BrowserRefresh, BrowserStop, BrowserSearch, BrowserFavorites, BrowserHome, VolumeMute, VolumeDown, VolumeUp, MediaNextTrack, MediaPrevTrack, MediaStop, MediaPlayPause, ApplicationLeftArrow, ApplicationRightArrow, ApplicationUpArrow, ApplicationDownArrow, KeyPadHome, KeyPadEnd, KeyPadPageUp, KeyPadPageDown, KeyPadBegin, InternalPasteStart, InternalPasteEnd}
use Rattle.termwiz_extended_events.specs.declared.types.ReportedKey.{ReportedKey}
use Rattle.termwiz_extended_events.specs.declared.types.ReportedKey.TheVariants.{Named, Functional}

-- the number of a key
unfoldable pub key_number : KeyCode → ℕ
key_number (Char character) = 1
key_number Hyper = 2
key_number Super = 3
key_number Meta = 4
key_number Cancel = 5
key_number Backspace = 6
key_number Tab = 7
key_number Clear = 8
key_number Enter = 9
key_number Shift = 10
key_number Escape = 11
key_number LeftShift = 12
key_number RightShift = 13
key_number Control = 14
key_number LeftControl = 15
key_number RightControl = 16
key_number Alt = 17
key_number LeftAlt = 18
key_number RightAlt = 19
key_number Menu = 20
key_number LeftMenu = 21
key_number RightMenu = 22
key_number Pause = 23
key_number CapsLock = 24
key_number PageUp = 25
key_number PageDown = 26
key_number End = 27
key_number Home = 28
key_number LeftArrow = 29
key_number RightArrow = 30
key_number UpArrow = 31
key_number DownArrow = 32
key_number Select = 33
key_number Print = 34
key_number Execute = 35
key_number PrintScreen = 36
key_number Insert = 37
key_number Delete = 38
key_number Help = 39
key_number LeftWindows = 40
key_number RightWindows = 41
key_number Applications = 42
key_number Sleep = 43
key_number Numpad0 = 44
key_number Numpad1 = 45
key_number Numpad2 = 46
key_number Numpad3 = 47
key_number Numpad4 = 48
key_number Numpad5 = 49
key_number Numpad6 = 50
key_number Numpad7 = 51
key_number Numpad8 = 52
key_number Numpad9 = 53
key_number Multiply = 54
key_number Add = 55
key_number Separator = 56
key_number Subtract = 57
key_number Decimal = 58
key_number Divide = 59
key_number (Function number) = 60
key_number NumLock = 61
key_number ScrollLock = 62
key_number Copy = 63
key_number Cut = 64
key_number Paste = 65
key_number BrowserBack = 66
key_number BrowserForward = 67
key_number BrowserRefresh = 68
key_number BrowserStop = 69
key_number BrowserSearch = 70
key_number BrowserFavorites = 71
key_number BrowserHome = 72
key_number VolumeMute = 73
key_number VolumeDown = 74
key_number VolumeUp = 75
key_number MediaNextTrack = 76
key_number MediaPrevTrack = 77
key_number MediaStop = 78
key_number MediaPlayPause = 79
key_number ApplicationLeftArrow = 80
key_number ApplicationRightArrow = 81
key_number ApplicationUpArrow = 82
key_number ApplicationDownArrow = 83
key_number KeyPadHome = 84
key_number KeyPadEnd = 85
key_number KeyPadPageUp = 86
key_number KeyPadPageDown = 87
key_number KeyPadBegin = 88
key_number InternalPasteStart = 89
key_number InternalPasteEnd = 90

-- what a key carries: the code point of a character, or the number of a function key; 0 for the other keys
unfoldable pub key_detail : KeyCode → ℕ
key_detail (Char character) = character
key_detail (Function number) = number
key_detail key = 0

-- the key without what it carries: with 0 in its place
unfoldable pub bare : KeyCode → KeyCode
bare (Char character) = Char 0
bare (Function number) = Function 0
bare key = key

-- The key may stand with this detail: it carries it, if it carries anything. A character is a Unicode scalar value, and
-- the number of a function key is at most 255.
unfoldable pub Carries : KeyCode → ℕ → Type 0
Carries (Char character) detail = (character ≡ detail) × IsScalar detail
Carries (Function number) detail = (number ≡ detail) × (detail ≤ 255)
Carries key detail = ⊤

-- the number and the detail stand for this key
abbrev pub StandFor : ℕ → ℕ → KeyCode → Type 0
StandFor number detail key = (key_number key ≡ number) × Carries key detail

-- the number of a reported key: 0 if it has no name
unfoldable pub reported_number : ReportedKey → ℕ
reported_number (Named key) = key_number key
reported_number (Functional number) = 0

-- what a reported key carries: the number in Kitty's table of functional keys, if it has no name
unfoldable pub reported_detail : ReportedKey → ℕ
reported_detail (Named key) = key_detail key
reported_detail (Functional number) = number

-- the number and the detail stand for this key of a report: with the number 0 the detail is that of Kitty's table
abbrev pub StandForReported : ℕ → ℕ → ReportedKey → Type 0
StandForReported number detail (Named key) = StandFor number detail key
StandForReported number detail (Functional functional) = (number ≡ 0) × (functional ≡ detail)
