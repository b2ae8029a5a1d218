-- The forms of what terminals send beyond the rows of the table and SGR mouse reports, and what strings begin with, have and end with.
-- Control sequences and strings are from ECMA-48. From xterm's control sequences are X10 mouse reports, titles, BEL as the end of an operating
-- system command, and the application keypad; function keys are from the Linux console.
use Rattle.std.specs.Prelude.{◌≡◌, ◌≢◌, ℕ, ◌≤◌, ◌<◌, ◌⊎◌, Bool, true, List, [], ◌∷◌, ◌++◌, length, codes}
use Rattle.std.specs.List.{AllByRecursion}
use Rattle.termwiz_keymap.specs.Bytes.{Begins}
use Rattle.termwiz_keys.specs.Introducers.{ESC, CSI, SS3}
use Rattle.termwiz_extended_events.specs.declared.types.StringKind.{StringKind}
use Rattle.termwiz_extended_events.specs.declared.types.StringKind.TheVariants.{Osc, Dcs, Apc}

-- what ends a string: the string terminator, ESC \
abbrev pub ST : List ℕ
ST = 0x1b ∷ 0x5c ∷ []

-- what may end an operating system command too
abbrev pub BEL : List ℕ
BEL = 0x07 ∷ []

-- a byte of a control sequence before its final one: a parameter or an intermediate byte
abbrev pub IsInner : ℕ → Type 0
IsInner b = (0x20 ≤ b) × (b ≤ 0x3f)

-- the last byte of a control sequence
abbrev pub IsFinal : ℕ → Type 0
IsFinal b = (0x40 ≤ b) × (b ≤ 0x7e)

-- a byte of an X10 mouse report
abbrev pub IsMouseByte : ℕ → Type 0
IsMouseByte b = (0x20 ≤ b) × (b ≤ 0xff)

-- a digit from 1 to 8, by which rxvt's rows with `$` name a key
abbrev pub IsRowDigit : ℕ → Type 0
IsRowDigit b = (49 ≤ b) × (b ≤ 56)

-- the letter of a function key of the Linux console
abbrev pub IsConsoleLetter : ℕ → Type 0
IsConsoleLetter b = (65 ≤ b) × (b ≤ 69)

-- the letter of a key of the application keypad: M, X, E, G, and j to y
abbrev pub IsKeypadLetter : ℕ → Type 0
IsKeypadLetter b = (b ≡ 77) ⊎ ((b ≡ 88) ⊎ ((b ≡ 69) ⊎ ((b ≡ 71) ⊎ ((106 ≤ b) × (b ≤ 121)))))

-- a digit from 2 to 8, which is one more than the bits of the modifiers
abbrev pub IsModifierDigit : ℕ → Type 0
IsModifierDigit b = (50 ≤ b) × (b ≤ 56)

-- the letter of a key with modifiers behind ESC O: P to S, M, X, and j to y
abbrev pub IsModifiedLetter : ℕ → Type 0
IsModifiedLetter b = ((80 ≤ b) × (b ≤ 83)) ⊎ ((b ≡ 77) ⊎ ((b ≡ 88) ⊎ ((106 ≤ b) × (b ≤ 121))))

-- the digit by which rxvt-unicode tells a key: 2, 3, 5 to 8
abbrev pub IsRxvtDigit : ℕ → Type 0
IsRxvtDigit d = (d ≡ 50) ⊎ ((d ≡ 51) ⊎ ((53 ≤ d) × (d ≤ 56)))

-- two digits by which it tells one: 11 to 15, 17 to 21, 23 to 26, 28, 29, 31 to 38
abbrev pub IsRxvtPair : ℕ → ℕ → Type 0
IsRxvtPair d e =
    ((d ≡ 49) × (((49 ≤ e) × (e ≤ 53)) ⊎ ((55 ≤ e) × (e ≤ 57))))
    ⊎ (((d ≡ 50) × (((48 ≤ e) × (e ≤ 49)) ⊎ (((51 ≤ e) × (e ≤ 54)) ⊎ ((56 ≤ e) × (e ≤ 57)))))
    ⊎ ((d ≡ 51) × ((49 ≤ e) × (e ≤ 56))))

-- a number by which rxvt-unicode tells a key
abbrev pub IsRxvtNumber : List ℕ → Type 0
IsRxvtNumber [] = ⊥
IsRxvtNumber (d ∷ []) = IsRxvtDigit d
IsRxvtNumber (d ∷ e ∷ []) = IsRxvtPair d e
IsRxvtNumber (d ∷ e ∷ c ∷ digits) = ⊥

-- what strings of a kind begin with: ESC and `]`, P or _
abbrev pub introducer : StringKind → List ℕ
introducer Osc = ESC ++ codes "]"
introducer Dcs = ESC ++ codes "P"
introducer Apc = ESC ++ codes "_"

-- a byte that neither ends a string of this kind nor begins its end: none is ESC, and in an operating system command none is BEL
abbrev pub IsData : StringKind → ℕ → Type 0
IsData Osc b = (b ≢ 0x1b) × (b ≢ 0x07)
IsData Dcs b = b ≢ 0x1b
IsData Apc b = b ≢ 0x1b

-- what ends a string of this kind
abbrev pub IsStringEnd : StringKind → List ℕ → Type 0
IsStringEnd Osc end = (end ≡ ST) ⊎ (end ≡ BEL)
IsStringEnd Dcs end = end ≡ ST
IsStringEnd Apc end = end ≡ ST

-- how many bytes a control sequence may have
abbrev pub most_control : ℕ
most_control = 256

-- how many bytes of a string may be read before its event: its opening and the data after it
abbrev pub most_string : ℕ
most_string = 65535

-- the letter of a title's report: l for the window's, L for the icon's
abbrev pub IsTitleLetter : ℕ → Type 0
IsTitleLetter b = (b ≡ 108) ⊎ (b ≡ 76)

-- as many bytes after that letter are no typed text
abbrev pub typed_title : ℕ
typed_title = 252

-- A control sequence: ESC [, inner bytes, and a final byte. ESC [M begins a mouse report, where X10 reports are read. ESC [[ begins a console
-- key, ESC [, a digit and $ a row, and ESC [, a number and $ a key of rxvt-unicode's with Shift. None of these is one.
pub record IsControl (x10_mouse : Bool) (text : List ℕ) : Type 0 where
  pub inner : List ℕ
  pub last : ℕ
  pub form : text ≡ CSI ++ inner ++ last ∷ []
  pub each : AllByRecursion IsInner inner
  pub last_is : IsFinal last
  pub short : length text ≤ most_control
  pub no_mouse : x10_mouse ≡ true → ¬ Begins (CSI ++ codes "M") text
  pub no_console : ¬ Begins (CSI ++ codes "[") text
  pub no_row : (digit : ℕ) → IsRowDigit digit → ¬ Begins (CSI ++ digit ∷ codes "$") text
  pub no_shifted : (number : List ℕ) → IsRxvtNumber number → ¬ Begins (CSI ++ number ++ codes "$") text

-- An X10 mouse report: ESC [M and three bytes.
pub record IsX10Report (text : List ℕ) : Type 0 where
  pub button : ℕ
  pub x : ℕ
  pub y : ℕ
  pub form : text ≡ CSI ++ codes "M" ++ button ∷ x ∷ y ∷ []
  pub button_is : IsMouseByte button
  pub x_is : IsMouseByte x
  pub y_is : IsMouseByte y

-- A function key of the Linux console: ESC [[ and a letter.
pub record IsConsoleKey (text : List ℕ) : Type 0 where
  pub letter : ℕ
  pub form : text ≡ CSI ++ codes "[" ++ letter ∷ []
  pub letter_is : IsConsoleLetter letter

-- A key of the application keypad: ESC O and a letter.
pub record IsKeypadKey (text : List ℕ) : Type 0 where
  pub letter : ℕ
  pub form : text ≡ SS3 ++ letter ∷ []
  pub letter_is : IsKeypadLetter letter

-- what may stand between ESC O and that digit: nothing, 0; as mlterm writes it, or 1; as tmux does
abbrev pub IsModifiedFront : List ℕ → Type 0
IsModifiedFront front = (front ≡ []) ⊎ ((front ≡ codes "0;") ⊎ (front ≡ codes "1;"))

-- the letter behind both: after 1; it is P to S
abbrev pub IsLetterBehind : List ℕ → ℕ → Type 0
IsLetterBehind front letter = IsModifiedLetter letter × (front ≡ codes "1;" → (80 ≤ letter) × (letter ≤ 83))

-- A key of the application keypad, or F1 to F4, with modifiers: ESC O, a digit and a letter.
pub record IsModifiedKeypadKey (text : List ℕ) : Type 0 where
  pub front : List ℕ
  pub digit : ℕ
  pub letter : ℕ
  pub form : text ≡ SS3 ++ front ++ digit ∷ letter ∷ []
  pub front_is : IsModifiedFront front
  pub digit_is : IsModifierDigit digit
  pub letter_is : IsLetterBehind front letter

-- A key of rxvt-unicode's with Shift: ESC [, its number and $.
pub record IsShiftedKey (text : List ℕ) : Type 0 where
  pub number : List ℕ
  pub form : text ≡ CSI ++ number ++ codes "$"
  pub number_is : IsRxvtNumber number

-- A title: ESC `]`, its letter, few bytes, and the end of a command. Its beginning can be typed.
pub record IsTitle (text : List ℕ) : Type 0 where
  pub letter : ℕ
  pub body : List ℕ
  pub end : List ℕ
  pub form : text ≡ introducer Osc ++ letter ∷ (body ++ end)
  pub letter_is : IsTitleLetter letter
  pub each : AllByRecursion (IsData Osc) body
  pub short : length body < typed_title
  pub end_is : IsStringEnd Osc end

-- a text of one of these forms, where X10 mouse reports are read or not
pub data IsForm (x10_mouse : Bool) (text : List ℕ) : Type 0 where
  control : IsControl x10_mouse text → IsForm x10_mouse text
  x10_report : x10_mouse ≡ true → IsX10Report text → IsForm x10_mouse text
  console_key : IsConsoleKey text → IsForm x10_mouse text
  keypad_key : IsKeypadKey text → IsForm x10_mouse text
  modified_key : IsModifiedKeypadKey text → IsForm x10_mouse text
  shifted_key : IsShiftedKey text → IsForm x10_mouse text
  title : IsTitle text → IsForm x10_mouse text

-- some text of a form is longer than u and begins with u
pub record IsUnfinishedForm (x10_mouse : Bool) (u : List ℕ) : Type 0 where
  pub tail : List ℕ
  pub longer : tail ≢ []
  pub is_form : IsForm x10_mouse (u ++ tail)
