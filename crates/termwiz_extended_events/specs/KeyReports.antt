-- The sequences that report a key. Each has fields, separated by `;`, whose parts are separated by `:`, and an end that says how the fields are
-- read: `u`, `~` or a letter. First come the readings of one field: of the modifiers and what happened (`manner_of`), of the key's codes
-- (`codes_of`) and of its text (`text_of`). Then come the rules, one for each end, which put the fields together. `key_report` is the first
-- rule that fits. A reading or a rule is None where the bytes aren't such a field or sequence.
use Rattle.std.specs.Prelude.{◌≡◌, ℕ, Bool, true, false, not, ◌+◌, ◌-◌, ◌==◌, ◌&&◌, ◌||◌, List, [], ◌∷◌, length, take, slice_get, codes, nat_le, bit_and, bit_or, Option, Some, None, if◌then◌else◌, option_map, option_and_then, encode_utf8_all, bytes_eq}
use Rattle.std.specs.Char.{is_control}
use Rattle.termwiz_grammar.specs.Table.{key_of_code}
use Rattle.termwiz_keys.specs.declared.types.KeyCode.{KeyCode}
use Rattle.termwiz_keys.specs.declared.types.KeyCode.TheVariants.{Function, KeyPadBegin, Tab}
use Rattle.termwiz_extended_events.specs.declared.types.KeyReport.{KeyReport}
use Rattle.termwiz_extended_events.specs.declared.types.KeyEventKind.{KeyEventKind}
use Rattle.termwiz_extended_events.specs.declared.types.KeyEventKind.TheVariants.{Press, Repeat, Release}
use Rattle.termwiz_extended_events.specs.declared.types.ReportedKey.{ReportedKey}
use Rattle.termwiz_extended_events.specs.declared.types.ReportedKey.TheVariants.{Named, Functional}
use Rattle.termwiz_extended_events.specs.declared.types.Manner.{Manner}
use Rattle.termwiz_extended_events.specs.declared.key_fields.Codes.{Codes}
use Rattle.termwiz_extended_events.specs.declared.types.PlainReport.{PlainReport}
use Rattle.termwiz_extended_events.specs.declared.key_reports.SpelledReport.{SpelledReport}
use Rattle.termwiz_extended_events.specs.Numbers.{fields, parts, before_end, first_some, number, number_within, scalar}
use Rattle.termwiz_extended_events.specs.ReportedKeys.{last_functional, no_key, entry_at, lettered_keys, key_of, tilde_key, keypad_keys, modified_keypad_keys, console_keys, rxvt_key_at}

-- the modifiers of a number: it is one more than their bits, and 1 where it is missing
unfoldable pub modifiers_of : List ℕ → Option ℕ
modifiers_of [] = Some 0
modifiers_of digits = option_map (λ n. n - 1) (number 1 256 digits)

-- the modifiers that the first of some parts says, and the other parts
abbrev pub first_modifiers : List (List ℕ) → Option (ℕ × List (List ℕ))
first_modifiers [] = None
first_modifiers (digits ∷ more) = option_map (λ m. (m, more)) (modifiers_of digits)

-- what happened to the key, by the number of the event
abbrev pub kind_at : ℕ → KeyEventKind
kind_at n = if n == 1 then Press else (if n == 2 then Repeat else Release)

unfoldable pub kind_of : List ℕ → Option KeyEventKind
kind_of digits = option_map kind_at (number 1 3 digits)

-- both of them, if both are there
abbrev pub manner_with : Option ℕ → Option KeyEventKind → Option Manner
manner_with (Some modifiers) (Some kind) = Some (record { modifiers = modifiers; kind = kind })
manner_with _ _ = None

-- the manner that the parts of a field say: the modifiers, and what happened to the key
abbrev pub manner_of_parts : List (List ℕ) → Option Manner
manner_of_parts (modifiers ∷ []) = manner_with (modifiers_of modifiers) (Some Press)
manner_of_parts (modifiers ∷ kind ∷ []) = manner_with (modifiers_of modifiers) (kind_of kind)
manner_of_parts _ = None

unfoldable pub manner_of : List ℕ → Option Manner
manner_of field = manner_of_parts (parts field)

-- Shift and Ctrl as kitty's bits
abbrev pub shift_bit : ℕ
shift_bit = 1

abbrev pub ctrl_bit : ℕ
ctrl_bit = 4

-- a press with no modifier
abbrev pub pressed : Manner
pressed = record { modifiers = 0; kind = Press }

-- a character that may be missing
unfoldable pub optional_scalar : List ℕ → Option (Option ℕ)
optional_scalar [] = Some None
optional_scalar digits = option_map (λ c. Some c) (scalar digits)

-- a character that is there
abbrev pub told_scalar : List ℕ → Option (Option ℕ)
told_scalar digits = option_map (λ c. Some c) (scalar digits)

-- all three, if all are there
abbrev pub codes_with : Option ℕ → Option (Option ℕ) → Option (Option ℕ) → Option Codes
codes_with (Some own) (Some shifted) (Some base) = Some (record { own = own; shifted = shifted; base = base })
codes_with _ _ _ = None

-- the codes that the parts of a field say: the key's own, what it types with Shift, and what the key at its place types on
-- the standard layout
abbrev pub codes_of_parts : List (List ℕ) → Option Codes
codes_of_parts (own ∷ []) = codes_with (scalar own) (Some None) (Some None)
codes_of_parts (own ∷ shifted ∷ []) = codes_with (scalar own) (told_scalar shifted) (Some None)
codes_of_parts (own ∷ shifted ∷ base ∷ []) = codes_with (scalar own) (optional_scalar shifted) (told_scalar base)
codes_of_parts _ = None

unfoldable pub codes_of : List ℕ → Option Codes
codes_of field = codes_of_parts (parts field)

-- one character more, if all are characters
abbrev pub and_more : Option ℕ → Option (List ℕ) → Option (List ℕ)
and_more (Some c) (Some more) = Some (c ∷ more)
and_more _ _ = None

-- the characters whose numbers these texts write
abbrev pub scalars : List (List ℕ) → Option (List ℕ)
scalars [] = Some []
scalars (digits ∷ more) = and_more (scalar digits) (scalars more)

-- the text that a field says, as UTF-8: the numbers of its characters, or nothing
unfoldable pub text_of : List ℕ → Option (List ℕ)
text_of [] = Some []
text_of field = option_map encode_utf8_all (scalars (parts field))

-- the report of a key that says no more than its manner
abbrev pub report_of : ReportedKey → Manner → KeyReport
report_of key manner = record {
  key = key;
  modifiers = manner.modifiers;
  kind = manner.kind;
  shifted = None;
  base = None;
  text = [];
}

-- a report without a base and a text, by its parts
abbrev pub plain_report : PlainReport → KeyReport
plain_report plain = record (report_of plain.key plain.manner) { shifted = plain.shifted }

-- a report whose text is still spelled, with that text; none if it spells no text
abbrev pub spelled_report : SpelledReport → Option KeyReport
spelled_report spelled = option_map (λ text. record {
  key = spelled.key;
  modifiers = spelled.manner.modifiers;
  kind = spelled.manner.kind;
  shifted = spelled.shifted;
  base = spelled.base;
  text = text;
}) (text_of spelled.text.now)

-- it is there exactly if the report is, and spells it
abbrev pub IsSpelled : Option SpelledReport → Option KeyReport → Type 0
IsSpelled spelled report = option_map spelled_report spelled ≡ option_map (λ r. Some r) report

-- the report of a character's key, if all its fields are there
abbrev pub character_report : Option Codes → Option Manner → Option (List ℕ) → Option KeyReport
character_report (Some codes) (Some manner) (Some text) = Some (record {
  key = key_of codes.own;
  modifiers = manner.modifiers;
  kind = manner.kind;
  shifted = codes.shifted;
  base = codes.base;
  text = text;
})
character_report _ _ _ = None

abbrev pub character_of_fields : List (List ℕ) → Option KeyReport
character_of_fields (codes ∷ []) = character_report (codes_of codes) (Some pressed) (Some [])
character_of_fields (codes ∷ manner ∷ []) = character_report (codes_of codes) (manner_of manner) (Some [])
character_of_fields (codes ∷ manner ∷ text ∷ []) = character_report (codes_of codes) (manner_of manner) (text_of text)
character_of_fields _ = None

-- c : shifted : base ; modifiers : kind ; text u, of which only c must be there: the key of c
unfoldable pub character_key : List ℕ → Option KeyReport
character_key t = option_and_then (λ body. character_of_fields (fields body)) (before_end (codes "u") t)

-- the report of a key in the manner that the fields behind the first one say
abbrev pub report_behind : ReportedKey → List (List ℕ) → Option KeyReport
report_behind key [] = Some (report_of key pressed)
report_behind key (manner ∷ []) = option_map (report_of key) (manner_of manner)
report_behind key _ = None

-- the field is 1, or missing
abbrev pub is_one_or_missing : List ℕ → Bool
is_one_or_missing [] = true
is_one_or_missing (b ∷ []) = b == 49
is_one_or_missing _ = false

abbrev pub lettered_of_fields : KeyCode → List (List ℕ) → Option KeyReport
lettered_of_fields key (front ∷ more) = if is_one_or_missing front then report_behind (Named key) more else None
lettered_of_fields key [] = None

-- the key that the last byte stands for
abbrev pub last_letter : List ℕ → Option KeyCode
last_letter t = option_and_then (entry_at lettered_keys) (slice_get t (length t - 1))

-- 1 ; modifiers : kind and a letter, of which only the letter must be there: a key by its letter
unfoldable pub lettered_key : List ℕ → Option KeyReport
lettered_key t = option_and_then (λ key. lettered_of_fields key (fields (take (length t - 1) t))) (last_letter t)

abbrev pub numbered_of_fields : List (List ℕ) → Option KeyReport
numbered_of_fields (n ∷ more) =
    option_and_then (λ key. report_behind key more) (option_and_then tilde_key (number 0 last_functional n))
numbered_of_fields [] = None

-- n ; modifiers : kind ~, of which only n must be there: a key by its number
unfoldable pub numbered_key : List ℕ → Option KeyReport
numbered_key t = option_and_then (λ body. numbered_of_fields (fields body)) (before_end (codes "~") t)

-- the modifiers and the character of both numbers: the first one is one more than the bits
abbrev pub other_pair : Option ℕ → Option ℕ → Option (ℕ × ℕ)
other_pair (Some m) (Some c) = Some (m - 1, c)
other_pair _ _ = None

abbrev pub other_of_fields : List (List ℕ) → Option (ℕ × ℕ)
other_of_fields (front ∷ m ∷ c ∷ []) = if bytes_eq front (codes "27") then other_pair (number 1 256 m) (scalar c) else None
other_of_fields _ = None

-- 27 ; m ; c ~: the bits of the modifiers, and c
unfoldable pub other_held : List ℕ → Option (ℕ × ℕ)
other_held t = option_and_then (λ body. other_of_fields (fields body)) (before_end (codes "~") t)

-- the key of this character as xterm reports it
abbrev pub other_code : ℕ → ReportedKey
other_code c = if c == no_key then Functional no_key else Named (key_of_code c)

-- with Shift the character is what Shift made, unless it is a control character
abbrev pub is_shifted_by : ℕ → ℕ → Bool
is_shifted_by modifiers c = not (bit_and modifiers shift_bit == 0) && not (is_control c)

-- the report of a key by its modifiers and its character
abbrev pub other_report : (ℕ × ℕ) → KeyReport
other_report held = record {
  key = other_code held.1;
  modifiers = held.0;
  kind = Press;
  shifted = if is_shifted_by held.0 held.1 then Some held.1 else None;
  base = None;
  text = [];
}

-- 27 ; m ; c ~: the key of c, as xterm's modifyOtherKeys reports it
unfoldable pub other_key : List ℕ → Option KeyReport
other_key t = option_map other_report (other_held t)

-- the report of a key by the first of these rules that fits
unfoldable pub key_report : List ℕ → Option KeyReport
key_report t = first_some (character_key t ∷ lettered_key t ∷ numbered_key t ∷ other_key t ∷ [])

-- 1 ; modifiers : kind R, of which only R must be there: F3, where no position of the cursor can be meant
unfoldable pub third_function_key : List ℕ → Option KeyReport
third_function_key t = option_and_then (λ body. lettered_of_fields (Function 3) (fields body)) (before_end (codes "R") t)

-- 1 ; modifiers : kind Z, of which ; and Z must be there: Tab with Shift and these modifiers
abbrev pub shifted_tab : Manner → KeyReport
shifted_tab manner = report_of (Named Tab) (record manner { modifiers = bit_or manner.modifiers shift_bit })

abbrev pub back_tab_of_fields : List (List ℕ) → Option KeyReport
back_tab_of_fields (front ∷ manner ∷ []) = if is_one_or_missing front then option_map shifted_tab (manner_of manner) else None
back_tab_of_fields _ = None

unfoldable pub back_tab : List ℕ → Option KeyReport
back_tab t = option_and_then (λ body. back_tab_of_fields (fields body)) (before_end (codes "Z") t)

-- the key of a letter behind a digit: that of the letter alone, and F3
abbrev pub cursor_letter : ℕ → Option KeyCode
cursor_letter letter = if letter == 82 then Some (Function 3) else entry_at lettered_keys letter

-- m from 2 to 8 and a letter: the key of the letter with the modifiers of m, as xterm reports it by modifyCursorKeys 1
unfoldable pub short_key : List ℕ → Option KeyReport
short_key (m ∷ letter ∷ []) = if nat_le 50 m && nat_le m 56
    then option_map (λ key. report_of (Named key) (record { modifiers = m - 49; kind = Press })) (cursor_letter letter)
    else None
short_key _ = None

-- G: the middle key of the keypad
unfoldable pub middle_key : List ℕ → Option KeyReport
middle_key (letter ∷ []) = if letter == 71 then Some (report_of (Named KeyPadBegin) pressed) else None
middle_key _ = None

-- the keys of a few terminals, by the first of these rules that fits
unfoldable pub further_key : List ℕ → Option KeyReport
further_key t = first_some (back_tab t ∷ short_key t ∷ middle_key t ∷ [])

-- the number of a key of rxvt-unicode's, without a leading zero
abbrev pub rxvt_number : List ℕ → Option ℕ
rxvt_number [] = None
rxvt_number (first ∷ more) = if first == 48 then None else number_within 2 2 38 (first ∷ more)

-- its key with these modifiers
abbrev pub rxvt_report : ℕ → Option (List ℕ) → Option KeyReport
rxvt_report bits digits = option_map (λ key. report_of (Named key) (record { modifiers = bits; kind = Press }))
    (option_and_then rxvt_key_at (option_and_then rxvt_number digits))

-- n and ^, @ or $: the key of n with Ctrl, with Ctrl and Shift, or with Shift, as rxvt-unicode sends it
unfoldable pub rxvt_key : List ℕ → Option KeyReport
rxvt_key t = first_some (
    rxvt_report ctrl_bit (before_end (codes "^") t) ∷ rxvt_report (shift_bit + ctrl_bit) (before_end (codes "@") t)
    ∷ rxvt_report shift_bit (before_end (codes "$") t) ∷ [])

-- [ and a letter from A to E: F1 to F5, as the Linux console reports them
unfoldable pub console_key : List ℕ → Option KeyReport
console_key (bracket ∷ letter ∷ []) =
    if bracket == 91 then option_map (λ key. report_of (Named key) pressed) (entry_at console_keys letter) else None
console_key _ = None

-- a letter behind ESC O: a key of the keypad in application mode
unfoldable pub keypad_key : List ℕ → Option KeyReport
keypad_key (letter ∷ []) = option_map (λ key. report_of key pressed) (entry_at keypad_keys letter)
keypad_key _ = None

-- the key of a letter behind ESC O and a number: F1 to F4, or a key of the keypad but its middle one
abbrev pub modified_keypad_entry : ℕ → Option ReportedKey
modified_keypad_entry letter = entry_at modified_keypad_keys letter

-- the same key with the modifiers of a number from 2 to 8, which is one more than their bits
abbrev pub modified_report : ℕ → ℕ → Option KeyReport
modified_report m letter = if nat_le 50 m && nat_le m 56
    then option_map (λ key. report_of key (record { modifiers = m - 49; kind = Press })) (modified_keypad_entry letter)
    else None

-- F1 to F4 have these letters, P to S
abbrev pub is_function_letter : ℕ → Bool
is_function_letter letter = nat_le 80 letter && nat_le letter 83

-- m and a letter behind ESC O, where 0 ; may stand before m: a key of the keypad, or F1 to F4, with modifiers. For F1 to F4 it may be 1 ; too.
unfoldable pub modified_keypad_key : List ℕ → Option KeyReport
modified_keypad_key (m ∷ letter ∷ []) = modified_report m letter
modified_keypad_key (first ∷ separator ∷ m ∷ letter ∷ []) =
    if (separator == 59) && ((first == 48) || ((first == 49) && is_function_letter letter)) then modified_report m letter else None
modified_keypad_key _ = None
