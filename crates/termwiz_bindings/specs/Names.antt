-- The names of keys, read and printed. A name is a list of bytes in UTF-8. A definition that gives an error is told at which byte of the
-- whole text its part stands.
use Rattle.std.specs.Prelude.{ℕ, ◌+◌, ◌-◌, Bool, true, false, not, ◌==◌, ◌&&◌, ◌||◌, List, [], ◌∷◌, ◌++◌, length, take, drop, replicate, codes, nat_lt, nat_le, slice_index, bit_or, Option, Some, None, option_map, option_and_then, unwrap_or, is_some, Result, Ok, Err, if◌then◌else◌}
use Rattle.std.specs.Option.{option_or, ok_or}
use Rattle.std.specs.List.{list_all, list_any}
use Rattle.std.specs.Char.{is_digit, to_ascii_lowercase, encode_utf8}
use Rattle.std.specs.Str.{chars, is_utf8, bytes_eq, str_eq_ignore_ascii_case}
use Rattle.std.specs.Str.Parse.{digits_value}
use Rattle.std.specs.Fmt.{decimal, digits}
use Rattle.termwiz_keys.specs.declared.types.KeyCode.TheVariants.{Char, Function}
use Rattle.termwiz_extended_events.specs.declared.types.KeyReport.{KeyReport}
use Rattle.termwiz_extended_events.specs.declared.types.KeyEventKind.TheVariants.{Press}
use Rattle.termwiz_extended_events.specs.declared.types.ReportedKey.{ReportedKey}
use Rattle.termwiz_extended_events.specs.declared.types.ReportedKey.TheVariants.{Named, Functional}
use Rattle.termwiz_extended_events.specs.Numbers.{is_scalar}
use Rattle.termwiz_extended_events.specs.ReportedKeys.{entry_at}
use Rattle.termwiz_extended_events.specs.KeyReports.{report_of}
use Rattle.termwiz_bindings.specs.declared.press.KeyPress.{KeyPress}
use Rattle.termwiz_bindings.specs.declared.names.ReadError.{ReadError}
use Rattle.termwiz_bindings.specs.declared.names.ReadErrorKind.{ReadErrorKind}
use Rattle.termwiz_bindings.specs.declared.names.ReadErrorKind.TheVariants.{ModifierTwice, UnknownModifier, MissingKey, BadNumber, UnknownName, Ambiguous, NotAKey, ShiftedCharacter}
use Rattle.termwiz_bindings.specs.declared.names.keys.Style.{Style}
use Rattle.termwiz_bindings.specs.declared.names.keys.Style.TheVariants.{Vim, Emacs}
use Rattle.termwiz_bindings.specs.Letters.{is_shifted_sign}
use Rattle.termwiz_bindings.specs.MainKeys.{main_key}
use Rattle.termwiz_bindings.specs.Presses.{SHIFT, ALT, CTRL, SUPER, HYPER, META, canonical, character, has_any, has_shift}
use Rattle.termwiz_bindings.specs.Words.{key_of_word, modifier_of_word, printed_word}

-- ## What a name without modifiers says

-- one character, if that is all that the bytes spell
abbrev pub only_character : List ℕ → Option ℕ
only_character (c ∷ []) = Some c
only_character cs = None

unfoldable pub one_character : List ℕ → Option ℕ
one_character name = if is_utf8 name then only_character (chars name) else None

-- digits with a zero in front that says nothing
abbrev pub has_leading_zero : List ℕ → Bool
has_leading_zero digits = nat_lt 1 (length digits) && (slice_index digits 0 == 48)

-- the number that digits in a base write
unfoldable pub value_in : ℕ → List ℕ → Option ℕ
value_in base digits = if list_all (λ c. is_digit c base) digits then Some (digits_value base digits) else None

-- the number, if it is one from least to most
abbrev pub within : ℕ → ℕ → ℕ → Option ℕ
within least most n = if nat_le least n && nat_le n most then Some n else None

-- the number that at most five digits write, without leading zeros, if it is one from least to most
unfoldable pub number_within : ℕ → ℕ → List ℕ → Option ℕ
number_within least most digits =
    if nat_le (length digits) 5 && not (has_leading_zero digits) then option_and_then (within least most) (value_in 10 digits)
    else None

-- the name is this word in any case, and one or more digits behind it
abbrev pub is_numbered : List ℕ → List ℕ → Bool
is_numbered word name =
    str_eq_ignore_ascii_case (take (length word) name) word && nat_lt (length word) (length name)
    && list_all (λ c. is_digit c 10) (drop (length word) name)

-- the number behind this word, if the name is so
unfoldable pub numbered : List ℕ → ℕ → ℕ → List ℕ → Option (Result ℕ ReadErrorKind)
numbered word least most name =
    if is_numbered word name then Some (ok_or (number_within least most (drop (length word) name)) BadNumber) else None

-- a key whose number may be wrong
abbrev pub key_with_number : (ℕ → ReportedKey) → Result ℕ ReadErrorKind → Result ReportedKey ReadErrorKind
key_with_number key (Ok n) = Ok (key n)
key_with_number key (Err kind) = Err kind

-- f0 to f255
unfoldable pub function_key : List ℕ → Option (Result ReportedKey ReadErrorKind)
function_key name = option_map (key_with_number (λ n. Named (Function n))) (numbered (codes "f") 0 255 name)

-- a functional key by its number in kitty's table
unfoldable pub kitty_key : List ℕ → Option (Result ReportedKey ReadErrorKind)
kitty_key name = option_map (key_with_number Functional) (numbered (codes "kitty") 57344 63743 name)

-- A word: a function key, a functional key by its number, or one of the words for keys. DEL in capitals is Backspace to Emacs, and
-- Delete to others.
unfoldable pub word_key : List ℕ → Result ReportedKey ReadErrorKind
word_key name =
    if bytes_eq name (codes "DEL") then Err Ambiguous
    else unwrap_or (option_or (function_key name) (kitty_key name)) (ok_or (option_map Named (key_of_word name)) UnknownName)

-- the number behind U+ in any case, if four to six hexadecimal digits follow
unfoldable pub code_point_number : List ℕ → Option ℕ
code_point_number name =
    if (to_ascii_lowercase (slice_index name 0) == 117) && (slice_index name 1 == 43) && nat_le 6 (length name) && nat_le (length name) 8
    then value_in 16 (drop 2 name) else None

-- the character with this number
abbrev pub character_key : ℕ → Result ReportedKey ReadErrorKind
character_key n = if is_scalar n then Ok (Named (Char n)) else Err BadNumber

unfoldable pub code_point_key : List ℕ → Option (Result ReportedKey ReadErrorKind)
code_point_key name = option_map character_key (code_point_number name)

-- a character by its number, or a word
unfoldable pub spelled_key : List ℕ → Result ReportedKey ReadErrorKind
spelled_key name = unwrap_or (code_point_key name) (word_key name)

-- a character that isn't spelled, or any of these
unfoldable pub named_key : List ℕ → Result ReportedKey ReadErrorKind
named_key name = unwrap_or (option_map (λ c. Ok (Named (Char c))) (one_character name)) (spelled_key name)

-- ## The press of a key and modifiers

-- With CTRL a letter of ASCII is in lower case.
abbrev pub lowered_key : ReportedKey → ℕ → ReportedKey
lowered_key (Named (Char c)) held = Named (Char (if has_any held CTRL then to_ascii_lowercase c else c))
lowered_key key held = key

-- the press of a key with modifiers, as a report that says no more
abbrev pub named_report : ReportedKey → ℕ → KeyReport
named_report key held = report_of (lowered_key key held) (record { modifiers = held; kind = Press })

-- a sign that is typed with SHIFT: on another keyboard it is typed otherwise, so SHIFT doesn't stand with it
abbrev pub is_sign : Option ℕ → Bool
is_sign (Some c) = is_shifted_sign c
is_sign None = false

abbrev pub is_shifted_character : ReportedKey → ℕ → Bool
is_shifted_character key held = has_shift held && is_sign (character (main_key key))

unfoldable pub press_of : ReportedKey → ℕ → Result KeyPress ReadErrorKind
press_of key held =
    if is_shifted_character key held then Err ShiftedCharacter else ok_or (canonical (named_report key held)) NotAKey

abbrev pub error_at : ReadErrorKind → ℕ → ReadError
error_at kind at = record { kind = kind; at = at }

-- a press, or the error at its name
abbrev pub press_at : ℕ → Result KeyPress ReadErrorKind → Result KeyPress ReadError
press_at at (Ok press) = Ok press
press_at at (Err kind) = Err (error_at kind at)

-- the press of a name that was read, with these modifiers
unfoldable pub named_press : ℕ → ℕ → Result ReportedKey ReadErrorKind → Result KeyPress ReadError
named_press held at (Ok key) = press_at at (press_of key held)
named_press held at (Err kind) = Err (error_at kind at)

-- one more modifier
abbrev pub with_modifier : ℕ → ℕ → ℕ
with_modifier held modifier = bit_or held modifier

-- ## Modifiers in words

-- + and - part modifiers from what follows
abbrev pub is_separator : ℕ → Bool
is_separator b = b == 43 || b == 45

abbrev pub is_empty : List ℕ → Bool
is_empty [] = true
is_empty bytes = false

-- a name that is missing, or the press of another one
unfoldable pub last_press : ℕ → ℕ → List ℕ → Result KeyPress ReadError
last_press held at [] = Err (error_at MissingKey at)
last_press held at name = named_press held at (named_key name)

-- The word before a separator is a modifier that isn't held yet. A character before one belongs to the name, as in U+0041. Any other word
-- is an unknown modifier. `word` is what was read of the text since the last modifier.
unfoldable pub worded_press : ℕ → ℕ → List ℕ → List ℕ → Result KeyPress ReadError
worded_press held at word [] = last_press held at word
worded_press held at word (b ∷ rest) =
    if not (is_empty word) && is_separator b then elim (modifier_of_word word) [
      | Some modifier ↦ if has_any held modifier then Err (error_at ModifierTwice at)
          else worded_press (with_modifier held modifier) (at + length word + 1) [] rest
      | None ↦ if is_some (one_character word) then last_press held at (word ++ b ∷ rest) else Err (error_at UnknownModifier at)
    ]
    else worded_press held at (word ++ b ∷ []) rest

-- ## Modifiers in letters

-- Vim's letters, in any case: c, s, m and a, d, t
abbrev pub vim_letters : List (ℕ × ℕ)
vim_letters = (99, CTRL) ∷ (115, SHIFT) ∷ (109, ALT) ∷ (97, ALT) ∷ (100, SUPER) ∷ (116, META) ∷ []

-- Emacs's letters: C, M and A, S, s, H
abbrev pub emacs_letters : List (ℕ × ℕ)
emacs_letters = (67, CTRL) ∷ (77, ALT) ∷ (65, ALT) ∷ (83, SHIFT) ∷ (115, SUPER) ∷ (72, HYPER) ∷ []

unfoldable pub modifier_of_letter : Style → ℕ → Option ℕ
modifier_of_letter Vim letter = entry_at vim_letters (to_ascii_lowercase letter)
modifier_of_letter Emacs letter = entry_at emacs_letters letter

-- the modifier of a letter before -
unfoldable pub modifier_before : Style → ℕ → ℕ → Option ℕ
modifier_before style letter dash = if dash == 45 then modifier_of_letter style letter else None

-- what stands between < and >, if anything does
unfoldable pub between_brackets : List ℕ → Option (List ℕ)
between_brackets text =
    if (slice_index text 0 == 60) && (slice_index text (length text - 1) == 62) && nat_le 3 (length text)
    then Some (take (length text - 2) (drop 1 text)) else None

-- to Emacs a word or a number may have brackets
abbrev pub emacs_key : ℕ → ℕ → List ℕ → Option (List ℕ) → Result KeyPress ReadError
emacs_key held at name (Some word) = named_press held (at + 1) (spelled_key word)
emacs_key held at name None = named_press held at (named_key name)

-- the name behind letters of Emacs's
abbrev pub emacs_name : ℕ → ℕ → List ℕ → Result KeyPress ReadError
emacs_name held at name = emacs_key held at name (between_brackets name)

-- The name behind letters. Between Vim's brackets a character stands only behind a letter.
unfoldable pub lettered_name : Style → ℕ → ℕ → List ℕ → Result KeyPress ReadError
lettered_name style held at [] = Err (error_at MissingKey at)
lettered_name Vim held at name = named_press held at (if held == 0 then spelled_key name else named_key name)
lettered_name Emacs held at name = emacs_name held at name

-- Letters, each with - behind it, and a name. Where nothing stands behind them the key is missing, also if a modifier is there twice.
unfoldable pub lettered_press : Style → ℕ → ℕ → List ℕ → Result KeyPress ReadError
lettered_press style held at (letter ∷ dash ∷ rest) = elim (modifier_before style letter dash) [
  | Some modifier ↦ if is_empty rest then Err (error_at MissingKey (at + 2))
      else (if has_any held modifier then Err (error_at ModifierTwice at)
      else lettered_press style (with_modifier held modifier) (at + 2) rest)
  | None ↦ lettered_name style held at (letter ∷ dash ∷ rest)
]
lettered_press style held at name = lettered_name style held at name

-- ## A key

-- the text begins with a letter of Emacs's and -, and is longer
abbrev pub begins_as_emacs : List ℕ → Bool
begins_as_emacs (letter ∷ dash ∷ name) = is_some (modifier_before Emacs letter dash) && not (is_empty name)
begins_as_emacs text = false

-- In brackets a text is Vim's.
abbrev pub key_between : ℕ → List ℕ → Option (List ℕ) → Result KeyPress ReadError
key_between at text (Some name) = lettered_press Vim 0 (at + 1) name
key_between at text None = if begins_as_emacs text then lettered_press Emacs 0 at text else worded_press 0 at [] text

-- The press of a key's text, which has no blanks and stands at a byte of the whole text.
unfoldable pub read_key : ℕ → List ℕ → Result KeyPress ReadError
read_key at text = key_between at text (between_brackets text)

-- ## Printing

-- characters that are printed as they are: ASCII but the space, and the letters and signs of some scripts
unfoldable pub shown_characters : List (ℕ × ℕ)
shown_characters =
    (0x21, 0x7e) ∷ (0xa1, 0xac) ∷ (0xae, 0x2ff) ∷ (0x370, 0x377) ∷ (0x37a, 0x37f) ∷ (0x384, 0x38a) ∷ (0x38c, 0x38c)
    ∷ (0x38e, 0x3a1) ∷ (0x3a3, 0x482) ∷ (0x48a, 0x52f) ∷ (0x5d0, 0x5ea) ∷ (0x620, 0x64a) ∷ (0x10d0, 0x10ff)
    ∷ (0x1e00, 0x1eff) ∷ (0x20a0, 0x20bf) ∷ (0x3041, 0x3096) ∷ (0x30a1, 0x30fa) ∷ (0x4e00, 0x9ffc) ∷ (0xac00, 0xd7a3) ∷ []

unfoldable pub is_shown : ℕ → Bool
is_shown c = list_any (λ range. nat_le range.0 c && nat_le c range.1) shown_characters

-- U+ and at least four hexadecimal digits
abbrev pub code_point : ℕ → List ℕ
code_point c = let hexadecimal = digits 16 true c in codes "U+" ++ replicate (4 - length hexadecimal) 48 ++ hexadecimal

unfoldable pub printed_character : ℕ → List ℕ
printed_character c = if c == 32 then codes "space" else (if is_shown c then encode_utf8 c else code_point c)

unfoldable pub printed_key : ReportedKey → List ℕ
printed_key (Functional n) = codes "kitty" ++ decimal n
printed_key (Named (Char c)) = printed_character c
printed_key (Named (Function n)) = codes "f" ++ decimal n
printed_key (Named key) = printed_word key

-- a modifier's word, if it is held
abbrev pub printed_modifier : ℕ → ℕ → List ℕ → List ℕ
printed_modifier held modifier word = if has_any held modifier then word else []

unfoldable pub printed_modifiers : ℕ → List ℕ
printed_modifiers held =
    printed_modifier held SUPER (codes "super+") ++ printed_modifier held HYPER (codes "hyper+")
    ++ printed_modifier held META (codes "meta+") ++ printed_modifier held CTRL (codes "ctrl+")
    ++ printed_modifier held ALT (codes "alt+") ++ printed_modifier held SHIFT (codes "shift+")

-- the text of a press
unfoldable pub printed : KeyPress → List ℕ
printed press = printed_modifiers press.held ++ printed_key press.key
