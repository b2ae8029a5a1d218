-- Texts, what is read of them, and what is printed of that, computed from the definitions.
use Rattle.std.proofs.Common.{◌≡◌, ℕ, List, [], ◌∷◌, ◌++◌, codes, Result, Ok, Err, refl}
use Rattle.std.specs.Str.{chars, is_utf8}
use Rattle.std.specs.Fmt.{digits}
use lib.Utf8.{encode}
use Rattle.termwiz_extended_events.specs.ReportedKeys.{functional_key}
use Rattle.termwiz_bindings.specs.declared.press.KeyPress.{KeyPress}
use Rattle.termwiz_bindings.specs.declared.names.ReadError.{ReadError}
use Rattle.termwiz_bindings.specs.declared.names.ReadErrorKind.{ReadErrorKind}
use Rattle.termwiz_bindings.specs.declared.names.ReadErrorKind.TheVariants.{ControlCharacter, ModifierTwice, UnknownModifier, MissingKey, BadNumber, UnknownName, Ambiguous, NotAKey, ShiftedCharacter, Empty}
use Rattle.termwiz_bindings.specs.Letters as letters
use Rattle.termwiz_bindings.specs.MainKeys as keys
use Rattle.termwiz_bindings.specs.Presses as rules
use Rattle.termwiz_bindings.specs.Words as words
use Rattle.termwiz_bindings.specs.Names as names
use Rattle.termwiz_bindings.specs.ChordNames.{control_at, read_keys, read, printed_chord}

-- what is printed of a chord that was read
abbrev shown : Result (List KeyPress) ReadError → Result (List ℕ) ReadError
shown (Ok chord) = Ok (printed_chord chord)
shown (Err error) = Err error

-- the chord of a text: to unfold this is to unfold every rule
unfoldable pub chord_of : List ℕ → Result (List KeyPress) ReadError
unfolding read control_at read_keys names.read_key names.between_brackets names.lettered_press names.lettered_name
    names.modifier_before names.modifier_of_letter names.worded_press names.last_press names.named_press names.press_of
    names.named_key names.spelled_key names.code_point_key names.code_point_number names.word_key names.kitty_key
    names.function_key names.numbered names.number_within names.value_in names.one_character words.modifier_of_word
    words.modifier_words words.key_of_word words.other_words words.worded_key words.worded_keys words.printed_word
    rules.canonical rules.settled rules.plain_press rules.main_press rules.control_press rules.told_press rules.shown_press
    rules.lowered_press rules.cased_press rules.typed_press letters.has_near_capital letters.has_far_capital
    letters.capital_of letters.letter_of letters.is_shifted_sign letters.shown_with_shift keys.makes_no_press keys.main_code
    keys.main_of_named functional_key chars is_utf8 encode
chord_of text = read text

-- and what is printed of it
unfoldable pub round_of : List ℕ → Result (List ℕ) ReadError
unfolding chord_of printed_chord names.printed names.printed_modifiers names.printed_key names.printed_character names.is_shown
    names.shown_characters digits
round_of text = shown (chord_of text)

abbrev Prints : List ℕ → List ℕ → Type 0
Prints text printed = round_of text ≡ Ok printed

abbrev Fails : List ℕ → ReadErrorKind → ℕ → Type 0
Fails text kind at = round_of text ≡ Err (record { kind = kind; at = at })

emacs_chord : Prints (codes "C-x C-s") (codes "ctrl+x ctrl+s")
unfolding round_of
emacs_chord = refl

vim_capital : Prints (codes "<C-W>") (codes "ctrl+w")
unfolding round_of
vim_capital = refl

words_and_dashes : Prints (codes "Ctrl-Shift-Up") (codes "ctrl+shift+up")
unfolding round_of
words_and_dashes = refl

plus_with_ctrl : Prints (codes "ctrl++") (codes "ctrl++")
unfolding round_of
plus_with_ctrl = refl

word_in_brackets : Prints (codes "C-M-<f5>") (codes "ctrl+alt+f5")
unfolding round_of
word_in_brackets = refl

bracket_alone : Prints (codes "M-<") (codes "alt+<")
unfolding round_of
bracket_alone = refl

super_capital : Prints (codes "s-A") (codes "super+shift+a")
unfolding round_of
super_capital = refl

shifted_letter : Prints (codes "shift+a") (codes "A")
unfolding round_of
shifted_letter = refl

-- the bytes of U+0441
cyrillic_by_number : Prints (codes "alt+U+0441") (codes "alt+" ++ 0xd1 ∷ 0x81 ∷ [])
unfolding round_of
cyrillic_by_number = refl

hidden_by_number : Prints (codes "U+200b") (codes "U+200B")
unfolding round_of
hidden_by_number = refl

other_word : Prints (codes "ESC x") (codes "escape x")
unfolding round_of
other_word = refl

kitty_number : Prints (codes "Kitty57428") (codes "kitty57428")
unfolding round_of
kitty_number = refl

tabs_and_blanks : Prints (9 ∷ codes "  g" ++ 9 ∷ codes " g ") (codes "g g")
unfolding round_of
tabs_and_blanks = refl

shifted_digit : Prints (codes "shift+1") (codes "shift+1")
unfolding round_of
shifted_digit = refl

shifted_digit_with_ctrl : Prints (codes "C-S-1") (codes "ctrl+shift+1")
unfolding round_of
shifted_digit_with_ctrl = refl

shifted_capital : Prints (codes "shift+A") (codes "A")
unfolding round_of
shifted_capital = refl

-- the bytes of U+00E9 and U+00C9
accented_letter : Prints (codes "shift+" ++ 0xc3 ∷ 0xa9 ∷ []) (0xc3 ∷ 0x89 ∷ [])
unfolding round_of
accented_letter = refl

accented_with_ctrl : Prints (codes "ctrl+" ++ 0xc3 ∷ 0x89 ∷ []) (codes "ctrl+shift+" ++ 0xc3 ∷ 0xa9 ∷ [])
unfolding round_of
accented_with_ctrl = refl

small_number : Prints (codes "u+0041") (codes "A")
unfolding round_of
small_number = refl

number_in_brackets : Prints (codes "C-<u+0041>") (codes "ctrl+a")
unfolding round_of
number_in_brackets = refl

eight_by_number : Prints (codes "U+0008") (codes "ctrl+h")
unfolding round_of
eight_by_number = refl

shifted_sign : Fails (codes "shift+!") ShiftedCharacter 6
unfolding round_of
shifted_sign = refl

shifted_plus : Fails (codes "x S-plus") ShiftedCharacter 4
unfolding round_of
shifted_plus = refl

letters_alone : Fails (codes "M-A-") MissingKey 4
unfolding round_of
letters_alone = refl

two_letters : Fails (codes "gg") UnknownName 0
unfolding round_of
two_letters = refl

no_modifier : Fails (codes "foo+x") UnknownModifier 0
unfolding round_of
no_modifier = refl

modifier_alone : Fails (codes "x ctrl+") MissingKey 7
unfolding round_of
modifier_alone = refl

alt_twice : Fails (codes "M-A-x") ModifierTwice 2
unfolding round_of
alt_twice = refl

-- the bytes of U+00E9 come first
delete_in_capitals : Fails (0xc3 ∷ 0xa9 ∷ codes " DEL") Ambiguous 3
unfolding round_of
delete_in_capitals = refl

lock : Fails (codes "capslock") NotAKey 0
unfolding round_of
lock = refl

large_function : Fails (codes "g f256") BadNumber 2
unfolding round_of
large_function = refl

surrogate : Fails (codes "U+D800") BadNumber 0
unfolding round_of
surrogate = refl

line_feed : Fails (codes "gg" ++ 10 ∷ []) ControlCharacter 2
unfolding round_of
line_feed = refl

blanks_alone : Fails (codes "  ") Empty 0
unfolding round_of
blanks_alone = refl
