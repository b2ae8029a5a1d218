-- What a report of a key is written as, so that no row of the sequence table is like it: the form of Kitty's keyboard protocol for the key,
-- with what happened to the key always told. From the protocol ("Comprehensive keyboard handling in terminals", "Overview").
use Rattle.std.specs.Prelude.{ℕ, ◌+◌, ◌==◌, ◌&&◌, Bool, true, false, not, nat_lt, List, [], ◌∷◌, ◌++◌, length, codes, decimal, encode_utf8, Option, Some, None, option_map, if◌then◌else◌}
use Rattle.std.specs.Str.{chars}
use Rattle.termwiz_keys.specs.Introducers.{CSI}
use Rattle.termwiz_keys.specs.declared.types.KeyCode.TheVariants.{Char, KeyPadBegin}
use Rattle.termwiz_extended_events.specs.declared.types.KeyReport.{KeyReport}
use Rattle.termwiz_extended_events.specs.declared.types.KeyEventKind.{KeyEventKind}
use Rattle.termwiz_extended_events.specs.declared.types.KeyEventKind.TheVariants.{Press, Repeat, Release}
use Rattle.termwiz_extended_events.specs.declared.types.ReportedKey.{ReportedKey}
use Rattle.termwiz_extended_events.specs.declared.types.ReportedKey.TheVariants.{Named, Functional}
use Rattle.termwiz_extended_events.specs.ReportedKeys.{is_functional, key_of}
use Rattle.termwiz_kitty.specs.declared.key_forms.KeyForm.{KeyForm}
use Rattle.termwiz_kitty.specs.declared.key_forms.KeyForm.TheVariants.{Letter, Number, Code}
use Rattle.termwiz_kitty.specs.KeyForms.{form_of, is_character}
use Rattle.termwiz_kitty.specs.KittyTexts.{kind_text, codes_text, characters_text, most_bytes}
use Rattle.termwiz_kitty.specs.Telling.{is_press, is_shifted}

-- the number of what happened to a key
abbrev pub kind_number : KeyEventKind → ℕ
kind_number Press = 1
kind_number Repeat = 2
kind_number Release = 3

-- modifiers : kind, both told
unfoldable pub told_manner : ℕ → KeyEventKind → List ℕ
told_manner bits kind = decimal (1 + bits) ++ codes ":" ++ decimal (kind_number kind)

abbrev pub is_missing : Option ℕ → Bool
is_missing None = true
is_missing (Some c) = false

abbrev pub is_empty : List ℕ → Bool
is_empty [] = true
is_empty (b ∷ text) = false

-- the report says no more than its key, the modifiers and what happened
abbrev pub says_no_more : KeyReport → Bool
says_no_more r = is_missing r.shifted && is_missing r.base && is_empty r.text

-- the sequence of a key that has this form, where nothing more is said of it
unfoldable pub plain_report_text : KeyForm → ℕ → KeyEventKind → List ℕ
plain_report_text (Letter letter) bits kind = CSI ++ codes "1;" ++ told_manner bits kind ++ encode_utf8 letter
plain_report_text (Number n) bits kind = CSI ++ decimal n ++ codes ";" ++ told_manner bits kind ++ codes "~"
plain_report_text (Code n) bits kind = CSI ++ decimal n ++ codes ";" ++ told_manner bits kind ++ codes "u"

-- modifiers : kind, of which that no modifier is held and that the key was pressed aren't told
unfoldable pub short_manner : ℕ → KeyEventKind → List ℕ
short_manner bits kind = (if bits == 0 then [] else decimal (1 + bits)) ++ kind_text kind

-- the field of the manner, and the number of the first character of a text
abbrev pub first_fields : ℕ → KeyEventKind → ℕ → List ℕ
first_fields bits kind c = codes ";" ++ short_manner bits kind ++ codes ";" ++ decimal c

-- no modifier is held, and the key was pressed
abbrev pub is_plain_press : ℕ → KeyEventKind → Bool
is_plain_press bits kind = (bits == 0) && is_press kind

-- the field of the manner at the end of a report, which is left out of such a press
abbrev pub last_manner : ℕ → KeyEventKind → List ℕ
last_manner bits kind = if is_plain_press bits kind then [] else codes ";" ++ short_manner bits kind

-- the fields behind the first one, for a key with other characters or a text
unfoldable pub further_fields : ℕ → KeyEventKind → List ℕ → List ℕ
further_fields bits kind [] = last_manner bits kind
further_fields bits kind (c ∷ cs) = codes ";" ++ short_manner bits kind ++ codes ";" ++ characters_text (c ∷ cs)

-- the sequence of a key with other characters or a text, by its number
unfoldable pub full_report_text : ℕ → KeyReport → List ℕ
full_report_text n r = CSI ++ codes_text n r.shifted r.base ++ further_fields r.modifiers r.kind (chars r.text) ++ codes "u"

-- the number of a key's own in Kitty's protocol
abbrev pub number_of_form : Option KeyForm → Option ℕ
number_of_form (Some (Code n)) = Some n
number_of_form form = None

unfoldable pub own_number : ReportedKey → Option ℕ
own_number (Named KeyPadBegin) = Some 57427
own_number key = number_of_form (form_of key)

-- the key of a number for which there is no name
abbrev pub is_nameless : ReportedKey → Bool
is_nameless (Functional n) = true
is_nameless key = false

-- The key is the one that its number is read as. It isn't if a character has the number of a key with a name, of a functional key, or of none.
unfoldable pub is_own_key : ReportedKey → Bool
is_own_key (Named (Char c)) = is_character (key_of c)
is_own_key (Functional n) = is_nameless (key_of n)
is_own_key key = true

-- the character, if its number is that of a functional key
unfoldable pub private_character : ReportedKey → Option ℕ
private_character (Named (Char c)) = if is_functional c then Some c else None
private_character key = None

-- a character as xterm's modifyOtherKeys reports it
unfoldable pub private_report_text : ℕ → ℕ → List ℕ
private_report_text c bits = CSI ++ codes "27;" ++ decimal (1 + bits) ++ codes ";" ++ decimal c ++ codes "~"

-- Backspace has two numbers. It is told by 127, or by 8 where the sequence would be too long.
abbrev pub told_number : KeyReport → ℕ → ℕ
told_number r n = if (n == 127) && nat_lt most_bytes (length (full_report_text n r)) then 8 else n

-- what the report of a key is written as, if it isn't too long
abbrev pub own_report_text : KeyReport → Option (List ℕ)
own_report_text r =
    if says_no_more r
    then option_map (λ form. plain_report_text form r.modifiers r.kind) (form_of r.key)
    else option_map (λ n. full_report_text (told_number r n) r) (own_number r.key)

-- what is read from such a text of the character that Shift made: with Shift it is c, and without Shift there is none
abbrev pub is_shifted_as : ℕ → ℕ → Option ℕ → Bool
is_shifted_as c bits None = not (is_shifted bits)
is_shifted_as c bits (Some s) = is_shifted bits && (s == c)

-- the report says what is read from such a text: a press, what Shift made, and nothing more
abbrev pub says_as_xterm : KeyReport → ℕ → Bool
says_as_xterm r c = is_shifted_as c r.modifiers r.shifted && is_missing r.base && is_empty r.text && is_press r.kind

-- what the report of a character is written as that has the number of a functional key
abbrev pub private_text : KeyReport → ℕ → Option (List ℕ)
private_text r c = if says_as_xterm r c then Some (private_report_text c r.modifiers) else None

abbrev pub report_text_by : KeyReport → Option ℕ → Option (List ℕ)
report_text_by r (Some c) = private_text r c
report_text_by r None = if is_own_key r.key then own_report_text r else None

unfoldable pub report_text : KeyReport → Option (List ℕ)
report_text r = report_text_by r (private_character r.key)
