-- Readings of the texts of keys, computed over lists of keys with modifiers.
use Rattle.std.proofs.Common.{◌≡◌, ℕ, ℤ, pos, ◌+◌, Bool, true, false, not, List, [], ◌∷◌, ◌++◌, map, filter, Option, Some, None, refl, Contains, ◌==◌, ⊎_elim}
use Rattle.std.specs.Prelude.{codes}
use Rattle.std.specs.List.{list_any}
use Rattle.std.specs.Char.{encode_utf8}
use Rattle.std.proofs.lemmas.List.Elements.{Contains-append_cases}
use Rattle.termwiz_base.specs.declared.modifiers.Modifiers.{Modifiers}
use Rattle.termwiz_base.specs.Control.{control_of}
use Rattle.termwiz_keys.specs.declared.types.KeyCode.{KeyCode}
use Rattle.termwiz_keys.specs.declared.types.KeyCode.TheVariants.{Char, Backspace, Tab, Enter, Escape}
use Rattle.termwiz_keys.specs.declared.types.KeyEvent.{KeyEvent}
use Rattle.termwiz_keys.specs.declared.encode.KeyboardEncoding.{KeyboardEncoding}
use Rattle.termwiz_keys.specs.declared.encode.KeyboardEncoding.TheVariants.{Xterm, CsiU}
use Rattle.termwiz_keys.specs.declared.encode.KeyCodeEncodeModes.{KeyCodeEncodeModes}
use Rattle.termwiz_keys.specs.Keys.{NONE, SHIFT, ALT, CTRL, key_with}
use Rattle.termwiz_keys.specs.KeyCodes.{shifted}
use Rattle.termwiz_keys.specs.Encoding.{enc, key_text, normal_key, normal_held, shows_shift, named_key, char_text, plain_char_text, other_text, backspace_text, enter_text, escape_text, tab_text, cursor_text, application_text, edit_text, lettered_function_text, numbered_function_text, function_text}
use Rattle.termwiz_grammar.specs.Table.{TableRow, numbers, written_out}
use Rattle.termwiz_grammar.specs.Listed.{any_of_three, ReadsBack}
use Rattle.termwiz_grammar.proofs.lemmas.lists.ListMembers.{joined, pairs, same_on}
use Rattle.termwiz_grammar.proofs.lemmas.read_back.RuleReader.{AreRows, reading, reading_means, rows_for, rows_for_are, csi_u_rows_of, csi_u_are}
use Rattle.termwiz_laws.specs.FurtherKeys.{named_keys, arrows, keys_alone, some_of_three, shift_or_ctrl, with_ctrl, ctrl_or_ctrl_alt, no_control_character, ambiguous_characters}

abbrev pub mode : KeyboardEncoding → Bool → Bool → Option ℤ → KeyCodeEncodeModes
mode encoding cursor_keys newline level = record {
  encoding = encoding;
  application_cursor_keys = cursor_keys;
  newline_mode = newline;
  modify_other_keys = level;
}

abbrev pub level : ℕ → Option ℤ
level n = Some (pos n)

-- a key, and the bits of the modifiers that are held
abbrev pub Held : Type 0
Held = KeyCode × ℕ

-- rows among which the texts of a key are, after at most one ESC
abbrev rows_of : KeyCode → List TableRow
rows_of (Char c) = rows_for (Char c) ++ csi_u_rows_of c
rows_of key = rows_for key

rows_of_are : (key : KeyCode) → AreRows (rows_of key)
rows_of_are (Char c) r h = ⊎_elim (λ (a : Contains (rows_for (Char c)) r). rows_for_are (Char c) r a)
    (λ (b : Contains (csi_u_rows_of c) r). csi_u_are c r b)
    (Contains-append_cases (rows_for (Char c)) (csi_u_rows_of c) r h)
rows_of_are key r h = rows_for_are key r h

abbrev read_if_some : KeyCode → Option (List ℕ) → Option KeyEvent
read_if_some key (Some text) = reading (rows_of key) text
read_if_some key None = None

abbrev read_back_in : KeyCodeEncodeModes → Held → Option KeyEvent
read_back_in modes p = read_if_some p.0 (enc p.0 (record { 0 = p.1 }) modes)

abbrev same_key : Held → Option KeyEvent
same_key p = Some (key_with p.0 p.1)

-- all of these read back
abbrev pub AllRead : KeyCodeEncodeModes → List Held → Type 0
AllRead modes cases = map (read_back_in modes) cases ≡ map same_key cases

-- so each of them does
pub reads_back_in : (modes : KeyCodeEncodeModes) (cases : List Held) (key : KeyCode) (modifiers : Modifiers)
    → AllRead modes cases → Contains cases (key, modifiers.0)
    → ReadsBack key modifiers modes
reads_back_in modes cases key modifiers test c = go (enc key modifiers modes) refl
  where
    read : read_back_in modes (key, modifiers.0) ≡ Some (key_with key modifiers.0)
    read = same_on (read_back_in modes) same_key cases (key, modifiers.0) test c

    go : (o : Option (List ℕ)) → enc key modifiers modes ≡ o → ReadsBack key modifiers modes
    go (Some text) e =
        (text, e, reading_means (rows_of key) text (key_with key modifiers.0) (rows_of_are key) (rw e at read))
    go None e = absurd (let none : None ≡ Some (key_with key modifiers.0) = rw e at read in cc (none))

-- the definition of the encoder, written out: to unfold this is to unfold its groups
unfoldable pub enc_written_out : KeyCode → Modifiers → KeyCodeEncodeModes → Option (List ℕ)
unfolding enc key_text normal_key normal_held shows_shift named_key shifted char_text plain_char_text other_text
    backspace_text enter_text escape_text tab_text cursor_text application_text edit_text lettered_function_text
    numbered_function_text function_text control_of encode_utf8
enc_written_out = enc

abbrev pub chars : List ℕ → List KeyCode
chars codes = map (λ c. Char c) codes

-- named keys, with application cursor keys off and on
abbrev pub named : List Held
named = pairs named_keys any_of_three

pub named_off : (e : KeyboardEncoding) (n : Bool) (l : Option ℤ) → AllRead (mode e false n l) named
unfolding enc_written_out written_out
named_off e n l = refl

pub named_on : (e : KeyboardEncoding) (n : Bool) (l : Option ℤ) → AllRead (mode e true n l) named
unfolding enc_written_out written_out
named_on e n l = refl

-- in all modes
abbrev pub modified_arrows : List Held
modified_arrows = pairs arrows some_of_three

abbrev pub without_modifiers : List Held
without_modifiers = pairs keys_alone (NONE ∷ [])

abbrev pub escape_and_backspace : List Held
escape_and_backspace = pairs (Escape ∷ Backspace ∷ []) (NONE ∷ ALT ∷ [])

abbrev pub printable_with_alt : List Held
printable_with_alt = pairs (chars (numbers 33 94)) (ALT ∷ [])

pub modified_arrows_read : (e : KeyboardEncoding) (a n : Bool) (l : Option ℤ) → AllRead (mode e a n l) modified_arrows
unfolding enc_written_out written_out
modified_arrows_read e a n l = refl

pub without_modifiers_read : (e : KeyboardEncoding) (a n : Bool) (l : Option ℤ)
    → AllRead (mode e a n l) without_modifiers
unfolding enc_written_out written_out
without_modifiers_read e a n l = refl

pub escape_and_backspace_read : (e : KeyboardEncoding) (a n : Bool) (l : Option ℤ)
    → AllRead (mode e a n l) escape_and_backspace
unfolding enc_written_out written_out
escape_and_backspace_read e a n l = refl

pub printable_with_alt_read : (e : KeyboardEncoding) (a n : Bool) (l : Option ℤ)
    → AllRead (mode e a n l) printable_with_alt
unfolding enc_written_out written_out
printable_with_alt_read e a n l = refl

-- where application cursor keys are off, or newline mode
abbrev pub arrows_alone : List Held
arrows_alone = pairs arrows (NONE ∷ [])

abbrev pub enter_alone : List Held
enter_alone = pairs (Enter ∷ []) (NONE ∷ ALT ∷ [])

pub arrows_alone_read : (e : KeyboardEncoding) (n : Bool) (l : Option ℤ) → AllRead (mode e false n l) arrows_alone
unfolding enc_written_out written_out
arrows_alone_read e n l = refl

pub enter_alone_read : (e : KeyboardEncoding) (a : Bool) (l : Option ℤ) → AllRead (mode e a false l) enter_alone
unfolding enc_written_out written_out
enter_alone_read e a l = refl

-- letters that share their control character with no other key
abbrev pub own_letter : ℕ → Bool
own_letter c = not (list_any (λ d. d == c) (codes "hijm"))

abbrev pub own_letters : List Held
own_letters = pairs (chars (filter own_letter (numbers 97 26))) ctrl_or_ctrl_alt

pub letters_xterm_off : (a n : Bool) → AllRead (mode Xterm a n None) own_letters
unfolding enc_written_out written_out
letters_xterm_off a n = refl

pub letters_xterm_zero : (a n : Bool) → AllRead (mode Xterm a n (level 0)) own_letters
unfolding enc_written_out written_out
letters_xterm_zero a n = refl

pub letters_xterm_one : (a n : Bool) → AllRead (mode Xterm a n (level 1)) own_letters
unfolding enc_written_out written_out
letters_xterm_one a n = refl

pub letters_csi_off : (a n : Bool) → AllRead (mode CsiU a n None) own_letters
unfolding enc_written_out written_out
letters_csi_off a n = refl

pub letters_csi_zero : (a n : Bool) → AllRead (mode CsiU a n (level 0)) own_letters
unfolding enc_written_out written_out
letters_csi_zero a n = refl

pub letters_csi_one : (a n : Bool) → AllRead (mode CsiU a n (level 1)) own_letters
unfolding enc_written_out written_out
letters_csi_one a n = refl

-- where modifyOtherKeys is off
abbrev pub tabs : List Held
tabs = pairs (Tab ∷ []) (ALT ∷ SHIFT ∷ (ALT + SHIFT) ∷ (CTRL + SHIFT) ∷ (CTRL + ALT + SHIFT) ∷ [])

pub tabs_read : (e : KeyboardEncoding) (a n : Bool) → AllRead (mode e a n None) tabs
unfolding enc_written_out written_out
tabs_read e a n = refl

abbrev pub low_with_alt : List Held
low_with_alt = pairs (chars (numbers 28 5)) (ALT ∷ [])

pub low_with_alt_read : (a n : Bool) → AllRead (mode Xterm a n None) low_with_alt
unfolding enc_written_out written_out
low_with_alt_read a n = refl

-- where it is on, in xterm's encoding
abbrev pub tabs_by_code : List Held
tabs_by_code = pairs (Tab ∷ []) some_of_three

abbrev pub enters_by_code : List Held
enters_by_code = pairs (Enter ∷ []) shift_or_ctrl

abbrev pub escapes_by_code : List Held
escapes_by_code = pairs (Escape ∷ Backspace ∷ []) shift_or_ctrl

pub tabs_zero : (a n : Bool) → AllRead (mode Xterm a n (level 0)) tabs_by_code
unfolding enc_written_out written_out
tabs_zero a n = refl

pub tabs_one : (a n : Bool) → AllRead (mode Xterm a n (level 1)) tabs_by_code
unfolding enc_written_out written_out
tabs_one a n = refl

pub tabs_two : (a n : Bool) → AllRead (mode Xterm a n (level 2)) tabs_by_code
unfolding enc_written_out written_out
tabs_two a n = refl

pub enters_zero : (a n : Bool) → AllRead (mode Xterm a n (level 0)) enters_by_code
unfolding enc_written_out written_out
enters_zero a n = refl

pub enters_one : (a n : Bool) → AllRead (mode Xterm a n (level 1)) enters_by_code
unfolding enc_written_out written_out
enters_one a n = refl

pub enters_two : (a n : Bool) → AllRead (mode Xterm a n (level 2)) enters_by_code
unfolding enc_written_out written_out
enters_two a n = refl

pub escapes_zero : (a n : Bool) → AllRead (mode Xterm a n (level 0)) escapes_by_code
unfolding enc_written_out written_out
escapes_zero a n = refl

pub escapes_two : (a n : Bool) → AllRead (mode Xterm a n (level 2)) escapes_by_code
unfolding enc_written_out written_out
escapes_two a n = refl

-- characters that are sent by their codes, of those that a test keeps
abbrev pub is_kept : List ℕ → ℕ → Bool
is_kept others c = not (list_any (λ d. d == c) others)

abbrev pub kept : List ℕ → ℕ → ℕ → List KeyCode
kept others first count = chars (filter (is_kept others) (numbers first count))

abbrev pub controls_and_space : List ℕ → List Held
controls_and_space others = pairs (kept others 0 33) (SHIFT ∷ ALT ∷ (ALT + SHIFT) ∷ [])

abbrev pub controls_with_ctrl : List ℕ → List Held
controls_with_ctrl others = pairs (kept others 0 32) with_ctrl

abbrev pub digits_with_shift : List Held
digits_with_shift = pairs (chars (numbers 48 10)) (SHIFT ∷ [])

abbrev pub uppercase_with_ctrl : List Held
uppercase_with_ctrl = pairs (chars (numbers 65 26)) ctrl_or_ctrl_alt

abbrev pub unpaired_with_ctrl : List Held
unpaired_with_ctrl = pairs (chars no_control_character) (CTRL ∷ [])

abbrev pub unpaired_digits : List Held
unpaired_digits = pairs (chars (codes "019")) ((CTRL + SHIFT) ∷ [])

abbrev pub later_by_code : List ℕ → List (List Held)
later_by_code others =
    controls_with_ctrl others ∷ digits_with_shift ∷ uppercase_with_ctrl ∷ unpaired_with_ctrl ∷ unpaired_digits ∷ []

abbrev pub by_code_at_any : List ℕ → List Held
by_code_at_any others = joined (controls_and_space others) (later_by_code others)

-- the codes that aren't the character's own: in CsiU, where 8 is another key's without Ctrl, and by modifyOtherKeys
abbrev pub not_csi : List ℕ
not_csi = 8 ∷ []

abbrev pub not_other : List ℕ
not_other = 8 ∷ 9 ∷ 10 ∷ 13 ∷ 27 ∷ []

abbrev pub at_two_first : List Held
at_two_first = pairs (chars (numbers 32 95)) ctrl_or_ctrl_alt

abbrev pub at_two_later : List (List Held)
at_two_later = pairs (chars (32 ∷ numbers 48 10)) ((CTRL + SHIFT) ∷ (CTRL + ALT + SHIFT) ∷ []) ∷ []

abbrev pub by_code_at_two : List Held
by_code_at_two = joined at_two_first at_two_later

abbrev pub in_csi_first : List Held
in_csi_first = pairs (Char 8 ∷ []) with_ctrl

abbrev pub in_csi_later : List (List Held)
in_csi_later = pairs (chars ambiguous_characters) ctrl_or_ctrl_alt ∷ []

abbrev pub by_code_in_csi : List Held
by_code_in_csi = joined in_csi_first in_csi_later

pub xterm_zero : (a n : Bool) → AllRead (mode Xterm a n (level 0)) (by_code_at_any not_other)
unfolding enc_written_out written_out
xterm_zero a n = refl

pub xterm_one : (a n : Bool) → AllRead (mode Xterm a n (level 1)) (by_code_at_any not_other)
unfolding enc_written_out written_out
xterm_one a n = refl

pub xterm_two : (a n : Bool) → AllRead (mode Xterm a n (level 2)) (by_code_at_any not_other)
unfolding enc_written_out written_out
xterm_two a n = refl

pub xterm_at_two : (a n : Bool) → AllRead (mode Xterm a n (level 2)) by_code_at_two
unfolding enc_written_out written_out
xterm_at_two a n = refl

pub csi_off : (a n : Bool) → AllRead (mode CsiU a n None) (by_code_at_any not_csi)
unfolding enc_written_out written_out
csi_off a n = refl

pub csi_zero : (a n : Bool) → AllRead (mode CsiU a n (level 0)) (by_code_at_any not_csi)
unfolding enc_written_out written_out
csi_zero a n = refl

pub csi_one : (a n : Bool) → AllRead (mode CsiU a n (level 1)) (by_code_at_any not_csi)
unfolding enc_written_out written_out
csi_one a n = refl

pub csi_two : (a n : Bool) → AllRead (mode CsiU a n (level 2)) (by_code_at_any not_csi)
unfolding enc_written_out written_out
csi_two a n = refl

pub csi_at_two : (a n : Bool) → AllRead (mode CsiU a n (level 2)) by_code_at_two
unfolding enc_written_out written_out
csi_at_two a n = refl

pub csi_more_off : (a n : Bool) → AllRead (mode CsiU a n None) by_code_in_csi
unfolding enc_written_out written_out
csi_more_off a n = refl

pub csi_more_zero : (a n : Bool) → AllRead (mode CsiU a n (level 0)) by_code_in_csi
unfolding enc_written_out written_out
csi_more_zero a n = refl

pub csi_more_one : (a n : Bool) → AllRead (mode CsiU a n (level 1)) by_code_in_csi
unfolding enc_written_out written_out
csi_more_one a n = refl

pub csi_more_two : (a n : Bool) → AllRead (mode CsiU a n (level 2)) by_code_in_csi
unfolding enc_written_out written_out
csi_more_two a n = refl
