-- What the texts of other keys are read as, computed over lists of keys with modifiers.
use Rattle.std.proofs.Common.{◌≡◌, ◌∙◌, inl, ℕ, zero, suc, ℤ, ◌+◌, ◌-◌, ◌<◌, Bool, true, false, not, List, [], ◌∷◌, ◌++◌, map, filter, flat_map, Option, Some, None, refl, sym, ap, subst, arith, Contains, ◌==◌, ◌&&◌, ◌||◌, nat_lt, nat_le}
use Rattle.std.specs.Prelude.{codes, if◌then◌else◌}
use Rattle.std.specs.List.{list_any, list_all}
use Rattle.std.specs.Option.{option_or}
use Rattle.std.specs.Char.{is_ascii_lowercase, is_ascii_uppercase, is_ascii_digit, is_ascii_alphanumeric, is_ascii_punctuation}
use Rattle.std.proofs.Math.Utf8.{low_scalar}
use Rattle.std.proofs.lemmas.Bool.{and_parts, ltb-true, eqb-true, eq-eqb, and_from, not_from_true, not_from_false}
use Rattle.std.proofs.lemmas.List.Sums.{AllPass-from_list_all}
use Rattle.std.proofs.lemmas.List.Elements.{All-contains, Contains-append_left, Contains-append_right}
use Rattle.std.proofs.lemmas.Str.{encode_ascii}
use Rattle.termwiz_keys.specs.declared.types.KeyCode.{KeyCode}
use Rattle.termwiz_keys.specs.declared.types.KeyCode.TheVariants.{Char, Backspace, Tab, Enter, Escape, LeftArrow, RightArrow, UpArrow, DownArrow, ApplicationLeftArrow, ApplicationRightArrow, ApplicationUpArrow, ApplicationDownArrow}
use Rattle.termwiz_keys.specs.declared.types.KeyEvent.{KeyEvent}
use Rattle.termwiz_keys.specs.declared.types.InputEvent.TheVariants.{Key}
use Rattle.termwiz_keys.specs.declared.encode.KeyboardEncoding.{KeyboardEncoding}
use Rattle.termwiz_keys.specs.declared.encode.KeyboardEncoding.TheVariants.{Xterm, CsiU}
use Rattle.termwiz_keys.specs.declared.encode.KeyCodeEncodeModes.{KeyCodeEncodeModes}
use Rattle.termwiz_keys.specs.Keys.{NONE, SHIFT, ALT, CTRL, key_with, plain, with_alt}
use Rattle.termwiz_keys.specs.Encoding.{enc}
use Rattle.termwiz_grammar.specs.Table.{TableRow, rows, numbers, written_out, csi_u_of, modify_other_key, to_eight, control_letters_rows, backspace_bytes_rows, tab_byte_rows, enter_bytes_rows, escape_byte_rows, alt_letters_rows, alt_bracket_rows, csi_u_rows, modify_other_keys_rows, modified_cursor_keys_rows, application_arrows_rows, edit_keys_rows, modified_edit_keys_rows}
use Rattle.termwiz_grammar.specs.Grammar.{Means}
use Rattle.termwiz_grammar.specs.Grammar.Head.{Character}
use Rattle.termwiz_grammar.specs.Listed.{any_of_three, ReadsBack}
use Rattle.termwiz_grammar.proofs.lemmas.lists.ListMembers.{pairs, in_map, in_flat_map, in_filter, in_pairs, in_numbers}
use Rattle.termwiz_grammar.proofs.lemmas.read_back.RuleReader.{AreRows, part_rows, table_parts, both_are, reading, reading_means, ascii_key}
use Rattle.termwiz_grammar.proofs.lemmas.read_back.WholeTexts.{alt_means, char_means}
use Rattle.termwiz_laws.specs.FurtherKeys.{arrows, some_of_three, shift_or_ctrl, with_ctrl, ctrl_or_ctrl_alt, no_control_character, ambiguous_characters}
use Rattle.termwiz_laws.proofs.lemmas.shared_texts.TwinKeys.{read_once}
use Rattle.termwiz_laws.proofs.lemmas.further_keys.ComputedReadings.{mode, level, Held, enc_written_out, own_letter}
use Rattle.termwiz_laws.proofs.lemmas.further_keys.SingleCharacters.{zero_head, zero_means}
use Rattle.termwiz_laws.proofs.lemmas.further_keys.SingleKey.{among}

-- the rows of one code, below 128, in CsiU and by modifyOtherKeys
abbrev code_rows : ℕ → List TableRow
code_rows c = csi_u_of c ++ map (λ s. modify_other_key s c) to_eight

number_here : (c : ℕ) → c < 128 → Contains (numbers 0 128) c
number_here c small = subst (λ n. Contains (numbers 0 128) n) (let e : 0 + c ≡ c = omega arith in e)
    (in_numbers 0 128 c small)

csi_rows_are : (c : ℕ) → c < 128 → AreRows (csi_u_of c)
unfolding rows csi_u_rows
csi_rows_are c small r h = part_rows csi_u_rows (search table_parts depth 40) r
    (in_flat_map csi_u_of (numbers 0 128) c r (number_here c small) h)

-- a row of one code among those of all codes
of_one_code : (suffixes : List (List ℕ × ℕ)) (c : ℕ) (r : TableRow) → c < 128
    → Contains (map (λ s. modify_other_key s c) suffixes) r
    → Contains (flat_map (λ s. map (modify_other_key s) (numbers 0 128)) suffixes) r
of_one_code [] c r small h = h
of_one_code (s ∷ suffixes) c r small (zero, l, e) =
    Contains-append_left (map (modify_other_key s) (numbers 0 128)) _ r
    (subst (λ x. Contains (map (modify_other_key s) (numbers 0 128)) x) e
    (in_map (modify_other_key s) (numbers 0 128) c (number_here c small)))
of_one_code (s ∷ suffixes) c r small (suc i, l, e) =
    Contains-append_right (map (modify_other_key s) (numbers 0 128)) _ r
    (of_one_code suffixes c r small (i, omega arith, e))

other_rows_are : (c : ℕ) → c < 128 → AreRows (map (λ s. modify_other_key s c) to_eight)
unfolding rows modify_other_keys_rows
other_rows_are c small r h = part_rows modify_other_keys_rows (search table_parts depth 40) r
    (of_one_code to_eight c r small h)

code_rows_are : (c : ℕ) → c < 128 → AreRows (code_rows c)
code_rows_are c small = both_are (csi_u_of c) (map (λ s. modify_other_key s c) to_eight) (csi_rows_are c small)
    (other_rows_are c small)

-- what the texts of one key and the others with its texts are among, after at most one ESC
abbrev single_bytes : List TableRow
single_bytes =
    backspace_bytes_rows ++ tab_byte_rows ++ enter_bytes_rows ++ escape_byte_rows ++ control_letters_rows

single_bytes_are : AreRows single_bytes
unfolding rows
single_bytes_are = both_are _ _ (both_are _ _ (both_are _ _
    (both_are _ _ (part_rows backspace_bytes_rows (search table_parts depth 40))
    (part_rows tab_byte_rows (search table_parts depth 40)))
    (part_rows enter_bytes_rows (search table_parts depth 40)))
    (part_rows escape_byte_rows (search table_parts depth 40)))
    (part_rows control_letters_rows (search table_parts depth 40))

-- 8 and 127 are Backspace and Delete, and a lowercase letter with Shift is the uppercase one
abbrev wide_rows : ℕ → List TableRow
wide_rows c =
    single_bytes ++ alt_letters_rows ++ alt_bracket_rows ++ edit_keys_rows ++ modified_edit_keys_rows
    ++ code_rows c ++ code_rows (c - 32) ++ code_rows 8 ++ code_rows 127

pub wide_rows_are : (c : ℕ) → c < 128 → AreRows (wide_rows c)
unfolding rows
wide_rows_are c small = both_are _ _ (both_are _ _ (both_are _ _ (both_are _ _ (both_are _ _ (both_are _ _
    (both_are _ _ (both_are _ _ single_bytes_are
    (part_rows alt_letters_rows (search table_parts depth 40)))
    (part_rows alt_bracket_rows (search table_parts depth 40)))
    (part_rows edit_keys_rows (search table_parts depth 40)))
    (part_rows modified_edit_keys_rows (search table_parts depth 40)))
    (code_rows_are c small)) (code_rows_are (c - 32) (omega arith))) (code_rows_are 8 (omega arith)))
    (code_rows_are 127 (omega arith))

abbrev pub rows_beside : List TableRow
rows_beside =
    single_bytes ++ application_arrows_rows ++ modified_cursor_keys_rows ++ code_rows 8 ++ code_rows 9 ++ code_rows 13
    ++ code_rows 27 ++ code_rows 127

rows_beside_are : AreRows rows_beside
unfolding rows
rows_beside_are = both_are _ _ (both_are _ _ (both_are _ _ (both_are _ _ (both_are _ _
    (both_are _ _ (both_are _ _ single_bytes_are
    (part_rows application_arrows_rows (search table_parts depth 40)))
    (part_rows modified_cursor_keys_rows (search table_parts depth 40)))
    (code_rows_are 8 (omega arith))) (code_rows_are 9 (omega arith))) (code_rows_are 13 (omega arith)))
    (code_rows_are 27 (omega arith))) (code_rows_are 127 (omega arith))

-- the byte 0, alone and after an ESC
abbrev zero_key : List ℕ → Option KeyEvent
zero_key (b ∷ []) = if b == 0 then Some (plain 0) else None
zero_key (b ∷ c ∷ []) = if (b == 27) && (c == 0) then Some (with_alt (plain 0)) else None
zero_key text = None

-- the one key that a whole text stands for, by these rows, also a byte alone
abbrev pub wide_reading : List TableRow → List ℕ → Option KeyEvent
wide_reading part text = option_or (reading part text) (option_or (ascii_key text) (zero_key text))

ascii_alone : (text : List ℕ) (k : KeyEvent) → ascii_key text ≡ Some k → Means text false (Key k ∷ []) []
ascii_alone [] k e = absurd (cc (e))
ascii_alone (x ∷ y ∷ t) k e = absurd (cc (e))
ascii_alone (x ∷ []) k e = go (nat_lt 27 x && nat_lt x 127) refl
  where
    go : (b : Bool) → (nat_lt 27 x && nat_lt x 127) ≡ b → Means (x ∷ []) false (Key k ∷ []) []
    go false outside = absurd (let none : None ≡ Some k = rw outside at e in cc (none))
    go true inside =
        let parts = and_parts (nat_lt 27 x) (nat_lt x 127) inside in
        let low = ltb-true 27 x parts.0 in
        let high = ltb-true x 127 parts.1 in
        let same : plain x ≡ k = (let s : Some (plain x) ≡ Some k = rw inside at e in cc (s)) in
        subst (λ j. Means (x ∷ []) false (Key j ∷ []) []) same
        (subst (λ u. Means u false (Key (plain x) ∷ []) []) (encode_ascii x (omega arith))
        (char_means x (low_scalar x (omega arith)) (omega arith) (λ d. omega arith)))

zero_alone : (text : List ℕ) (k : KeyEvent) → zero_key text ≡ Some k → Means text false (Key k ∷ []) []
zero_alone [] k e = absurd (cc (e))
zero_alone (b ∷ c ∷ x ∷ t) k e = absurd (cc (e))
zero_alone (b ∷ []) k e = go (b == 0) refl
  where
    go : (o : Bool) → (b == 0) ≡ o → Means (b ∷ []) false (Key k ∷ []) []
    go false other = absurd (let none : None ≡ Some k = rw other at e in cc (none))
    go true same =
        let event : plain 0 ≡ k = (let s : Some (plain 0) ≡ Some k = rw same at e in cc (s)) in
        subst (λ j. Means (b ∷ []) false (Key j ∷ []) []) event
        (subst (λ x. Means (x ∷ []) false (Key (plain 0) ∷ []) []) (sym (eqb-true b 0 same)) zero_means)
zero_alone (b ∷ c ∷ []) k e = go ((b == 27) && (c == 0)) refl
  where
    go : (o : Bool) → ((b == 27) && (c == 0)) ≡ o → Means (b ∷ c ∷ []) false (Key k ∷ []) []
    go false other = absurd (let none : None ≡ Some k = rw other at e in cc (none))
    go true both =
        let parts = and_parts (b == 27) (c == 0) both in
        let event : with_alt (plain 0) ≡ k = (let s : Some (with_alt (plain 0)) ≡ Some k = rw both at e in cc (s)) in
        subst (λ j. Means (b ∷ c ∷ []) false (Key j ∷ []) []) event
        (subst (λ x. Means (x ∷ c ∷ []) false (Key (with_alt (plain 0)) ∷ []) []) (sym (eqb-true b 27 parts.0))
        (subst (λ x. Means (27 ∷ x ∷ []) false (Key (with_alt (plain 0)) ∷ []) []) (sym (eqb-true c 0 parts.1))
        (alt_means 0 [] (Character 0) (plain 0) (inl (omega arith)) zero_head refl (encode_ascii 0 (omega arith)))))

pub wide_means : (part : List TableRow) (text : List ℕ) (k : KeyEvent) → AreRows part → wide_reading part text ≡ Some k
    → Means text false (Key k ∷ []) []
wide_means part text k are e = go (reading part text) refl
  where
    later : (o : Option KeyEvent) → ascii_key text ≡ o → option_or o (zero_key text) ≡ Some k
        → Means text false (Key k ∷ []) []
    later (Some j) found h = ascii_alone text k (found ∙ h)
    later None missing h = zero_alone text k h

    go : (o : Option KeyEvent) → reading part text ≡ o → Means text false (Key k ∷ []) []
    go (Some j) found = reading_means part text k are (found ∙ (let s : Some j ≡ Some k = rw found at e in s))
    go None missing = later (ascii_key text) refl (rw missing at e)

abbrev pub part_of : KeyCode → List TableRow
part_of (Char c) = wide_rows c
part_of key = rows_beside

-- a number for a key; keys with different numbers are different
abbrev key_tag : KeyCode → ℕ
key_tag (Char c) = 100 + c
key_tag Backspace = 1
key_tag Tab = 2
key_tag Enter = 3
key_tag Escape = 4
key_tag LeftArrow = 5
key_tag RightArrow = 6
key_tag UpArrow = 7
key_tag DownArrow = 8
key_tag ApplicationLeftArrow = 9
key_tag ApplicationRightArrow = 10
key_tag ApplicationUpArrow = 11
key_tag ApplicationDownArrow = 12
key_tag key = 0

abbrev is_same : KeyEvent → Held → Bool
is_same k p = (key_tag k.key == key_tag p.0) && (k.modifiers.0 == p.1)

abbrev read_text : KeyCode → Option (List ℕ) → Option KeyEvent
read_text key (Some text) = wide_reading (part_of key) text
read_text key None = None

abbrev other_if_some : Option KeyEvent → Held → Bool
other_if_some (Some k) p = not (is_same k p)
other_if_some None p = false

-- its text is read as another key
abbrev pub reads_as_other : KeyCodeEncodeModes → Held → Bool
reads_as_other modes p = other_if_some (read_text p.0 (enc p.0 (record { 0 = p.1 }) modes)) p

same_keys : (k : KeyEvent) (p : Held) → k ≡ key_with p.0 p.1 → is_same k p ≡ true
same_keys k p e = and_from (key_tag k.key == key_tag p.0) (k.modifiers.0 == p.1)
    (eq-eqb (key_tag k.key) (key_tag p.0) (ap (λ (j : KeyEvent). key_tag j.key) e))
    (eq-eqb k.modifiers.0 p.1 (ap (λ (j : KeyEvent). j.modifiers.0) e))

not_back : (modes : KeyCodeEncodeModes) (key : KeyCode) (held : ℕ) → AreRows (part_of key)
    → reads_as_other modes (key, held) ≡ true → ReadsBack key (record { 0 = held }) modes → ⊥
not_back modes key held are test (text, sends, means) = go (wide_reading (part_of key) text) refl (rw sends at test)
  where
    go : (o : Option KeyEvent) → wide_reading (part_of key) text ≡ o → other_if_some o (key, held) ≡ true → ⊥
    go None e other = cc (other)
    go (Some k) e other =
        let same = same_keys k (key, held) (read_once text k (key_with key held)
        (wide_means (part_of key) text k are e) means) in
        let differs : not (is_same k (key, held)) ≡ false = not_from_true (is_same k (key, held)) same in
        cc (other, differs)

-- all of these are read as other keys
abbrev pub AllOther : KeyCodeEncodeModes → List Held → Type 0
AllOther modes cases = list_all (reads_as_other modes) cases ≡ true

pub none_back : (modes : KeyCodeEncodeModes) (cases : List Held) (key : KeyCode) (held : ℕ) → AllOther modes cases
    → part_of key ≡ rows_beside → Contains cases (key, held)
    → ReadsBack key (record { 0 = held }) modes → ⊥
none_back modes cases key held test beside here =
    not_back modes key held (subst AreRows (sym beside) rows_beside_are)
    (All-contains (λ (p : Held). reads_as_other modes p ≡ true) cases (key, held)
    (AllPass-from_list_all (reads_as_other modes) cases test) here)

abbrev pub application_arrows : List KeyCode
application_arrows = ApplicationLeftArrow ∷ ApplicationRightArrow ∷ ApplicationUpArrow ∷ ApplicationDownArrow ∷ []

pub arrows_other : (e : KeyboardEncoding) (n : Bool) (l : Option ℤ)
    → AllOther (mode e true n l) (pairs arrows (NONE ∷ []))
unfolding enc_written_out written_out
arrows_other e n l = refl

pub application_arrows_other : (e : KeyboardEncoding) (a n : Bool) (l : Option ℤ)
    → AllOther (mode e a n l) (pairs application_arrows some_of_three)
unfolding enc_written_out written_out
application_arrows_other e a n l = refl

pub tabs_off_other : (e : KeyboardEncoding) (a n : Bool) → AllOther (mode e a n None) (pairs (Tab ∷ []) ctrl_or_ctrl_alt)
unfolding enc_written_out written_out
tabs_off_other e a n = refl

abbrev pub tabs_in_csi : List Held
tabs_in_csi = pairs (Tab ∷ []) some_of_three

pub tabs_zero_other : (a n : Bool) → AllOther (mode CsiU a n (level 0)) tabs_in_csi
unfolding enc_written_out written_out
tabs_zero_other a n = refl

pub tabs_one_other : (a n : Bool) → AllOther (mode CsiU a n (level 1)) tabs_in_csi
unfolding enc_written_out written_out
tabs_one_other a n = refl

pub tabs_two_other : (a n : Bool) → AllOther (mode CsiU a n (level 2)) tabs_in_csi
unfolding enc_written_out written_out
tabs_two_other a n = refl

abbrev pub three_keys : List Held
three_keys = pairs (Enter ∷ Escape ∷ Backspace ∷ []) shift_or_ctrl

pub three_xterm_off : (a n : Bool) → AllOther (mode Xterm a n None) three_keys
unfolding enc_written_out written_out
three_xterm_off a n = refl

pub three_csi_off : (a n : Bool) → AllOther (mode CsiU a n None) three_keys
unfolding enc_written_out written_out
three_csi_off a n = refl

pub three_csi_zero : (a n : Bool) → AllOther (mode CsiU a n (level 0)) three_keys
unfolding enc_written_out written_out
three_csi_zero a n = refl

pub three_csi_one : (a n : Bool) → AllOther (mode CsiU a n (level 1)) three_keys
unfolding enc_written_out written_out
three_csi_one a n = refl

pub three_csi_two : (a n : Bool) → AllOther (mode CsiU a n (level 2)) three_keys
unfolding enc_written_out written_out
three_csi_two a n = refl

pub two_keys_xterm_one : (a n : Bool)
    → AllOther (mode Xterm a n (level 1)) (pairs (Escape ∷ Backspace ∷ []) shift_or_ctrl)
unfolding enc_written_out written_out
two_keys_xterm_one a n = refl

-- whether a character with modifiers is sent by its code, and in which modes: in CsiU, with modifyOtherKeys on, and at level 2
abbrev pub sent_tests : Bool → Bool → ℕ → ℕ → List Bool
sent_tests csi two c held =
    ((nat_le c 0x20 && not (c == 8)) && among (SHIFT ∷ ALT ∷ (ALT + SHIFT) ∷ []) held)
    ∷ ((nat_lt c 0x20 && not (c == 8)) && among with_ctrl held)
    ∷ ((csi && (c == 8)) && among with_ctrl held)
    ∷ (is_ascii_digit c && (held == SHIFT))
    ∷ (is_ascii_uppercase c && among ctrl_or_ctrl_alt held)
    ∷ (among no_control_character c && (held == CTRL))
    ∷ (among (codes "019") c && (held == CTRL + SHIFT))
    ∷ ((two && (nat_le 0x20 c && nat_le c 0x7e)) && among ctrl_or_ctrl_alt held)
    ∷ ((two && (is_ascii_digit c || c == 0x20)) && among ((CTRL + SHIFT) ∷ (CTRL + ALT + SHIFT) ∷ []) held)
    ∷ ((csi && among ambiguous_characters c) && among ctrl_or_ctrl_alt held)
    ∷ []

abbrev pub some_test : List Bool → Bool
some_test tests = list_any (λ t. t) tests

-- whether a character of ASCII with modifiers reads back
abbrev pub char_tests : Bool → Bool → Bool → ℕ → ℕ → List Bool
char_tests csi on two c held =
    (((c == 0) || nat_le 28 c) && not (c == 0x7f) && (held == NONE))
    ∷ ((is_ascii_alphanumeric c || is_ascii_punctuation c) && (held == ALT))
    ∷ ((not two && (is_ascii_lowercase c && own_letter c)) && among ctrl_or_ctrl_alt held)
    ∷ ((not on && not csi) && ((c == 0) || (nat_le 28 c && nat_le c 0x20)) && (held == ALT))
    ∷ (some_test (sent_tests csi two c held) && (csi || (on && not (among (9 ∷ 10 ∷ 13 ∷ 27 ∷ []) c))))
    ∷ []

abbrev pub char_test : Bool → Bool → Bool → ℕ × ℕ → Bool
char_test csi on two p = some_test (char_tests csi on two p.0 p.1)

abbrev pub all_pairs : List (ℕ × ℕ)
all_pairs = pairs (numbers 0 128) any_of_three

-- the characters that don't
abbrev pub chars_left : Bool → Bool → Bool → List (ℕ × ℕ)
chars_left csi on two = filter (λ p. not (char_test csi on two p)) all_pairs

abbrev pub CharsOther : KeyboardEncoding → Option ℤ → Bool → Bool → Bool → Type 0
CharsOther e l csi on two = (a n : Bool)
    → list_all (λ p. reads_as_other (mode e a n l) (Char p.0, p.1)) (chars_left csi on two) ≡ true

pub chars_xterm_off : CharsOther Xterm None false false false
unfolding enc_written_out written_out
chars_xterm_off a n = refl

pub chars_xterm_zero : CharsOther Xterm (level 0) false true false
unfolding enc_written_out written_out
chars_xterm_zero a n = refl

pub chars_xterm_one : CharsOther Xterm (level 1) false true false
unfolding enc_written_out written_out
chars_xterm_one a n = refl

pub chars_xterm_two : CharsOther Xterm (level 2) false true true
unfolding enc_written_out written_out
chars_xterm_two a n = refl

pub chars_csi_off : CharsOther CsiU None true false false
unfolding enc_written_out written_out
chars_csi_off a n = refl

pub chars_csi_zero : CharsOther CsiU (level 0) true true false
unfolding enc_written_out written_out
chars_csi_zero a n = refl

pub chars_csi_one : CharsOther CsiU (level 1) true true false
unfolding enc_written_out written_out
chars_csi_one a n = refl

pub chars_csi_two : CharsOther CsiU (level 2) true true true
unfolding enc_written_out written_out
chars_csi_two a n = refl

pub no_char_back : (e : KeyboardEncoding) (l : Option ℤ) (csi on two a n : Bool) (c held : ℕ)
    → CharsOther e l csi on two → c < 128 → Contains any_of_three held → char_test csi on two (c, held) ≡ false
    → ReadsBack (Char c) (record { 0 = held }) (mode e a n l) → ⊥
no_char_back e l csi on two a n c held test small here fails =
    let inside : Contains (chars_left csi on two) (c, held) =
    in_filter (λ (p : ℕ × ℕ). not (char_test csi on two p)) all_pairs (c, held)
    (in_pairs (numbers 0 128) any_of_three c held (number_here c small) here)
    (not_from_false (char_test csi on two (c, held)) fails) in
    not_back (mode e a n l) (Char c) held (wide_rows_are c small)
    (All-contains (λ (p : ℕ × ℕ). reads_as_other (mode e a n l) (Char p.0, p.1) ≡ true) (chars_left csi on two) (c, held)
    (AllPass-from_list_all (λ (p : ℕ × ℕ). reads_as_other (mode e a n l) (Char p.0, p.1)) (chars_left csi on two) (test a n))
    inside)
