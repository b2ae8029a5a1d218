-- Which characters read back: those of ASCII by tests that are computed, and the others by their bytes.
use Rattle.std.proofs.Common.{◌≡◌, ◌≢◌, ◌∙◌, inl, inr, ⊎_elim, ℕ, zero, suc, ℤ, ◌+◌, ◌<◌, ◌≤◌, Bool, true, false, not, List, [], ◌∷◌, ◌++◌, drop, Option, Some, None, refl, sym, ap, subst, arith, Contains, ◌==◌, ◌&&◌, ◌||◌, nat_lt, nat_le, bit_or}
use Rattle.std.specs.Prelude.{is_some, codes}
use Rattle.std.specs.Char.{IsScalar, is_ascii_lowercase, is_ascii_uppercase, is_ascii_digit, is_ascii_alphanumeric, is_ascii_punctuation}
use Rattle.std.proofs.lemmas.Bool.{and_right, and_parts, or_cases, ltb-true, leb-true, eqb-true, eqb-false, not-true, cases_lt}
use Rattle.std.proofs.lemmas.Bool.Decides.{nat_tests}
use Rattle.std.proofs.lemmas.List.{append_cancel_left}
use Rattle.termwiz_keys.specs.declared.types.KeyCode.TheVariants.{Char}
use Rattle.termwiz_keys.specs.declared.types.KeyEvent.{KeyEvent}
use Rattle.termwiz_keys.specs.declared.encode.KeyboardEncoding.{KeyboardEncoding}
use Rattle.termwiz_keys.specs.declared.encode.KeyboardEncoding.TheVariants.{Xterm, CsiU}
use Rattle.termwiz_keys.specs.declared.encode.KeyCodeEncodeModes.{KeyCodeEncodeModes}
use Rattle.termwiz_keys.specs.Introducers.{ESC}
use Rattle.termwiz_keys.specs.Keys.{NONE, SHIFT, ALT, CTRL, key_with}
use Rattle.termwiz_keys.specs.Encoding.{enc, key_text, char_text, plain_char_text, other_text, other_keys_form, is_csi_u, is_level, stays_at_one}
use Rattle.termwiz_grammar.specs.Listed.{any_of_three, ReadsBack}
use Rattle.termwiz_laws.specs.FurtherKeys.{with_ctrl, ctrl_or_ctrl_alt, no_control_character, ambiguous_characters, IsSentByCode, IsReadByCode, ReadsBackToo}
use Rattle.termwiz_laws.specs.FurtherKeys.IsSentByCode.{control_or_space, control_with_ctrl, backspace_with_ctrl, digit_with_shift, uppercase_with_ctrl, unpaired_with_ctrl, unpaired_digit, at_two, at_two_with_shift, ambiguous}
use Rattle.termwiz_laws.specs.FurtherKeys.ReadsBackToo.{character, alt_character, ctrl_letter, alt_beyond_ascii, alt_control_or_space, by_code}
use Rattle.termwiz_laws.proofs.lemmas.further_keys.ComputedReadings.{level, own_letter}
use Rattle.termwiz_laws.proofs.lemmas.further_keys.FurtherReadings.{SameLevel, equal_levels, Levels, levels_of, bits}
use Rattle.termwiz_laws.proofs.lemmas.further_keys.FurtherReadings.Levels.{off, first, second, other}
use Rattle.termwiz_laws.proofs.lemmas.further_keys.SingleCharacters.{key_with_alt, held_with_alt, first_high}
use Rattle.termwiz_laws.proofs.lemmas.further_keys.SingleKey.{Plainly, Single, is_table_key, row_fact, among, among_contains}
use Rattle.termwiz_laws.proofs.lemmas.further_keys.SingleKey.Plainly.{by_row, by_character, by_broken_byte}
use Rattle.termwiz_laws.proofs.lemmas.further_keys.SingleKey.Single.{plainly, after_escape}
use Rattle.termwiz_laws.proofs.lemmas.further_keys.WideReadings as wide
use Rattle.termwiz_laws.proofs.lemmas.further_keys.WideReadings.{no_char_back, CharsOther, char_test, char_tests, sent_tests, some_test}
use Rattle.termwiz_laws.proofs.lemmas.further_keys.OtherKeys.{csi_true, csi_false, on_true, on_false, two_true, two_false, contains_among, some_holds, back_at, single_sent}

not_byte : (c n : ℕ) → not (c == n) ≡ true → c ≢ n
not_byte c n e = eqb-false c n (not-true (c == n) e)

-- a character that is sent by its code
sent_line : (csi two : Bool) (c held : ℕ) (modes : KeyCodeEncodeModes) → is_csi_u modes.encoding ≡ csi
    → is_level modes.modify_other_keys 2 ≡ two → some_test (sent_tests csi two c held) ≡ true
    → IsSentByCode c held modes
sent_line csi two c held modes hcsi htwo e = go (some_holds (sent_tests csi two c held) e)
  where
    go : Contains (sent_tests csi two c held) true → IsSentByCode c held modes
    go (zero, l, t) =
        let parts = and_parts (nat_le c 0x20 && not (c == 8)) (among (SHIFT ∷ ALT ∷ (ALT + SHIFT) ∷ []) held) t in
        let low = and_parts (nat_le c 0x20) (not (c == 8)) parts.0 in
        control_or_space c held modes (leb-true c 0x20 low.0) (not_byte c 8 low.1)
        (among_contains (SHIFT ∷ ALT ∷ (ALT + SHIFT) ∷ []) held parts.1)
    go (suc zero, l, t) =
        let parts = and_parts (nat_lt c 0x20 && not (c == 8)) (among with_ctrl held) t in
        let low = and_parts (nat_lt c 0x20) (not (c == 8)) parts.0 in
        control_with_ctrl c held modes (ltb-true c 0x20 low.0) (not_byte c 8 low.1)
        (among_contains with_ctrl held parts.1)
    go (suc (suc zero), l, t) =
        let parts = and_parts (csi && (c == 8)) (among with_ctrl held) t in
        let low = and_parts csi (c == 8) parts.0 in
        subst (λ d. IsSentByCode d held modes) (sym (eqb-true c 8 low.1))
        (backspace_with_ctrl held modes (csi_true modes.encoding (hcsi ∙ low.0)) (among_contains with_ctrl held parts.1))
    go (suc (suc (suc zero)), l, t) =
        let parts = and_parts (is_ascii_digit c) (held == SHIFT) t in
        subst (λ h. IsSentByCode c h modes) (sym (eqb-true held SHIFT parts.1)) (digit_with_shift c modes parts.0)
    go (suc (suc (suc (suc zero))), l, t) =
        let parts = and_parts (is_ascii_uppercase c) (among ctrl_or_ctrl_alt held) t in
        uppercase_with_ctrl c held modes parts.0 (among_contains ctrl_or_ctrl_alt held parts.1)
    go (suc (suc (suc (suc (suc zero)))), l, t) =
        let parts = and_parts (among no_control_character c) (held == CTRL) t in
        subst (λ h. IsSentByCode c h modes) (sym (eqb-true held CTRL parts.1))
        (unpaired_with_ctrl c modes (among_contains no_control_character c parts.0))
    go (suc (suc (suc (suc (suc (suc zero))))), l, t) =
        let parts = and_parts (among (codes "019") c) (held == CTRL + SHIFT) t in
        subst (λ h. IsSentByCode c h modes) (sym (eqb-true held (CTRL + SHIFT) parts.1))
        (unpaired_digit c modes (among_contains (codes "019") c parts.0))
    go (suc (suc (suc (suc (suc (suc (suc zero)))))), l, t) =
        let parts = and_parts (two && (nat_le 0x20 c && nat_le c 0x7e)) (among ctrl_or_ctrl_alt held) t in
        let at = and_parts two (nat_le 0x20 c && nat_le c 0x7e) parts.0 in
        let range = and_parts (nat_le 0x20 c) (nat_le c 0x7e) at.1 in
        at_two c held modes (two_true modes.modify_other_keys 2 (htwo ∙ at.0)) (leb-true 0x20 c range.0)
        (leb-true c 0x7e range.1) (among_contains ctrl_or_ctrl_alt held parts.1)
    go (suc (suc (suc (suc (suc (suc (suc (suc zero))))))), l, t) =
        let parts = and_parts (two && (is_ascii_digit c || c == 0x20))
        (among ((CTRL + SHIFT) ∷ (CTRL + ALT + SHIFT) ∷ []) held) t in
        let at = and_parts two (is_ascii_digit c || c == 0x20) parts.0 in
        at_two_with_shift c held modes (two_true modes.modify_other_keys 2 (htwo ∙ at.0)) at.1
        (among_contains ((CTRL + SHIFT) ∷ (CTRL + ALT + SHIFT) ∷ []) held parts.1)
    go (suc (suc (suc (suc (suc (suc (suc (suc (suc zero)))))))), l, t) =
        let parts = and_parts (csi && among ambiguous_characters c) (among ctrl_or_ctrl_alt held) t in
        let at = and_parts csi (among ambiguous_characters c) parts.0 in
        ambiguous c held modes (csi_true modes.encoding (hcsi ∙ at.0)) (among_contains ambiguous_characters c at.1)
        (among_contains ctrl_or_ctrl_alt held parts.1)
    go (suc (suc (suc (suc (suc (suc (suc (suc (suc (suc i))))))))), l, t) = absurd (omega arith)

abbrev other_codes : List ℕ
other_codes = 9 ∷ 10 ∷ 13 ∷ 27 ∷ []

read_line : (csi on : Bool) (c : ℕ) (modes : KeyCodeEncodeModes) → is_csi_u modes.encoding ≡ csi
    → is_some modes.modify_other_keys ≡ on → (csi || (on && not (among other_codes c))) ≡ true
    → IsReadByCode c modes
read_line true on c modes hcsi hon e = inl (csi_true modes.encoding hcsi)
read_line false on c modes hcsi hon e =
    let parts = and_parts on (not (among other_codes c)) e in
    inr (
      csi_false modes.encoding hcsi,
      on_true modes.modify_other_keys (hon ∙ parts.0),
      λ h.
          let outside = not-true (among other_codes c) parts.1 in
          let inside = contains_among other_codes c h in cc (outside, inside),
    )

-- a character that passes a test is on a line
char_line : (csi on two : Bool) (c held : ℕ) (modes : KeyCodeEncodeModes) → is_csi_u modes.encoding ≡ csi
    → is_some modes.modify_other_keys ≡ on → is_level modes.modify_other_keys 2 ≡ two → IsScalar c
    → char_test csi on two (c, held) ≡ true
    → ReadsBackToo (Char c) held modes
char_line csi on two c held modes hcsi hon htwo scalar e = go (some_holds (char_tests csi on two c held) e)
  where
    at_held : (n : ℕ) → (held == n) ≡ true → ReadsBackToo (Char c) n modes → ReadsBackToo (Char c) held modes
    at_held n t line = subst (λ h. ReadsBackToo (Char c) h modes) (sym (eqb-true held n t)) line

    go : Contains (char_tests csi on two c held) true → ReadsBackToo (Char c) held modes
    go (zero, l, t) =
        let parts = and_parts (((c == 0) || nat_le 28 c) && not (c == 0x7f)) (held == NONE) t in
        let range = and_parts ((c == 0) || nat_le 28 c) (not (c == 0x7f)) parts.0 in
        at_held NONE parts.1 (character c modes scalar (⊎_elim
        (λ (a : (c == 0) ≡ true). inl (eqb-true c 0 a))
        (λ (b : nat_le 28 c ≡ true). inr (leb-true 28 c b)) (or_cases (c == 0) (nat_le 28 c) range.0))
        (not_byte c 0x7f range.1))
    go (suc zero, l, t) =
        let parts = and_parts (is_ascii_alphanumeric c || is_ascii_punctuation c) (held == ALT) t in
        at_held ALT parts.1 (alt_character c modes parts.0)
    go (suc (suc zero), l, t) =
        let parts = and_parts (not two && (is_ascii_lowercase c && own_letter c)) (among ctrl_or_ctrl_alt held) t in
        let front = and_parts (not two) (is_ascii_lowercase c && own_letter c) parts.0 in
        let letter = and_parts (is_ascii_lowercase c) (own_letter c) front.1 in
        ctrl_letter c held modes (two_false modes.modify_other_keys 2 (htwo ∙ not-true two front.0)) letter.0
        (λ shared.
        let apart = not-true (among (codes "hijm") c) letter.1 in
        let inside = contains_among (codes "hijm") c shared in cc (apart, inside))
        (among_contains ctrl_or_ctrl_alt held parts.1)
    go (suc (suc (suc zero)), l, t) =
        let parts = and_parts ((not on && not csi) && ((c == 0) || (nat_le 28 c && nat_le c 0x20))) (held == ALT) t in
        let front = and_parts (not on && not csi) ((c == 0) || (nat_le 28 c && nat_le c 0x20)) parts.0 in
        let both = and_parts (not on) (not csi) front.0 in
        at_held ALT parts.1 (alt_control_or_space c modes (on_false modes.modify_other_keys (hon ∙ not-true on both.0))
        (csi_false modes.encoding (hcsi ∙ not-true csi both.1)) (⊎_elim
        (λ (a : (c == 0) ≡ true). inl (eqb-true c 0 a))
        (λ (b : (nat_le 28 c && nat_le c 0x20) ≡ true).
        let range = and_parts (nat_le 28 c) (nat_le c 0x20) b in
        inr (leb-true 28 c range.0, leb-true c 0x20 range.1))
        (or_cases (c == 0) (nat_le 28 c && nat_le c 0x20) front.1)))
    go (suc (suc (suc (suc zero))), l, t) =
        let parts = and_parts (some_test (sent_tests csi two c held)) (csi || (on && not (among other_codes c))) t in
        by_code c held modes (sent_line csi two c held modes hcsi htwo parts.0) (read_line csi on c modes hcsi hon parts.1)
    go (suc (suc (suc (suc (suc i)))), l, t) = absurd (omega arith)

-- a character of ASCII
module _ (modes : KeyCodeEncodeModes) (c held : ℕ) (scalar : IsScalar c) (small : c < 128)
    (here : Contains any_of_three held) (back : ReadsBack (Char c) (bits held) modes) where
  by_test : (e : KeyboardEncoding) (l : Option ℤ) (csi on two : Bool) → is_csi_u e ≡ csi → is_some l ≡ on
      → is_level l 2 ≡ two
      → CharsOther e l csi on two → is_csi_u modes.encoding ≡ is_csi_u e → SameLevel modes.modify_other_keys l
      → ReadsBackToo (Char c) held modes
  by_test e l csi on two hcsi hon htwo tests same levels = go (char_test csi on two (c, held)) refl
    where
      go : (b : Bool) → char_test csi on two (c, held) ≡ b → ReadsBackToo (Char c) held modes
      go true t = char_line csi on two c held modes (same ∙ hcsi) (levels.is_on ∙ hon) (levels.two ∙ htwo) scalar t
      go false f = absurd (no_char_back e l csi on two modes.application_cursor_keys modes.newline_mode c held tests small
          here f (back_at modes e l (Char c) held same levels back))

  ascii_line : ReadsBackToo (Char c) held modes
  ascii_line = go (is_csi_u modes.encoding) refl (levels_of modes.modify_other_keys)
    where
      go : (b : Bool) → is_csi_u modes.encoding ≡ b → Levels modes.modify_other_keys → ReadsBackToo (Char c) held modes
      go false apart (off is) = by_test Xterm None false false false refl refl refl wide.chars_xterm_off apart
          (equal_levels modes.modify_other_keys None is)
      go false apart (first is) = by_test Xterm (level 1) false true false refl refl refl wide.chars_xterm_one apart
          (equal_levels modes.modify_other_keys (level 1) is)
      go false apart (second is) = by_test Xterm (level 2) false true true refl refl refl wide.chars_xterm_two apart
          (equal_levels modes.modify_other_keys (level 2) is)
      go false apart (other is) = by_test Xterm (level 0) false true false refl refl refl wide.chars_xterm_zero apart is
      go true csi (off is) = by_test CsiU None true false false refl refl refl wide.chars_csi_off csi
          (equal_levels modes.modify_other_keys None is)
      go true csi (first is) = by_test CsiU (level 1) true true false refl refl refl wide.chars_csi_one csi
          (equal_levels modes.modify_other_keys (level 1) is)
      go true csi (second is) = by_test CsiU (level 2) true true true refl refl refl wide.chars_csi_two csi
          (equal_levels modes.modify_other_keys (level 2) is)
      go true csi (other is) = by_test CsiU (level 0) true true false refl refl refl wide.chars_csi_zero csi is

-- beyond ASCII, with ALT and with modifyOtherKeys on: the code is sent, after ESC [
alt_code : (c : ℕ) (modes : KeyCodeEncodeModes) → 128 ≤ c → is_some modes.modify_other_keys ≡ true
    → enc (Char c) (bits ALT) modes ≡ Some (other_keys_form c ALT)
unfolding enc key_text char_text plain_char_text other_text
alt_code c modes high on =
    let no_letter : is_ascii_alphanumeric c || is_ascii_punctuation c ≡ false = grind (arith, nat_tests) in
    let not_ascii : nat_lt c 0x80 ≡ false = grind (arith, nat_tests) in
    let moves : stays_at_one c ≡ false = grind (arith, nat_tests) in
    rw (
      key_with_alt c (λ e. omega arith) (λ e. omega arith),
      held_with_alt c,
      no_letter,
      not_ascii,
      and_right (is_csi_u modes.encoding) false refl,
      on,
      moves,
      and_right (is_level modes.modify_other_keys 1) false refl,
    )

-- a character beyond ASCII is read without modifiers, or with ALT after an ESC that no [ comes after
high_plainly : (t : List ℕ) (j : KeyEvent) (c : ℕ) → 128 ≤ c → j.key ≡ Char c → Plainly t j
    → (j.modifiers.0 ≡ NONE) × ((rest : List ℕ) → t ≡ 91 ∷ 50 ∷ rest → ⊥)
high_plainly t j c high is (by_row row) =
    let test : is_table_key (Char c) ≡ true = subst (λ k. is_table_key k ≡ true) is (row_fact t j row).0 in
    absurd (let small = ltb-true c 128 test in omega (arith, small))
high_plainly t j c high is (by_character d scalar e same) =
    let key : Char d ≡ Char c = ap (λ (k : KeyEvent). k.key) (sym same) ∙ is in
    let number : d ≡ c = cc (key) in (
      ap (λ (k : KeyEvent). k.modifiers.0) same,
      λ rest f. (let first = first_high d 91 (50 ∷ rest) (let h : 128 ≤ d = omega arith in h) (sym e ∙ f) in
          omega (arith, first)),
    )
high_plainly t j c high is (by_broken_byte b e same) =
    (ap (λ (k : KeyEvent). k.modifiers.0) same, λ rest f. cc (e, f))

high_line : (c held : ℕ) (modes : KeyCodeEncodeModes) → IsScalar c → 128 ≤ c
    → ReadsBack (Char c) (bits held) modes → (text : List ℕ) → enc (Char c) (bits held) modes ≡ Some text
    → Single text (key_with (Char c) held)
    → ReadsBackToo (Char c) held modes
high_line c held modes scalar high back text sends (plainly it) =
    let none = (high_plainly text (key_with (Char c) held) c high refl it).0 in
    subst (λ h. ReadsBackToo (Char c) h modes) (sym none) (character c modes scalar (inr (omega arith)) (λ e. omega arith))
high_line c held modes scalar high back text sends (after_escape t j e it same) =
    go (is_some modes.modify_other_keys) refl
  where
    key : j.key ≡ Char c
    key = sym (ap (λ (k : KeyEvent). k.key) same)

    facts : (j.modifiers.0 ≡ NONE) × ((rest : List ℕ) → t ≡ 91 ∷ 50 ∷ rest → ⊥)
    facts = high_plainly t j c high key it

    alt : held ≡ ALT
    alt = ap (λ (k : KeyEvent). k.modifiers.0) same ∙ ap (λ n. bit_or n ALT) facts.0

    go : (on : Bool) → is_some modes.modify_other_keys ≡ on → ReadsBackToo (Char c) held modes
    go false is = subst (λ h. ReadsBackToo (Char c) h modes) (sym alt)
        (alt_beyond_ascii c modes (on_false modes.modify_other_keys is) scalar high)
    go true is =
        let sent : enc (Char c) (bits ALT) modes ≡ Some text = subst (λ h. enc (Char c) (bits h) modes ≡ Some text) alt sends in
        let form : other_keys_form c ALT ≡ ESC ++ t =
        (let s : Some (other_keys_form c ALT) ≡ Some text = sym (alt_code c modes high is) ∙ sent in
        (let b : other_keys_form c ALT ≡ text = cc (s) in b ∙ e)) in
        let after : 91 ∷ 50 ∷ drop 3 (other_keys_form c ALT) ≡ t =
        append_cancel_left ESC (91 ∷ 50 ∷ drop 3 (other_keys_form c ALT)) t form in
        absurd (facts.1 (drop 3 (other_keys_form c ALT)) (sym after))

pub character_line : (c held : ℕ) (modes : KeyCodeEncodeModes) → IsScalar c → Contains any_of_three held
    → ReadsBack (Char c) (bits held) modes → ReadsBackToo (Char c) held modes
character_line c held modes scalar here back = ⊎_elim
    (λ (small : c < 128). ascii_line modes c held scalar small here back)
    (λ (high : 128 ≤ c). high_line c held modes scalar high back back.0 back.1
    (single_sent (Char c) held modes back.0 back.1 back))
    (cases_lt c 128)
