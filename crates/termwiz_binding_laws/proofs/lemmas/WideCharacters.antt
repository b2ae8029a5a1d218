-- Characters beyond ASCII: what they send, and the presses of their twins.
use Rattle.std.proofs.Common.{◌≡◌, ◌∙◌, ℕ, ◌≤◌, Bool, true, false, not, ◌++◌, Some, None, refl, ap, arith, ◌==◌, ◌&&◌, ◌||◌, bit_and, nat_le, nat_lt}
use Rattle.std.specs.Prelude.{if◌then◌else◌}
use Rattle.std.specs.Char.{encode_utf8, is_control, is_ascii_control, is_ascii_digit, is_ascii_lowercase, is_ascii_uppercase, is_ascii_alphanumeric, is_ascii_punctuation}
use Rattle.std.proofs.lemmas.Bool.{and_right}
use Rattle.std.proofs.lemmas.Bool.Decides.{nat_tests}
use Rattle.termwiz_base.specs.Control.{control_of}
use Rattle.termwiz_keys.specs.declared.types.KeyCode.TheVariants.{Char}
use Rattle.termwiz_keys.specs.declared.encode.KeyCodeEncodeModes.{KeyCodeEncodeModes}
use Rattle.termwiz_keys.specs.Encoding.{enc, sideless, normal_key, normal_held, shows_shift, named_key, key_text, char_text, plain_char_text, other_text, other_keys_form, escape_if_alt, is_csi_u, is_level, is_ambiguous, stays_at_one}
use Rattle.termwiz_keys.specs.Keys.{NONE, SHIFT, ALT, CTRL, key_with}
use Rattle.termwiz_keys.specs.KeyCodes.{holds, shifted}
use Rattle.termwiz_laws.proofs.lemmas.further_keys.FurtherReadings.{bits}
use Rattle.termwiz_extended_events.specs.declared.types.ReportedKey.TheVariants.{Named}
use Rattle.termwiz_extended_events.specs.declared.types.KeyEventKind.TheVariants.{Press}
use Rattle.termwiz_extended_events.specs.declared.types.Dialect.{Dialect}
use Rattle.termwiz_extended_events.specs.declared.types.Dialect.TheVariants.{Extended, Termwiz}
use Rattle.termwiz_extended_events.specs.KeyReports.{report_of}
use Rattle.termwiz_bindings.specs.MainKeys as keys
use Rattle.termwiz_bindings.specs.Presses as rules
use Rattle.termwiz_bindings.specs.declared.press.KeyPress.{KeyPress}
use Rattle.termwiz_bindings.specs.Presses.{canonical, character_press, cased_press, has_shift, without_shift, all_but_locks}
use Rattle.termwiz_binding_laws.specs.Twins.{SUPER, dropping, only_alt, is_on, twin_in}
use Rattle.termwiz_binding_laws.proofs.lemmas.OtherCodes.{coded_report}

if_same : {A : Type 0} (b : Bool) (x : A) → (if b then x else x) ≡ x
if_same true x = refl
if_same false x = refl

-- the press of such a character with these modifiers, by the rules on SHIFT
abbrev pub wide_press_with : ℕ → ℕ → KeyPress
wide_press_with c held = cased_press (character_press c held)

pub wide_press : (c bits : ℕ) → 128 ≤ c
    → canonical (report_of (Named (Char c)) (record { modifiers = bits; kind = Press }))
    ≡ Some (wide_press_with c (bit_and bits all_but_locks))
unfolding canonical keys.makes_no_press rules.settled rules.plain_press rules.main_press keys.main_of_named keys.main_code
    rules.control_press rules.told_press
wide_press c bits high =
    let no_control : is_ascii_control c ≡ false = grind (arith, nat_tests) in
    rw no_control refl

-- the same where the report tells that the character is what SHIFT made
abbrev pub coded_bits : Bool → ℕ → ℕ
coded_bits control bits' = if control then bits' else without_shift bits'

pub coded_press : (c held : ℕ) → 128 ≤ c → has_shift (bit_and held all_but_locks) ≡ not (bit_and held 1 == 0)
    → ((bit_and held 1 == 0) ≡ true → without_shift (bit_and held all_but_locks) ≡ bit_and held all_but_locks)
    → canonical (coded_report c held) ≡ Some (wide_press_with c (coded_bits (is_control c) (bit_and held all_but_locks)))
unfolding canonical keys.makes_no_press rules.settled rules.plain_press rules.main_press keys.main_of_named keys.main_code
    rules.control_press rules.told_press
coded_press c held high told none = go (is_control c) refl (bit_and held 1 == 0) refl
  where
    no_control : is_ascii_control c ≡ false
    no_control = grind (arith, nat_tests)

    no_space : (c == 32) ≡ false
    no_space = grind (arith, nat_tests)

    go : (x : Bool) → is_control c ≡ x → (y : Bool) → (bit_and held 1 == 0) ≡ y
        → canonical (coded_report c held) ≡ Some (wide_press_with c (coded_bits (is_control c) (bit_and held all_but_locks)))
    go true control true e = rw (no_control, e, control) refl
    go true control false e = rw (no_control, e, control) refl
    go false control true e = rw (no_control, e, control, none e) refl
    go false control false e =
        let shift : has_shift (bit_and held all_but_locks) ≡ true = told ∙ ap not e in
        rw (no_control, e, control, control, shift, no_space) refl

-- what its twin holds
abbrev pub wide_held : Bool → Bool → ℕ → ℕ
wide_held on control held =
    if on then (if control then dropping held SUPER else dropping (dropping held SUPER) SHIFT) else only_alt (dropping held SUPER)

pub wide_twin_is : (dialect : Dialect) (c held : ℕ) (modes : KeyCodeEncodeModes) → 128 ≤ c
    → twin_in dialect (Char c) held modes ≡ key_with (Char c) (wide_held (is_on modes) (is_control c) held)
unfolding twin_in
wide_twin_is dialect c held modes high = go dialect
  where
    wide : nat_le 128 c ≡ true
    wide = grind (arith, nat_tests)

    no_digit : is_ascii_digit c ≡ false
    no_digit = grind (arith, nat_tests)

    no_control : is_ascii_control c ≡ false
    no_control = grind (arith, nat_tests)

    go : (d : Dialect) → twin_in d (Char c) held modes ≡ key_with (Char c) (wide_held (is_on modes) (is_control c) held)
    go Termwiz = rw wide refl
    go Extended = rw (no_control, wide, no_digit) refl

-- what it sends

uncontrolled : (c : ℕ) → 128 ≤ c → control_of c ≡ None
unfolding control_of
uncontrolled c high = grind (arith, nat_tests)

unmodified_key : (c held : ℕ) → 128 ≤ c → normal_key (Char c) held ≡ Char c
unfolding normal_key shifted named_key
unmodified_key c held high =
    let small : is_ascii_lowercase c ≡ false = grind (arith, nat_tests) in
    let not_del : (c == 0x7f) ≡ false = grind (arith, nat_tests) in
    let not_bs : (c == 8) ≡ false = grind (arith, nat_tests) in
    rw (small, not_del, not_bs) refl

unmodified_held : (c held : ℕ) → 128 ≤ c → normal_held (Char c) held ≡ sideless held
unfolding normal_held shifted shows_shift
unmodified_held c held high =
    let small : is_ascii_lowercase c ≡ false = grind (arith, nat_tests) in
    let capital : is_ascii_uppercase c ≡ false = grind (arith, nat_tests) in
    let mark : is_ascii_punctuation c ≡ false = grind (arith, nat_tests) in
    rw (small, capital, mark) refl

some_held : (c held : ℕ) (modes : KeyCodeEncodeModes) → 128 ≤ c → (held == 0) ≡ false → char_text c held modes ≡ other_text c held modes
unfolding char_text plain_char_text
some_held c held modes high some =
    let ambiguous : is_ambiguous c ≡ false = grind (arith, nat_tests) in
    let capital : is_ascii_uppercase c ≡ false = grind (arith, nat_tests) in
    let no_letter : is_ascii_alphanumeric c || is_ascii_punctuation c ≡ false = grind (arith, nat_tests) in
    rw (
      ambiguous,
      and_right (holds held CTRL && is_csi_u modes.encoding) false refl,
      no_letter,
      and_right (holds held ALT) false refl,
      capital,
      uncontrolled c high,
      and_right (holds held CTRL) false refl,
      some,
      if_same (holds held CTRL && is_level modes.modify_other_keys 2) (other_text c held modes),
    ) refl

told_by_code : (c held : ℕ) (modes : KeyCodeEncodeModes) → 128 ≤ c → is_on modes ≡ true → other_text c held modes ≡ other_keys_form c held
unfolding other_text
told_by_code c held modes high on =
    let not_ascii : nat_lt c 0x80 ≡ false = grind (arith, nat_tests) in
    let moves : stays_at_one c ≡ false = grind (arith, nat_tests) in
    rw (
      not_ascii,
      and_right (is_csi_u modes.encoding) false refl,
      on,
      moves,
      and_right (is_level modes.modify_other_keys 1) false refl,
    ) refl

told_plainly : (c held : ℕ) (modes : KeyCodeEncodeModes) → 128 ≤ c → is_on modes ≡ false
    → other_text c held modes ≡ escape_if_alt held ++ encode_utf8 c
unfolding other_text
told_plainly c held modes high off =
    let not_ascii : nat_lt c 0x80 ≡ false = grind (arith, nat_tests) in
    rw (
      not_ascii,
      and_right (is_csi_u modes.encoding) false refl,
      off,
      uncontrolled c high,
      if_same (holds held CTRL) (escape_if_alt held ++ encode_utf8 c),
    ) refl

character_sent : (c held : ℕ) (modes : KeyCodeEncodeModes) → 128 ≤ c → sideless held ≡ held
    → enc (Char c) (bits held) modes ≡ Some (char_text c held modes)
unfolding enc key_text
character_sent c held modes high none = rw (unmodified_key c held high, unmodified_held c held high, none) refl

pub sent_by_code : (c held : ℕ) (modes : KeyCodeEncodeModes) → 128 ≤ c → sideless held ≡ held → (held == 0) ≡ false → is_on modes ≡ true
    → enc (Char c) (bits held) modes ≡ Some (other_keys_form c held)
sent_by_code c held modes high none some on =
    character_sent c held modes high none
    ∙ ap (λ t. Some t) (some_held c held modes high some ∙ told_by_code c held modes high on)

pub sent_plainly : (c held : ℕ) (modes : KeyCodeEncodeModes) → 128 ≤ c → sideless held ≡ held → (held == 0) ≡ false → is_on modes ≡ false
    → enc (Char c) (bits held) modes ≡ Some (escape_if_alt held ++ encode_utf8 c)
sent_plainly c held modes high none some off =
    character_sent c held modes high none
    ∙ ap (λ t. Some t) (some_held c held modes high some ∙ told_plainly c held modes high off)

pub sent_alone : (c : ℕ) (modes : KeyCodeEncodeModes) → 128 ≤ c → enc (Char c) (bits NONE) modes ≡ Some (encode_utf8 c)
unfolding char_text plain_char_text
sent_alone c modes high = character_sent c NONE modes high refl
