-- A written key report with other characters or a text means that report, and so does that of a private character.
use Rattle.std.proofs.Common.{◌≡◌, ℕ, ◌+◌, ◌-◌, ◌^◌, ◌<◌, ◌≤◌, Bool, true, false, ◌&&◌, List, [], ◌∷◌, ◌++◌, length, refl, sym, ap, ◌∙◌, subst, arith, nat_le, decimal, Option, Some, None, append_assoc, length-append}
use Rattle.std.specs.Prelude.{encode_utf8_all}
use Rattle.std.specs.List.{AllByRecursion, list_all}
use Rattle.std.specs.Char.{is_ascii_digit}
use Rattle.std.proofs.Math.Nat.{pow-le-pow_right}
use Rattle.std.proofs.lemmas.Bool.{and_parts, and_from}
use Rattle.std.proofs.lemmas.Bool.Decides.{nat_tests}
use Rattle.termwiz_keys.specs.declared.types.KeyCode.TheVariants.{Char}
use Rattle.termwiz_grammar.specs.MouseReports.{IsDigit}
use Rattle.termwiz_extended_events.specs.declared.types.KeyEventKind.{KeyEventKind}
use Rattle.termwiz_extended_events.specs.declared.types.ReportedKey.TheVariants.{Named}
use Rattle.termwiz_extended_events.specs.declared.types.Event.TheVariants.{Key}
use Rattle.termwiz_extended_events.specs.declared.types.Reading.{Reading}
use Rattle.termwiz_extended_events.specs.Numbers.{fields, number_within, is_scalar}
use Rattle.termwiz_extended_events.specs.ReportedKeys.{is_functional, tilde_key}
use Rattle.termwiz_extended_events.specs.KeyReports.{character_key, lettered_key, numbered_key, other_code, other_held, other_key, key_report}
use Rattle.termwiz_extended_grammar.specs.ExtendedGrammar.{Means}
use Rattle.termwiz_extended_grammar.proofs.lemmas.forms.FormBytes.{all_append}
use Rattle.termwiz_kitty.specs.KittyTexts.{codes_text, characters_text}
use Rattle.termwiz_kitty.proofs.lemmas.read_back.Decimals.{number_decimal, scalar_decimal}
use Rattle.termwiz_kitty.proofs.lemmas.read_back.FieldSplits.{one_field, more_fields, without_last, before_end_here, before_other_end, last_byte}
use Rattle.termwiz_kitty.proofs.lemmas.read_back.WrittenFields.{decimal_small, IsCharacterOrMissing, codes_bytes, AreCharacters, characters_bytes}
use Rattle.termwiz_kitty.proofs.lemmas.read_back.WrittenReports.{carried, report_by_character}
use Rattle.termwiz_kitty.proofs.lemmas.read_back.SequenceForms.{IsParameter, written}
use Rattle.termwiz_senders.specs.ReportTexts.{is_missing, is_plain_press, short_manner, further_fields, private_report_text}
use Rattle.termwiz_event_laws.proofs.lemmas.KeyReportsNumbers.{below_power}
use Rattle.termwiz_extended_grammar.specs.Readings.{ReadsMore}
use Rattle.termwiz_event_laws.proofs.lemmas.KeyReportsFree.{has_colon, is_odd, colon_within, colon_before, colon_is_odd, fields_are_odd, long_is_odd, odd_means}
use Rattle.termwiz_event_laws.proofs.lemmas.KeyReportsBack.{digit_bytes, short_bytes, further_left_out, further_none, further_some, character_back}
use Rattle.termwiz_event_laws.proofs.lemmas.KeyReportsPlainBack.{field_parameters, semicolon_parameter}
use Rattle.termwiz_event_laws.proofs.lemmas.KeyReportsRules.{private_report, private_shifted}

-- other characters, or a text

further_parameters : (bits : ℕ) (kind : KeyEventKind) (cs : List ℕ) → bits < 256 → AreCharacters cs
    → AllByRecursion IsParameter (further_fields bits kind cs)
further_parameters bits kind [] h a = go (is_plain_press bits kind) refl
  where
    go : (v : Bool) → is_plain_press bits kind ≡ v → AllByRecursion IsParameter (further_fields bits kind [])
    go true plain = subst (AllByRecursion IsParameter) (sym (further_left_out bits kind plain)) tt
    go false told =
        subst (AllByRecursion IsParameter) (sym (further_none bits kind told))
        ((omega arith, omega arith), field_parameters (short_manner bits kind) (short_bytes bits kind h))
further_parameters bits kind (c ∷ cs) h a =
    subst (AllByRecursion IsParameter) (sym (further_some bits kind c cs)) (
      (omega arith, omega arith),
      all_append IsParameter (short_manner bits kind) (59 ∷ characters_text (c ∷ cs))
          (field_parameters (short_manner bits kind) (short_bytes bits kind h))
          ((omega arith, omega arith), field_parameters (characters_text (c ∷ cs)) (characters_bytes (c ∷ cs) a)),
    )

-- two codes have a colon
codes_colon : (own : ℕ) (shifted base : Option ℕ) → (is_missing shifted && is_missing base) ≡ false
    → has_colon (codes_text own shifted base) ≡ true
unfolding codes_text
codes_colon own None None e = absurd (cc (e))
codes_colon own (Some c) None e =
    rw (append_assoc (decimal own) (58 ∷ []) (decimal c)) (colon_within (decimal own) (decimal c))
codes_colon own None (Some d) e =
    rw (append_assoc (decimal own) (58 ∷ 58 ∷ []) (decimal d)) (colon_within (decimal own) (58 ∷ decimal d))
codes_colon own (Some c) (Some d) e =
    colon_before (decimal own ++ 58 ∷ [] ++ decimal c ++ 58 ∷ []) (decimal d)
    (colon_before (decimal own ++ 58 ∷ [] ++ decimal c) (58 ∷ [])
    (colon_before (decimal own ++ 58 ∷ []) (decimal c) (colon_within (decimal own) [])))

-- so what is written has a colon, or three fields
full_odd : (own : ℕ) (shifted base : Option ℕ) (bits : ℕ) (kind : KeyEventKind) (cs : List ℕ)
    → (cs ≡ [] → (is_missing shifted && is_missing base) ≡ false)
    → is_odd ((codes_text own shifted base ++ further_fields bits kind cs) ++ 117 ∷ []) ≡ true
full_odd own shifted base bits kind [] more =
    colon_is_odd ((codes_text own shifted base ++ further_fields bits kind []) ++ 117 ∷ [])
    (colon_before (codes_text own shifted base ++ further_fields bits kind []) (117 ∷ [])
    (colon_before (codes_text own shifted base) (further_fields bits kind []) (codes_colon own shifted base (more refl))))
full_odd own shifted base bits kind (c ∷ cs) more =
    subst (λ z. is_odd ((codes_text own shifted base ++ z) ++ 117 ∷ []) ≡ true) (sym (further_some bits kind c cs))
    (fields_are_odd (codes_text own shifted base) (short_manner bits kind) (characters_text (c ∷ cs)))

pub full_means : (reading : Reading) (own : ℕ) (shifted base : Option ℕ) (bits : ℕ) (kind : KeyEventKind) (cs : List ℕ) (more : Bool) → ReadsMore reading
    → is_scalar own ≡ true → IsCharacterOrMissing shifted → IsCharacterOrMissing base → bits < 256 → AreCharacters cs
    → (cs ≡ [] → (is_missing shifted && is_missing base) ≡ false)
    → length (written (codes_text own shifted base ++ further_fields bits kind cs) 117) ≤ 256
    → Means reading (written (codes_text own shifted base ++ further_fields bits kind cs) 117) more
    (Key (carried own shifted base bits kind (encode_utf8_all cs)) ∷ []) []
full_means reading own shifted base bits kind cs more reads o s b h a says short =
    odd_means reading (codes_text own shifted base ++ further_fields bits kind cs) 117 _ more reads
    (all_append IsParameter (codes_text own shifted base) (further_fields bits kind cs)
    (field_parameters (codes_text own shifted base) (codes_bytes own shifted base o s b)) (further_parameters bits kind cs h a))
    (omega arith, omega arith, (λ same. omega arith), (λ same. omega arith)) (λ same. omega arith) (λ same. omega arith) short
    (full_odd own shifted base bits kind cs says)
    (report_by_character (codes_text own shifted base ++ further_fields bits kind cs ++ 117 ∷ []) _
    (character_back own shifted base bits kind o s b h cs a))

-- a private character

all_digits : (ds : List ℕ) → AllByRecursion IsDigit ds → list_all is_ascii_digit ds ≡ true
all_digits [] a = refl
all_digits (d ∷ ds) a =
    let first : IsDigit d = a.0 in
    let here : is_ascii_digit d ≡ true = grind (arith, nat_tests) in
    and_from (is_ascii_digit d) (list_all is_ascii_digit ds) here (all_digits ds a.1)

-- its number has five digits
below_its_power : (c : ℕ) → c < 2000000 → c < 10 ^ length (decimal c)
below_its_power c small =
    let is = decimal_small c small in
    subst (λ v. v < 10 ^ length (decimal c)) is.value (below_power (decimal c) (all_digits (decimal c) is.each))

five_digits : (c : ℕ) → 57344 ≤ c → c < 2000000 → 4 < length (decimal c)
five_digits c high small = go (nat_le (length (decimal c)) 4) refl
  where
    go : (b : Bool) → nat_le (length (decimal c)) 4 ≡ b → 4 < length (decimal c)
    go true few =
        let upto : length (decimal c) ≤ 4 = grind (arith, nat_tests) in
        let power : 10 ^ length (decimal c) ≤ 10 ^ 4 = pow-le-pow_right {n = 10} (omega arith) upto in
        absurd (omega (arith, below_its_power c small, power))
    go false many = grind (arith, nat_tests)

-- the number of the modifiers, and that of the character
abbrev pub numbers_behind : ℕ → ℕ → List ℕ
numbers_behind bits c = decimal (1 + bits) ++ 59 ∷ [] ++ decimal c

abbrev private_body : ℕ → ℕ → List ℕ
private_body bits c = 50 ∷ 55 ∷ 59 ∷ numbers_behind bits c

module _ (c bits : ℕ) (scalar : is_scalar c ≡ true) (inside : is_functional c ≡ true) (h : bits < 256) where
  range : (nat_le 57344 c ≡ true) × (nat_le c 63743 ≡ true)
  range = and_parts (nat_le 57344 c) (nat_le c 63743) inside

  high : 57344 ≤ c
  high = let above : nat_le 57344 c ≡ true = range.0 in grind (arith, nat_tests)

  small : c < 2000000
  small = let below : nat_le c 63743 ≡ true = range.1 in grind (arith, nat_tests)

  split : fields (numbers_behind bits c) ≡ decimal (1 + bits) ∷ decimal c ∷ []
  split =
      ap fields (append_assoc (decimal (1 + bits)) (59 ∷ []) (decimal c))
      ∙ more_fields (decimal (1 + bits)) (decimal c) (digit_bytes (1 + bits) (omega arith))
      ∙ ap (λ z. decimal (1 + bits) ∷ z) (one_field (decimal c) (digit_bytes c small))

  own : other_code c ≡ Named (Char c)
  own = let from : 57344 ≤ c = high in grind (arith, nat_tests)

  by_code : other_key (private_body bits c ++ 126 ∷ []) ≡ Some (private_report c bits)
  unfolding other_key other_held
  by_code =
      let same : (1 + bits) - 1 ≡ bits = omega arith in
      rw (
        before_end_here (private_body bits c) 126,
        split,
        number_decimal 1 256 (1 + bits) (omega arith) (omega arith) (omega arith),
        scalar_decimal c scalar,
        own,
        same,
        private_shifted c bits inside,
      ) refl

  not_character : character_key (private_body bits c ++ 126 ∷ []) ≡ None
  unfolding character_key
  not_character = rw (before_other_end (private_body bits c) 126 117 (λ same. omega arith)) refl

  not_lettered : lettered_key (private_body bits c ++ 126 ∷ []) ≡ None
  unfolding lettered_key
  not_lettered = rw (without_last (private_body bits c) 126, last_byte (private_body bits c) 126) refl

  not_numbered : numbered_key (private_body bits c ++ 126 ∷ []) ≡ None
  unfolding numbered_key tilde_key number_within
  not_numbered = rw (before_end_here (private_body bits c) 126) refl

  reads : key_report (private_body bits c ++ 126 ∷ []) ≡ Some (private_report c bits)
  unfolding key_report
  reads = rw (not_character, not_lettered, not_numbered, by_code) refl

  parameters : AllByRecursion IsParameter (private_body bits c)
  parameters = (
    (omega arith, omega arith),
    (
      (omega arith, omega arith),
      (
        (omega arith, omega arith),
        all_append IsParameter (decimal (1 + bits) ++ 59 ∷ []) (decimal c)
            (all_append IsParameter (decimal (1 + bits)) (59 ∷ [])
            (field_parameters (decimal (1 + bits)) (digit_bytes (1 + bits) (omega arith))) semicolon_parameter)
            (field_parameters (decimal c) (digit_bytes c small)),
      ),
    ),
  )

  long : 9 < length (private_body bits c ++ 126 ∷ [])
  long = omega (
    arith,
    length-append (private_body bits c) (126 ∷ []),
    length-append (decimal (1 + bits) ++ 59 ∷ []) (decimal c),
    length-append (decimal (1 + bits)) (59 ∷ []),
    (decimal_small (1 + bits) (omega arith)).some,
    five_digits c high small,
  )

  private_written_means : (reading : Reading) (more : Bool) → ReadsMore reading → length (written (private_body bits c) 126) ≤ 256
      → Means reading (written (private_body bits c) 126) more (Key (private_report c bits) ∷ []) []
  private_written_means reading more may short =
      odd_means reading (private_body bits c) 126 (private_report c bits) more may parameters
      (omega arith, omega arith, (λ same. omega arith), (λ same. omega arith)) (λ same. omega arith) (λ same. omega arith) short
      (long_is_odd (private_body bits c ++ 126 ∷ []) long) reads

pub private_means : (reading : Reading) (c bits : ℕ) (more : Bool) → ReadsMore reading → is_scalar c ≡ true → is_functional c ≡ true → bits < 256
    → length (private_report_text c bits) ≤ 256
    → Means reading (private_report_text c bits) more (Key (private_report c bits) ∷ []) []
unfolding private_report_text
private_means reading c bits more may scalar inside h short =
    private_written_means c bits scalar inside h reading more may short
