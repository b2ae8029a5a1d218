-- A written key report that says no more than its key, the modifiers and what happened means that report.
use Rattle.std.proofs.Common.{◌≡◌, ◌≢◌, ℕ, ◌+◌, ◌<◌, ◌≤◌, Bool, true, not, ◌&&◌, List, [], ◌∷◌, ◌++◌, length, refl, sym, ap, ◌∙◌, subst, arith, nat_le, decimal, Some, None, append_assoc}
use Rattle.std.specs.Prelude.{◌==◌, encode_utf8}
use Rattle.std.specs.List.{AllByRecursion}
use Rattle.std.proofs.Math.Seq.{take-append_seam}
use Rattle.std.proofs.lemmas.Bool.{and_parts}
use Rattle.std.proofs.lemmas.Bool.Decides.{nat_tests}
use Rattle.std.proofs.lemmas.Str.{encode_ascii}
use Rattle.termwiz_keymap.proofs.lemmas.lists.CommonPrefixes.{true_from}
use Rattle.termwiz_keys.specs.declared.types.KeyCode.{KeyCode}
use Rattle.termwiz_extended_events.specs.declared.types.KeyEventKind.{KeyEventKind}
use Rattle.termwiz_extended_events.specs.declared.types.ReportedKey.{ReportedKey}
use Rattle.termwiz_extended_events.specs.declared.types.ReportedKey.TheVariants.{Named}
use Rattle.termwiz_extended_events.specs.declared.types.Event.TheVariants.{Key}
use Rattle.termwiz_extended_events.specs.declared.types.Reading.{Reading}
use Rattle.termwiz_extended_events.specs.Numbers.{fields, is_scalar}
use Rattle.termwiz_extended_events.specs.ReportedKeys.{entry_at, lettered_keys, key_of, tilde_key}
use Rattle.termwiz_extended_events.specs.KeyReports.{codes_with, codes_of, character_of_fields, character_key, lettered_of_fields, lettered_key, numbered_of_fields, numbered_key}
use Rattle.termwiz_extended_grammar.specs.ExtendedGrammar.{Means}
use Rattle.termwiz_extended_grammar.proofs.lemmas.forms.FormBytes.{all_append}
use Rattle.termwiz_kitty.specs.declared.key_forms.KeyForm.{KeyForm}
use Rattle.termwiz_kitty.specs.declared.key_forms.KeyForm.TheVariants.{Letter, Number, Code}
use Rattle.termwiz_kitty.specs.KittyTexts.{codes_text}
use Rattle.termwiz_kitty.proofs.lemmas.read_back.Decimals.{number_decimal, scalar_small}
use Rattle.termwiz_kitty.proofs.lemmas.read_back.FieldSplits.{IsFieldByte, one_field, more_fields, without_last, before_end_here, last_byte}
use Rattle.termwiz_kitty.proofs.lemmas.read_back.WrittenFields.{codes_back}
use Rattle.termwiz_kitty.proofs.lemmas.read_back.WrittenReports.{bare, report_by_character, report_by_letter, report_by_tilde}
use Rattle.termwiz_kitty.proofs.lemmas.read_back.KeysOfForms.{key_read, is_sound}
use Rattle.termwiz_kitty.proofs.lemmas.read_back.SequenceForms.{IsParameter, written}
use Rattle.termwiz_senders.specs.ReportTexts.{kind_number, told_manner, plain_report_text}
use Rattle.termwiz_extended_grammar.specs.Readings.{ReadsMore}
use Rattle.termwiz_event_laws.proofs.lemmas.KeyReportsFree.{has_colon, colon_within, colon_before, colon_after, colon_is_odd, odd_means}
use Rattle.termwiz_event_laws.proofs.lemmas.KeyReportsBack.{digit_bytes, told_back, told_bytes, by_fields}
use Rattle.termwiz_event_laws.proofs.lemmas.SomeOptions.{map_some}

in_parameters : (b : ℕ) → IsFieldByte b → IsParameter b
in_parameters b f = (omega arith, omega arith)

pub field_parameters : (field : List ℕ) → AllByRecursion IsFieldByte field → AllByRecursion IsParameter field
field_parameters field a = true_from IsFieldByte IsParameter in_parameters field a

pub semicolon_parameter : AllByRecursion IsParameter (59 ∷ [])
semicolon_parameter = ((omega arith, omega arith), tt)

told_parameters : (bits : ℕ) (kind : KeyEventKind) → bits < 256 → AllByRecursion IsParameter (told_manner bits kind)
told_parameters bits kind h = field_parameters (told_manner bits kind) (told_bytes bits kind h)

-- it has a colon
told_colon : (bits : ℕ) (kind : KeyEventKind) → has_colon (told_manner bits kind) ≡ true
unfolding told_manner
told_colon bits kind =
    rw (append_assoc (decimal (1 + bits)) (58 ∷ []) (decimal (kind_number kind))) (colon_within (decimal (1 + bits)) (decimal (kind_number kind)))

-- by a letter

by_letter : (body : List ℕ) (l : ℕ) (key : KeyCode) → entry_at lettered_keys l ≡ Some key
    → lettered_key (body ++ l ∷ []) ≡ lettered_of_fields key (fields body)
unfolding lettered_key
by_letter body l key e = rw (without_last body l, last_byte body l, e, take-append_seam body (l ∷ [])) refl

lettered_back : (bits : ℕ) (kind : KeyEventKind) (l : ℕ) (key : KeyCode) → bits < 256 → entry_at lettered_keys l ≡ Some key
    → lettered_key ((49 ∷ 59 ∷ told_manner bits kind) ++ l ∷ []) ≡ Some (bare (Named key) bits kind)
lettered_back bits kind l key h e =
    by_letter (49 ∷ 59 ∷ told_manner bits kind) l key e
    ∙ rw (one_field (told_manner bits kind) (told_bytes bits kind h), told_back bits kind h) refl

record IsLetter (l : ℕ) : Type 0 where
  low : 65 ≤ l
  high : l ≤ 83
  no_m : l ≢ 77
  no_i : l ≢ 73
  no_o : l ≢ 79

letter_is : (l : ℕ) → is_sound (Letter l) ≡ true → IsLetter l
letter_is l sound =
    let a = and_parts (nat_le 65 l && nat_le l 83 && not (l == 77) && not (l == 73)) (not (l == 79)) sound in
    let b = and_parts (nat_le 65 l && nat_le l 83 && not (l == 77)) (not (l == 73)) a.0 in
    let c = and_parts (nat_le 65 l && nat_le l 83) (not (l == 77)) b.0 in
    let d = and_parts (nat_le 65 l) (nat_le l 83) c.0 in
    let low : nat_le 65 l ≡ true = d.0 in
    let high : nat_le l 83 ≡ true = d.1 in
    let m : not (l == 77) ≡ true = c.1 in
    let i : not (l == 73) ≡ true = b.1 in
    let o : not (l == 79) ≡ true = a.1 in
    record {
      low = grind (arith, nat_tests);
      high = grind (arith, nat_tests);
      no_m = grind (arith, nat_tests);
      no_i = grind (arith, nat_tests);
      no_o = grind (arith, nat_tests);
    }

letter_means : (reading : Reading) (l bits : ℕ) (kind : KeyEventKind) (key : KeyCode) (more : Bool) → ReadsMore reading → bits < 256 → IsLetter l
    → entry_at lettered_keys l ≡ Some key → length (written (49 ∷ 59 ∷ told_manner bits kind) l) ≤ 256
    → Means reading (written (49 ∷ 59 ∷ told_manner bits kind) l) more (Key (bare (Named key) bits kind) ∷ []) []
letter_means reading l bits kind key more reads h letter e short =
    odd_means reading (49 ∷ 59 ∷ told_manner bits kind) l (bare (Named key) bits kind) more reads
    ((omega arith, omega arith), ((omega arith, omega arith), told_parameters bits kind h))
    (omega (arith, letter.low), omega (arith, letter.high), letter.no_m, (λ same. omega (arith, letter.high, same)))
    letter.no_i letter.no_o short
    (colon_is_odd ((49 ∷ 59 ∷ told_manner bits kind) ++ l ∷ [])
    (colon_before (49 ∷ 59 ∷ told_manner bits kind) (l ∷ []) (told_colon bits kind)))
    (report_by_letter (49 ∷ 59 ∷ told_manner bits kind) l (bare (Named key) bits kind) (λ same. omega (arith, letter.high, same))
    (lettered_back bits kind l key h e))

-- by a number

by_tilde : (body : List ℕ) → numbered_key (body ++ 126 ∷ []) ≡ numbered_of_fields (fields body)
unfolding numbered_key
by_tilde body = rw (before_end_here body 126) refl

own_back : (n : ℕ) → is_scalar n ≡ true → codes_of (decimal n) ≡ codes_with (Some n) (Some None) (Some None)
unfolding codes_text
own_back n scalar = codes_back n None None scalar tt tt

module _ (n bits : ℕ) (kind : KeyEventKind) (small : n < 2000000) (h : bits < 256) where
  numbered_fields : fields (decimal n ++ 59 ∷ [] ++ told_manner bits kind) ≡ decimal n ∷ told_manner bits kind ∷ []
  numbered_fields =
      ap fields (append_assoc (decimal n) (59 ∷ []) (told_manner bits kind))
      ∙ more_fields (decimal n) (told_manner bits kind) (digit_bytes n small)
      ∙ ap (λ z. decimal n ∷ z) (one_field (told_manner bits kind) (told_bytes bits kind h))

  numbered_parameters : AllByRecursion IsParameter (decimal n ++ 59 ∷ [] ++ told_manner bits kind)
  numbered_parameters =
      all_append IsParameter (decimal n ++ 59 ∷ []) (told_manner bits kind)
      (all_append IsParameter (decimal n) (59 ∷ []) (field_parameters (decimal n) (digit_bytes n small)) semicolon_parameter)
      (told_parameters bits kind h)

  numbered_colon : (l : ℕ) → has_colon ((decimal n ++ 59 ∷ [] ++ told_manner bits kind) ++ l ∷ []) ≡ true
  numbered_colon l =
      colon_before (decimal n ++ 59 ∷ [] ++ told_manner bits kind) (l ∷ [])
      (colon_after (decimal n ++ 59 ∷ []) (told_manner bits kind) (told_colon bits kind))

  -- by a number and a tilde
  number_means : (reading : Reading) (key : ReportedKey) (more : Bool) → ReadsMore reading → n ≤ 99 → tilde_key n ≡ Some key
      → length (written (decimal n ++ 59 ∷ [] ++ told_manner bits kind) 126) ≤ 256
      → Means reading (written (decimal n ++ 59 ∷ [] ++ told_manner bits kind) 126) more (Key (bare key bits kind) ∷ []) []
  number_means reading key more reads low e short =
      odd_means reading (decimal n ++ 59 ∷ [] ++ told_manner bits kind) 126 (bare key bits kind) more reads numbered_parameters
      (omega arith, omega arith, (λ same. omega arith), (λ same. omega arith)) (λ same. omega arith) (λ same. omega arith) short
      (colon_is_odd ((decimal n ++ 59 ∷ [] ++ told_manner bits kind) ++ 126 ∷ []) (numbered_colon 126))
      (report_by_tilde (decimal n ++ 59 ∷ [] ++ told_manner bits kind) (bare key bits kind) back)
    where
      back : numbered_key ((decimal n ++ 59 ∷ [] ++ told_manner bits kind) ++ 126 ∷ []) ≡ Some (bare key bits kind)
      back =
          by_tilde (decimal n ++ 59 ∷ [] ++ told_manner bits kind)
          ∙ ap numbered_of_fields numbered_fields
          ∙ rw (number_decimal 0 63743 n (omega arith) (omega arith) small, e, told_back bits kind h) refl

  -- by a number and the letter u
  code_means : (reading : Reading) (more : Bool) → ReadsMore reading → is_scalar n ≡ true
      → length (written (decimal n ++ 59 ∷ [] ++ told_manner bits kind) 117) ≤ 256
      → Means reading (written (decimal n ++ 59 ∷ [] ++ told_manner bits kind) 117) more (Key (bare (key_of n) bits kind) ∷ []) []
  code_means reading more reads scalar short =
      odd_means reading (decimal n ++ 59 ∷ [] ++ told_manner bits kind) 117 (bare (key_of n) bits kind) more reads numbered_parameters
      (omega arith, omega arith, (λ same. omega arith), (λ same. omega arith)) (λ same. omega arith) (λ same. omega arith) short
      (colon_is_odd ((decimal n ++ 59 ∷ [] ++ told_manner bits kind) ++ 117 ∷ []) (numbered_colon 117))
      (report_by_character ((decimal n ++ 59 ∷ [] ++ told_manner bits kind) ++ 117 ∷ []) (bare (key_of n) bits kind) back)
    where
      back : character_key ((decimal n ++ 59 ∷ [] ++ told_manner bits kind) ++ 117 ∷ []) ≡ Some (bare (key_of n) bits kind)
      back =
          by_fields (decimal n ++ 59 ∷ [] ++ told_manner bits kind)
          ∙ ap character_of_fields numbered_fields
          ∙ rw (own_back n scalar, told_back bits kind h) refl

-- whatever its form
pub plain_means : (reading : Reading) (form : KeyForm) (key : ReportedKey) (bits : ℕ) (kind : KeyEventKind) (more : Bool) → ReadsMore reading → bits < 256
    → key_read form ≡ Some key → is_sound form ≡ true → length (plain_report_text form bits kind) ≤ 256
    → Means reading (plain_report_text form bits kind) more (Key (bare key bits kind) ∷ []) []
unfolding plain_report_text
plain_means reading (Letter l) key bits kind more reads h read sound short =
    let letter = letter_is l sound in
    let ascii = encode_ascii l (omega (arith, letter.high)) in
    let found = map_some Named (entry_at lettered_keys l) key read in
    subst (λ k. Means reading (27 ∷ 91 ∷ 49 ∷ 59 ∷ (told_manner bits kind ++ encode_utf8 l)) more (Key (bare k bits kind) ∷ []) []) found.2
    (subst (λ t. length (27 ∷ 91 ∷ 49 ∷ 59 ∷ (told_manner bits kind ++ t)) ≤ 256
    → Means reading (27 ∷ 91 ∷ 49 ∷ 59 ∷ (told_manner bits kind ++ t)) more (Key (bare (Named found.0) bits kind) ∷ []) [])
    (sym ascii) (letter_means reading l bits kind found.0 more reads h letter found.1) short)
plain_means reading (Number n) key bits kind more reads h read sound short =
    let low : n ≤ 99 = grind (arith, nat_tests) in
    number_means n bits kind (omega (arith, low)) h reading key more reads low read short
plain_means reading (Code n) key bits kind more reads h read sound short =
    let same : key_of n ≡ key = cc (read) in
    subst (λ k. Means reading (written (decimal n ++ 59 ∷ [] ++ told_manner bits kind) 117) more (Key (bare k bits kind) ∷ []) []) same
    (code_means n bits kind (omega (arith, scalar_small n sound)) h reading more reads sound short)
