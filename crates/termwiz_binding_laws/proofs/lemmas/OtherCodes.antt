-- A character beyond ASCII that is sent by its code, as xterm's modifyOtherKeys sends it.
use Rattle.std.proofs.Common.{◌≡◌, ◌∙◌, ℕ, ◌+◌, ◌-◌, ◌^◌, ◌≤◌, ◌<◌, lt_trans, Bool, true, false, not, List, [], ◌∷◌, ◌++◌, length, drop, lit<, Option, Some, None, refl, sym, ap, subst, arith, Contains, nat_le, decimal, length-append}
use Rattle.std.specs.List.{AllByRecursion, list_all}
use Rattle.std.specs.Prelude.{◌==◌, if◌then◌else◌}
use Rattle.std.specs.Char.{IsScalar}
use Rattle.std.proofs.lemmas.Bool.Decides.{nat_tests}
use Rattle.std.proofs.lemmas.Fmt.{decimal_digit, length-decimal-le}
use Rattle.std.proofs.lemmas.List.Sums.{AllPass-from_list_all}
use Rattle.std.proofs.lemmas.List.Elements.{All-contains}
use Rattle.termwiz_base.specs.Modifiers.{xterm_number}
use Rattle.termwiz_keymap.proofs.lemmas.lists.CommonPrefixes.{true_from}
use Rattle.termwiz_keys.specs.declared.types.KeyCode.TheVariants.{Char}
use Rattle.termwiz_keys.specs.declared.types.KeyEvent.{KeyEvent}
use Rattle.termwiz_keys.specs.Encoding.{other_keys_form}
use Rattle.termwiz_grammar.specs.MouseReports.{IsDigit}
use Rattle.termwiz_grammar.specs.Sequences.{IsSequence}
use Rattle.termwiz_grammar.specs.Sequences.Meaning.{Row, Report}
use Rattle.termwiz_grammar.specs.Table.{TableRow, rows, written_out, key_of_code}
use Rattle.termwiz_grammar.proofs.lemmas.mouse.OneReport.{report_plain}
use Rattle.termwiz_extended_events.specs.declared.types.KeyReport.{KeyReport}
use Rattle.termwiz_extended_events.specs.declared.types.KeyEventKind.TheVariants.{Press}
use Rattle.termwiz_extended_events.specs.declared.types.Reading.{Reading}
use Rattle.termwiz_extended_events.specs.declared.types.ReportedKey.{ReportedKey}
use Rattle.termwiz_extended_events.specs.declared.types.ReportedKey.TheVariants.{Named}
use Rattle.termwiz_extended_events.specs.declared.types.Event.TheVariants.{Key}
use Rattle.termwiz_extended_events.specs.Numbers.{before_end, fields, number, number_within, scalar, is_scalar}
use Rattle.termwiz_extended_events.specs.ReportedKeys.{no_key, tilde_key}
use Rattle.termwiz_extended_events.specs.KeyReports.{character_key, lettered_key, numbered_key, is_shifted_by, other_held, other_key, key_report}
use Rattle.termwiz_extended_events.specs.Meanings.{event_of}
use Rattle.termwiz_extended_grammar.specs.Forms.IsForm.{control}
use Rattle.termwiz_extended_grammar.specs.ExtraSequences.{IsFree, IsExtra}
use Rattle.termwiz_extended_grammar.specs.ExtendedGrammar.{Means}
use Rattle.termwiz_extended_grammar.specs.Readings.{ReadsMore, is_asking}
use Rattle.termwiz_kitty.proofs.lemmas.read_back.Decimals.{IsDecimal, decimal_is, number_decimal, in_word, scalar_small, scalar_decimal}
use Rattle.termwiz_kitty.proofs.lemmas.read_back.FieldSplits.{IsFieldByte, digit_in_field, one_field, more_fields, without_last, before_end_here, before_other_end, last_byte}
use Rattle.termwiz_kitty.proofs.lemmas.read_back.KeysOfForms.{scalar_is}
use Rattle.termwiz_kitty.proofs.lemmas.read_back.SequenceForms.{IsParameter, written, is_control}
use Rattle.termwiz_kitty.proofs.lemmas.read_back.SequencesMean.{means_alone}
use Rattle.termwiz_kitty.proofs.lemmas.read_back.WrittenReports.{event_back}

-- the report is of a character beyond ASCII
abbrev is_wide_key : ReportedKey → Bool
is_wide_key (Named (Char c)) = nat_le 128 c
is_wide_key key = false

abbrev is_wide : Option KeyReport → Bool
is_wide (Some r) = is_wide_key r.key
is_wide None = false

-- the report of a character by its code: with SHIFT, and unless it is a control character, it is what SHIFT made
abbrev pub coded_report : ℕ → ℕ → KeyReport
coded_report c bits = record {
  key = Named (Char c);
  modifiers = bits;
  kind = Press;
  shifted = if is_shifted_by bits c then Some c else None;
  base = None;
  text = [];
}

-- no row is the code of such a character
no_wide_row : list_all (λ (r : TableRow). not (is_wide (other_key (drop 2 r.0)))) rows ≡ true
unfolding written_out other_key other_held before_end number_within scalar
no_wide_row = refl

-- what stands between ESC [ and ~: 27, the number of the modifiers, and the code, parted by semicolons
abbrev body : ℕ → ℕ → List ℕ
body m c = 50 ∷ 55 ∷ 59 ∷ (48 + m) ∷ 59 ∷ decimal c

pub form_is : (c held : ℕ) → xterm_number held < 9 → other_keys_form c held ≡ written (body (1 + xterm_number held) c) 126
form_is c held small = rw (decimal_digit (1 + xterm_number held) (omega arith)) refl

few_of_seven : (n : ℕ) → n < 2000000 → n < 10 ^ 7
few_of_seven n h = lt_trans h (lit< tt)

module _ (m c : ℕ) (one : 1 ≤ m) (eight : m ≤ 8) (high : 128 ≤ c) (is : IsScalar c) where
  spelled : is_scalar c ≡ true
  spelled = scalar_is c is

  few : c < 2000000
  few = omega (arith, scalar_small c spelled)

  code : IsDecimal c (decimal c)
  code = decimal_is c (in_word c few)

  digits : AllByRecursion IsFieldByte (decimal c)
  digits = true_from IsDigit IsFieldByte digit_in_field (decimal c) code.each

  split : fields (body m c) ≡ (50 ∷ 55 ∷ []) ∷ ((48 + m) ∷ []) ∷ decimal c ∷ []
  split =
      more_fields (50 ∷ 55 ∷ []) ((48 + m) ∷ 59 ∷ decimal c) ((omega arith, omega arith), ((omega arith, omega arith), tt))
      ∙ ap (λ z. (50 ∷ 55 ∷ []) ∷ z) (more_fields ((48 + m) ∷ []) (decimal c) ((omega arith, omega arith), tt))
      ∙ ap (λ z. (50 ∷ 55 ∷ []) ∷ ((48 + m) ∷ []) ∷ z) (one_field (decimal c) digits)

  number_read : number 1 256 ((48 + m) ∷ []) ≡ Some m
  number_read = subst (λ t. number 1 256 t ≡ Some m) (decimal_digit m (omega arith)) (number_decimal 1 256 m one (omega arith) (omega arith))

  own : key_of_code c ≡ Char c
  own = grind (arith, nat_tests)

  abbrev report : KeyReport
  report = coded_report c (m - 1)

  some : (c == no_key) ≡ false
  some = grind (arith, nat_tests)

  by_code : other_key (body m c ++ 126 ∷ []) ≡ Some report
  unfolding other_key other_held
  by_code = rw (before_end_here (body m c) 126, split, number_read, scalar_decimal c spelled, some, own) refl

  not_character : character_key (body m c ++ 126 ∷ []) ≡ None
  unfolding character_key
  not_character = rw (before_other_end (body m c) 126 117 (λ same. omega arith)) refl

  not_lettered : lettered_key (body m c ++ 126 ∷ []) ≡ None
  unfolding lettered_key
  not_lettered = rw (without_last (body m c) 126, last_byte (body m c) 126) refl

  not_numbered : numbered_key (body m c ++ 126 ∷ []) ≡ None
  unfolding numbered_key tilde_key number_within
  not_numbered = rw (before_end_here (body m c) 126) refl

  reads : key_report (body m c ++ 126 ∷ []) ≡ Some report
  unfolding key_report
  reads = rw (not_character, not_lettered, not_numbered, by_code) refl

  pub event : (asks : Bool) → event_of asks (written (body m c) 126) ≡ Key report
  event asks = event_back asks (body m c) 126 report (λ same. omega arith) (λ same. omega arith) reads

  row_free : (k : KeyEvent) → Contains rows (written (body m c) 126, k) → ⊥
  row_free k row =
      let test : not (is_wide (other_key (body m c ++ 126 ∷ []))) ≡ true =
      All-contains (λ (r : TableRow). not (is_wide (other_key (drop 2 r.0))) ≡ true) rows (written (body m c) 126, k)
      (AllPass-from_list_all (λ (r : TableRow). not (is_wide (other_key (drop 2 r.0)))) rows no_wide_row) row in
      let wide : nat_le 128 c ≡ true = grind (arith, nat_tests) in
      let never : not (nat_le 128 c) ≡ true = subst (λ o. not (is_wide o) ≡ true) by_code test in
      cc (subst (λ b. not b ≡ true) wide never)

  free : (reading : Reading) → IsFree reading (written (body m c) 126)
  unfolding IsSequence
  free reading (Row k) sequence = absurd (row_free k sequence)
  free reading (Report report') sequence =
      let plain = report_plain (written (body m c) 126) report' sequence in
      let same : ◌≡◌ {A = ℕ} 50 60 = cc (plain.1) in absurd (omega arith)

  in_parameters : (b : ℕ) → IsFieldByte b → IsParameter b
  in_parameters b f = (omega arith, omega arith)

  parameters : AllByRecursion IsParameter (body m c)
  parameters = (
    (omega arith, omega arith),
    (
      (omega arith, omega arith),
      (
        (omega arith, omega arith),
        (
          (omega arith, omega arith),
          ((omega arith, omega arith), true_from IsFieldByte IsParameter in_parameters (decimal c) digits),
        ),
      ),
    ),
  )

  short : length (written (body m c) 126) ≤ 256
  short =
      let few_digits : length (decimal c) ≤ 7 = length-decimal-le 7 c (lit< tt) (few_of_seven c few) (in_word c few) in
      omega (arith, length-append (decimal c) (126 ∷ []), few_digits)

  extra : (reading : Reading) → ReadsMore reading → IsExtra reading (written (body m c) 126) (Key report)
  extra reading reads = record {
    reads = reads;
    is_form = control (is_control (body m c) 126 parameters
        (omega arith, omega arith, (λ same. omega arith), (λ same. omega arith)) short);
    is_free = free reading;
    means = sym (event (is_asking reading));
  }

  pub code_means : (reading : Reading) → ReadsMore reading → Means reading (written (body m c) 126) false (Key report ∷ []) []
  code_means reading reads = means_alone reading (written (body m c) 126) false (Key report) (extra reading reads)
