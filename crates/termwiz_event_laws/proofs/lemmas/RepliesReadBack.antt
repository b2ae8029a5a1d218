-- The focus, positions, sizes and flags are read back at once, where more than the port's sequences is read.
use Rattle.std.proofs.Common.{◌≡◌, ◌≢◌, ◌⊎◌, inl, inr, ℕ, ◌+◌, ◌-◌, ◌^◌, ◌<◌, ◌≤◌, Bool, true, false, ◌&&◌, nat_le, nat_lt, List, [], ◌∷◌, ◌++◌, length, refl, sym, ap, ◌∙◌, subst, arith, append_assoc, append-nil, length-append, decimal, Option, Some, None}
use Rattle.std.specs.Prelude.{codes, ◌==◌, option_map, if◌then◌else◌}
use Rattle.std.specs.Fmt.{digits}
use Rattle.std.specs.List.{AllByRecursion}
use Rattle.std.proofs.lemmas.Bool.Decides.{nat_tests}
use Rattle.termwiz_grammar.specs.MouseReports.{value_of}
use Rattle.termwiz_keys.specs.declared.types.KeyCode.TheVariants.{Function}
use Rattle.termwiz_keys.specs.Introducers.{CSI}
use Rattle.termwiz_extended_events.specs.declared.types.Event.{Event}
use Rattle.termwiz_extended_events.specs.declared.types.Event.TheVariants.{Key, FocusGained, FocusLost, CursorPosition, Resized, KeyboardFlags}
use Rattle.termwiz_extended_events.specs.declared.types.KeyEventKind.TheVariants.{Press}
use Rattle.termwiz_extended_events.specs.declared.types.KeyReport.{KeyReport}
use Rattle.termwiz_extended_events.specs.declared.types.Manner.{Manner}
use Rattle.termwiz_extended_events.specs.Meanings.{IsKeyOrPosition}
use Rattle.termwiz_extended_events.specs.PortEvents.{told}
use Rattle.termwiz_keys.specs.declared.types.InputEvent.{InputEvent}
use Rattle.termwiz_keys.specs.declared.types.InputEvent.TheVariants as input
use Rattle.termwiz_extended_events.specs.declared.types.Reading.{Reading}
use Rattle.termwiz_extended_events.specs.declared.types.ReportedKey.TheVariants.{Named}
use Rattle.termwiz_extended_events.specs.KeyReports.{modifiers_of, manner_of, report_of, codes_of, character_key, is_one_or_missing, third_function_key}
use Rattle.termwiz_extended_events.specs.Meanings.{unasked_key, reported, event_after, event_of}
use Rattle.termwiz_extended_events.specs.Numbers.{fields, after_start, is_digits, number_within, scalar}
use Rattle.termwiz_extended_events.specs.Replies.{focus, position_of_fields, marked_position_of_fields, cursor_position, keyboard_flags, size_of_fields, resize, reply}
use Rattle.termwiz_extended_grammar.specs.ExtendedGrammar.{Stands}
use Rattle.termwiz_extended_grammar.specs.ExtendedGrammar.Stands.{extra, alt_key, lone_escape, string, usual}
use Rattle.termwiz_extended_grammar.specs.ExtraSequences.{IsFree}
use Rattle.termwiz_extended_grammar.specs.Readings.{ReadsMore, is_asking, event_in}
use Rattle.termwiz_kitty.proofs.lemmas.read_back.FieldSplits.{before_end_here, one_field, one_part}
use Rattle.termwiz_senders.specs.EventTexts.{position_text, size_text, flags_text, IsReadAtOnce}
use Rattle.termwiz_senders.proofs.lemmas.WrittenNumbers.{digits_of, field_of, number_back}
use Rattle.termwiz_senders.proofs.lemmas.StringsAlone.{IsOfString, comes_of_string}
use Rattle.termwiz_event_laws.specs.EventLaws.{IsPlace, IsToldPlainly, PositionsReadBack}
use Rattle.termwiz_event_laws.proofs.lemmas.ControlTexts.{written, IsParameter, IsEnd, IsClear, IsUnknown, free_means, control_means, no_mark}
use Rattle.termwiz_event_laws.proofs.lemmas.ReportRows.{IsUnsigned, no_report_end, low_position}
use Rattle.termwiz_event_laws.proofs.lemmas.UnreadEnds.{and_false, no_number, no_focus, no_character, no_key, no_cursor, no_flags, no_third, unasked_none, event_by_reply, event_by_third}
use Rattle.termwiz_event_laws.proofs.lemmas.KeyReportsBack.{modifiers_back}
use Rattle.termwiz_event_laws.proofs.lemmas.Origins.{alt_report}
use Rattle.termwiz_event_laws.proofs.lemmas.WrittenWords.{word_parameters, word_short, word_back, place_back, followed, followed_parameters, followed_short, unsigned, unmarked, two_fields, four_fields}

-- the focus

focus_means : (reading : Reading) (last : ℕ) (e : Event) → ReadsMore reading → IsEnd last → IsClear [] last → IsUnknown [] last
    → event_in reading (written [] last) ≡ e
    → IsReadAtOnce reading e (written [] last)
focus_means reading last e reads is clear unknown means more = control_means reading [] last e more reads tt is clear (omega arith) unknown means

pub focus_gained : (reading : Reading) → ReadsMore reading → IsReadAtOnce reading FocusGained (CSI ++ codes "I")
unfolding event_of event_after reported focus
focus_gained reading reads = focus_means reading 73 FocusGained reads (omega arith, omega arith) (λ h. ((λ e. omega arith), (λ e. omega arith)))
    (no_report_end [] 73 refl (λ t e. (let same : ◌≡◌ {A = ℕ} 73 60 = cc (e) in omega arith))) refl

pub focus_lost : (reading : Reading) → ReadsMore reading → IsReadAtOnce reading FocusLost (CSI ++ codes "O")
unfolding event_of event_after reported focus
focus_lost reading reads = focus_means reading 79 FocusLost reads (omega arith, omega arith) (λ h. ((λ e. omega arith), (λ e. omega arith)))
    (no_report_end [] 79 refl (λ t e. (let same : ◌≡◌ {A = ℕ} 79 60 = cc (e) in omega arith))) refl

-- what has numbers is clear
clear_from : (body : List ℕ) (last : ℕ) → 0 < length body → IsClear body last
clear_from body last some none = absurd (omega (arith, ap length none))

followed_some : (text : List ℕ) (n : ℕ) → 0 < length (followed text n)
followed_some text n = omega (arith, length-append (text ++ 59 ∷ []) (decimal n), length-append text (59 ∷ []))

length_written : (body : List ℕ) (last : ℕ) → length (written body last) ≡ length body + 3
length_written body last = omega (arith, length-append body (last ∷ []))

-- no event of the port is told as a position
told_no_position : (reading : Reading) (bytes : List ℕ) (event : InputEvent) (row column : ℕ) → told reading bytes event ≡ CursorPosition row column → ⊥
told_no_position reading bytes (input.Key k) row column e = cc (e)
told_no_position reading bytes (input.Mouse event) row column e = cc (e)
told_no_position reading bytes (input.PixelMouse event) row column e = cc (e)
told_no_position reading bytes (input.Resized c r) row column e = cc (e)
told_no_position reading bytes (input.Paste text) row column e = cc (e)
told_no_position reading bytes input.Wake row column e = cc (e)

-- a text whose event is a key is no position alone
no_position : (reading : Reading) (u left : List ℕ) (more : Bool) (e : Event) (row column : ℕ) (r : KeyReport)
    → Stands reading u more left e → e ≡ CursorPosition row column → left ≡ [] → event_in reading u ≡ Key r → ⊥
no_position reading u left more e row column r (extra text l d is split) same none told =
    let whole : u ≡ text = split ∙ ap (λ z. text ++ z) none ∙ append-nil text in
    let its : d ≡ event_in reading u = is.means ∙ sym (ap (event_in reading) whole) in
    let both : CursorPosition row column ≡ Key r = sym same ∙ its ∙ told in
    cc (both)
no_position reading u left more e row column r (alt_key text l d is bare split) same none told =
    let key = alt_report reading text d is.means bare.is_key in
    let both : Key key.0 ≡ CursorPosition row column = sym key.1 ∙ same in
    cc (both)
no_position reading u left more e row column r (lone_escape l split apart) same none told = cc (same)
no_position reading u left more e row column r (string kind head bytes after l d reads is comes) same none told =
    subst IsOfString same (comes_of_string kind head bytes after l more d comes)
no_position reading u left more e row column r (usual bytes l d stands split here behind) same none answer =
    told_no_position reading bytes d row column same

-- F3 has a 1 before its modifiers, or nothing, and its modifiers are 1 to 256

marked_is_no_one : (t : List ℕ) → is_one_or_missing (63 ∷ t) ≡ false
marked_is_no_one [] = refl
marked_is_no_one (b ∷ t) = refl

no_one : (n : ℕ) → n < 2 ^ 16 → n ≢ 1 → is_one_or_missing (decimal n) ≡ false
no_one n h other = (let is = digits_of n h in go (decimal n) is.some is.value)
  where
    go : (digits : List ℕ) → 0 < length digits → value_of digits ≡ n → is_one_or_missing digits ≡ false
    go [] some value = absurd (omega arith)
    go (b ∷ []) some value = one (b == 49) refl
      where
        one : (v : Bool) → (b == 49) ≡ v → v ≡ false
        one false e = refl
        one true e =
            let digit : b ≡ 49 = grind (arith, nat_tests) in
            let its : value_of (b ∷ []) ≡ 1 = rw digit refl in
            absurd (other (sym value ∙ its))
    go (b ∷ c ∷ digits) some value = refl

no_modifiers : (digits : List ℕ) → 0 < length digits → 256 < value_of digits → modifiers_of digits ≡ None
unfolding modifiers_of number_within
no_modifiers [] some far = absurd (omega arith)
no_modifiers (b ∷ digits) some far =
    let above : nat_le (value_of (b ∷ digits)) 256 ≡ false = grind (arith, nat_tests) in
    rw (above, and_false (is_digits 7 (b ∷ digits) && nat_le 1 (value_of (b ∷ digits)))) refl

without_manner : (n : ℕ) → n < 2 ^ 16 → 256 < n → option_map (report_of (Named (Function 3))) (manner_of (decimal n)) ≡ None
unfolding manner_of
without_manner n h far =
    let is = digits_of n h in
    let value : 256 < value_of (decimal n) = subst (λ v. 256 < v) (sym is.value) far in
    rw (one_part (decimal n) is.each, no_modifiers (decimal n) is.some value) refl

with_manner : (n : ℕ) → 0 < n → n < 2 ^ 16 → n ≤ 256 → (m : Manner) × (manner_of (decimal n) ≡ Some m)
unfolding manner_of
with_manner n some h few =
    let back : modifiers_of (decimal (1 + (n - 1))) ≡ Some (n - 1) = modifiers_back (n - 1) (omega arith) in
    let same : 1 + (n - 1) ≡ n = omega arith in
    let its : modifiers_of (decimal n) ≡ Some (n - 1) = subst (λ m. modifiers_of (decimal m) ≡ Some (n - 1)) same back in
    (record { modifiers = n - 1; kind = Press }, rw (one_part (decimal n) (digits_of n h).each, its) refl)

one_is_one : is_one_or_missing (decimal 1) ≡ true
unfolding digits
one_is_one = refl

none_either_way : {A : Type 0} (b : Bool) {o : Option A} → o ≡ None → (if b then o else None) ≡ None
none_either_way true e = e
none_either_way false e = refl

-- positions
module _ (row column : ℕ) (above : IsPlace row) (beside : IsPlace column) where
  f : row < 2 ^ 16
  f = above.1

  g : column < 2 ^ 16
  g = beside.1

  parameters : AllByRecursion IsParameter (followed (decimal row) column)
  parameters = followed_parameters (decimal row) column g (word_parameters row f)

  short : length (followed (decimal row) column) ≤ 11
  short = followed_short (decimal row) column 5 g (word_short row f)

  position_back : position_of_fields (fields (followed (decimal row) column)) ≡ Some (CursorPosition row column)
  position_back = rw (two_fields row column f g, place_back row above.0 f, place_back column beside.0 g) refl

  -- a question mark before the numbers
  marked_back : marked_position_of_fields (fields (followed (decimal row) column)) ≡ Some (CursorPosition row column)
  marked_back = rw (two_fields row column f g, place_back row above.0 f, place_back column beside.0 g) refl

  private_back : cursor_position (63 ∷ followed (decimal row) column ++ 82 ∷ []) ≡ Some (CursorPosition row column)
  unfolding cursor_position after_start
  private_back = rw (before_end_here (63 ∷ followed (decimal row) column) 82) marked_back

  plain_back : cursor_position (followed (decimal row) column ++ 82 ∷ []) ≡ Some (CursorPosition row column)
  unfolding cursor_position
  plain_back =
      let none : after_start (63 ∷ []) (followed (decimal row) column) ≡ None =
      ap (after_start (63 ∷ [])) (append_assoc (decimal row) (59 ∷ []) (decimal column)) ∙ unmarked row (59 ∷ decimal column) f in
      rw (before_end_here (followed (decimal row) column) 82, none) position_back

  position_is : (reading : Reading) (body : List ℕ) → unasked_key (is_asking reading) (body ++ 82 ∷ []) ≡ None
      → cursor_position (body ++ 82 ∷ []) ≡ Some (CursorPosition row column) → event_in reading (written body 82) ≡ CursorPosition row column
  unfolding reply
  position_is reading body none is =
      event_by_reply (is_asking reading) (body ++ 82 ∷ []) (CursorPosition row column)
      (no_focus body 82 (λ e. omega arith) (λ e. omega arith))
      (no_key body 82 (no_character body 82 (λ e. omega arith)) (λ e. omega arith) refl) none (rw is refl)

  -- with a question mark it isn't F3
  private_no_third : third_function_key (63 ∷ followed (decimal row) column ++ 82 ∷ []) ≡ None
  unfolding third_function_key
  private_no_third =
      rw (before_end_here (63 ∷ followed (decimal row) column) 82, two_fields row column f g, marked_is_no_one (decimal row)) refl

  -- nor is it elsewhere than in row 1 and one of the columns that can be modifiers
  plain_no_third : (row ≢ 1) ⊎ (256 < column) → third_function_key (followed (decimal row) column ++ 82 ∷ []) ≡ None
  unfolding third_function_key
  plain_no_third (inl other) = rw (before_end_here (followed (decimal row) column) 82, two_fields row column f g, no_one row f other) refl
  plain_no_third (inr far) = rw (before_end_here (followed (decimal row) column) 82, two_fields row column f g)
      (none_either_way (is_one_or_missing (decimal row)) (without_manner column g far))

  plain_unasked : (reading : Reading) → IsToldPlainly reading row column
      → unasked_key (is_asking reading) (followed (decimal row) column ++ 82 ∷ []) ≡ None
  plain_unasked reading (inl asked) = (let asks : is_asking reading ≡ true = grind (arith, nat_tests) in rw asks refl)
  plain_unasked reading (inr place) = unasked_none (is_asking reading) (followed (decimal row) column ++ 82 ∷ []) (plain_no_third place)

  pub private_position : (reading : Reading) → ReadsMore reading → IsReadAtOnce reading (CursorPosition row column) (position_text row column true)
  unfolding position_text
  private_position reading reads more =
      let body = 63 ∷ followed (decimal row) column in
      control_means reading body 82 (CursorPosition row column) more reads ((omega arith, omega arith), parameters) (omega arith, omega arith)
      (clear_from body 82 (omega arith)) (omega (arith, length_written body 82, short)) (no_mark (followed (decimal row) column) 82)
      (position_is reading body (unasked_none (is_asking reading) (body ++ 82 ∷ []) private_no_third) private_back)

  -- what is told plainly is free
  unsigned_place : IsUnsigned (followed (decimal row) column) 82
  unsigned_place t e =
      unsigned row (59 ∷ decimal column) 82 f t (ap (λ u. u ++ 82 ∷ []) (sym (append_assoc (decimal row) (59 ∷ []) (decimal column))) ∙ e)

  plain_free : (reading : Reading) → IsToldPlainly reading row column → IsFree reading (written (followed (decimal row) column) 82)
  plain_free reading told m is =
      let found = low_position (followed (decimal row) column) row column m unsigned_place plain_back is in (
        found.0,
        found.1,
        subst IsKeyOrPosition (sym (position_is reading (followed (decimal row) column) (plain_unasked reading told) plain_back)) tt,
      )

  pub plain_position : (reading : Reading) → ReadsMore reading → IsToldPlainly reading row column
      → IsReadAtOnce reading (CursorPosition row column) (position_text row column false)
  unfolding position_text
  plain_position reading reads told more =
      let body = followed (decimal row) column in
      free_means reading body 82 (CursorPosition row column) more reads parameters (omega arith, omega arith)
      (clear_from body 82 (followed_some (decimal row) column)) (omega (arith, length_written body 82, short)) (plain_free reading told)
      (position_is reading body (plain_unasked reading told) plain_back)

  -- Elsewhere it is F3, so it isn't a position.
  is_third : row ≡ 1 → column ≤ 256 → (r : KeyReport) × (third_function_key (followed (decimal row) column ++ 82 ∷ []) ≡ Some r)
  unfolding third_function_key
  is_third first few =
      let m = with_manner column beside.0 g few in
      let one : is_one_or_missing (decimal row) ≡ true = subst (λ n. is_one_or_missing (decimal n) ≡ true) (sym first) one_is_one in (
        report_of (Named (Function 3)) m.0,
        rw (before_end_here (followed (decimal row) column) 82, two_fields row column f g, one, m.1) refl,
      )

  unasked_is_key : (reading : Reading) → is_asking reading ≡ false → row ≡ 1 → column ≤ 256
      → (r : KeyReport) × (event_in reading (written (followed (decimal row) column) 82) ≡ Key r)
  unasked_is_key reading none first few =
      let body = followed (decimal row) column in
      let r = is_third first few in (
        r.0,
        subst (λ asks. event_of asks (written body 82) ≡ Key r.0) (sym none)
            (event_by_third (body ++ 82 ∷ []) r.0 (no_focus body 82 (λ e. omega arith) (λ e. omega arith))
            (no_key body 82 (no_character body 82 (λ e. omega arith)) (λ e. omega arith) refl) r.1),
      )

  pub told_plainly : (reading : Reading) → IsReadAtOnce reading (CursorPosition row column) (position_text row column false)
      → IsToldPlainly reading row column
  unfolding position_text
  told_plainly reading means = go (is_asking reading) (row == 1) (nat_lt 256 column) refl refl refl
    where
      go : (a b d : Bool) → is_asking reading ≡ a → (row == 1) ≡ b → nat_lt 256 column ≡ d → IsToldPlainly reading row column
      go true b d h i j = inl (grind (arith, nat_tests))
      go false false d h i j = inr (inl (λ same. (let one : row ≡ 1 = same in absurd (grind (arith, nat_tests)))))
      go false true true h i j = inr (inr (grind (arith, nat_tests)))
      go false true false h i j =
          let first : row ≡ 1 = grind (arith, nat_tests) in
          let few : column ≤ 256 = grind (arith, nat_tests) in
          let key = unasked_is_key reading h first few in
          let once = means false in
          absurd (no_position reading (written (followed (decimal row) column) 82) once.steps.0 false _ row column key.0 once.steps.1 refl
          once.steps.2 key.1)

pub positions_read_back : PositionsReadBack
positions_read_back reading row column reads above beside = (
  private_position row column above beside reading reads,
  (plain_position row column above beside reading reads, told_plainly row column above beside reading),
)

-- sizes
module _ (rows columns height width : ℕ) (a : rows < 2 ^ 16) (b : columns < 2 ^ 16) (c : height < 2 ^ 16) (d : width < 2 ^ 16) where
  abbrev sizes : List ℕ
  sizes = followed (followed (followed (decimal rows) columns) height) width

  abbrev size_body : List ℕ
  size_body = 52 ∷ 56 ∷ 59 ∷ sizes

  size_parameters : AllByRecursion IsParameter size_body
  size_parameters = (
    (omega arith, omega arith),
    (
      (omega arith, omega arith),
      (
        (omega arith, omega arith),
        followed_parameters _ width d (followed_parameters _ height c (followed_parameters _ columns b (word_parameters rows a))),
      ),
    ),
  )

  size_short : length size_body ≤ 26
  size_short = omega (arith, followed_short _ width 17 d (followed_short _ height 11 c (followed_short (decimal rows) columns 5 b (word_short rows a))))

  size_back : size_of_fields (fields sizes) ≡ Some (Resized rows columns height width)
  size_back = rw (four_fields rows columns height width a b c d, word_back rows a, word_back columns b, word_back height c, word_back width d) refl

  resize_back : resize (size_body ++ 116 ∷ []) ≡ Some (Resized rows columns height width)
  unfolding resize
  resize_back = rw (before_end_here size_body 116) size_back

  size_is : (reading : Reading) → event_in reading (written size_body 116) ≡ Resized rows columns height width
  unfolding reply
  size_is reading =
      event_by_reply (is_asking reading) (size_body ++ 116 ∷ []) (Resized rows columns height width)
      (no_focus size_body 116 (λ e. omega arith) (λ e. omega arith))
      (no_key size_body 116 (no_character size_body 116 (λ e. omega arith)) (λ e. omega arith) refl)
      (unasked_none (is_asking reading) (size_body ++ 116 ∷ []) (no_third size_body 116 (λ e. omega arith)))
      (rw (no_cursor size_body 116 (λ e. omega arith), no_flags size_body 116 (λ e. omega arith), resize_back) refl)

  pub size_read_back : (reading : Reading) → ReadsMore reading → IsReadAtOnce reading (Resized rows columns height width) (size_text rows columns height width)
  unfolding size_text
  size_read_back reading reads more =
      control_means reading size_body 116 (Resized rows columns height width) more reads size_parameters (omega arith, omega arith)
      (clear_from size_body 116 (omega arith)) (omega (arith, length_written size_body 116, size_short))
      (no_report_end size_body 116 refl (λ t e. (let same : ◌≡◌ {A = ℕ} 52 60 = cc (e) in omega arith))) (size_is reading)

-- flags of the keyboard
module _ (flags : ℕ) (small : flags < 2 ^ 8) where
  word : flags < 2 ^ 16
  word = omega arith

  -- what begins with a question mark is no code
  no_scalar : scalar (63 ∷ decimal flags) ≡ None
  unfolding scalar
  no_scalar = rw (no_number 7 0 0x10ffff 63 (decimal flags) refl) refl

  no_code : codes_of (63 ∷ decimal flags) ≡ None
  unfolding codes_of
  no_code = rw (one_part (decimal flags) (digits_of flags word).each, no_scalar) refl

  no_character_flags : character_key (63 ∷ decimal flags ++ 117 ∷ []) ≡ None
  unfolding character_key
  no_character_flags = rw (before_end_here (63 ∷ decimal flags) 117, one_field (decimal flags) (field_of flags word), no_code) refl

  flags_back : keyboard_flags (63 ∷ decimal flags ++ 117 ∷ []) ≡ Some (KeyboardFlags flags)
  unfolding keyboard_flags after_start
  flags_back = rw (before_end_here (63 ∷ decimal flags) 117, number_back 0 255 flags word (omega arith) (omega arith)) refl

  flags_is : (reading : Reading) → event_in reading (written (63 ∷ decimal flags) 117) ≡ KeyboardFlags flags
  unfolding reply
  flags_is reading =
      let body = 63 ∷ decimal flags in
      event_by_reply (is_asking reading) (body ++ 117 ∷ []) (KeyboardFlags flags)
      (no_focus body 117 (λ e. omega arith) (λ e. omega arith)) (no_key body 117 no_character_flags (λ e. omega arith) refl)
      (unasked_none (is_asking reading) (body ++ 117 ∷ []) (no_third body 117 (λ e. omega arith)))
      (rw (no_cursor body 117 (λ e. omega arith), flags_back) refl)

  pub flags_read_back : (reading : Reading) → ReadsMore reading → IsReadAtOnce reading (KeyboardFlags flags) (flags_text flags)
  unfolding flags_text
  flags_read_back reading reads more =
      let body = 63 ∷ decimal flags in
      control_means reading body 117 (KeyboardFlags flags) more reads ((omega arith, omega arith), word_parameters flags word) (omega arith, omega arith)
      (clear_from body 117 (omega arith)) (omega (arith, length_written body 117, word_short flags word)) (no_mark (decimal flags) 117)
      (flags_is reading)
