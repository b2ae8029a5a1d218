-- A key that is sent by the port's encoder is told as its twins.
use Rattle.std.proofs.Common.{◌≡◌, ◌≢◌, ℕ, Bool, true, false, not, ◌&&◌, ◌||◌, List, [], ◌∷◌, ◌++◌, map, flat_map, Some, refl, sym, ap, ◌∙◌, subst, arith, append_assoc, append-nil, bytes_eq, Contains, lit<}
use Rattle.std.specs.Prelude.{if◌then◌else◌}
use Rattle.std.proofs.Math.Utf8.{low_scalar}
use Rattle.std.proofs.lemmas.Bool.{and_parts, not-true}
use Rattle.termwiz_keys.specs.declared.types.KeyCode.{KeyCode}
use Rattle.termwiz_keys.specs.declared.types.KeyCode.TheVariants.{Char, Enter}
use Rattle.termwiz_keys.specs.declared.encode.KeyCodeEncodeModes.{KeyCodeEncodeModes}
use Rattle.termwiz_keys.specs.Encoding.{enc, escape_if_alt, key_text, normal_key, normal_held, shows_shift, named_key, enter_text, sideless}
use Rattle.termwiz_keys.specs.KeyCodes.{holds, shifted}
use Rattle.termwiz_keys.specs.Introducers.{ESC}
use Rattle.termwiz_keys.specs.Keys.{NONE, ALT, SHIFT, CTRL, key_with}
use Rattle.termwiz_grammar.proofs.lemmas.lists.ListMembers.{same_on}
use Rattle.termwiz_laws.proofs.lemmas.further_keys.ComputedReadings.{enc_written_out}
use Rattle.termwiz_extended_events.specs.declared.types.Event.{Event}
use Rattle.termwiz_extended_events.specs.declared.types.Event.TheVariants.{Key}
use Rattle.termwiz_extended_events.specs.declared.types.KeyReport.{KeyReport}
use Rattle.termwiz_extended_events.specs.declared.types.Reading.{Reading}
use Rattle.termwiz_extended_events.specs.PortEvents.{pressed_key}
use Rattle.termwiz_extended_grammar.specs.ExtendedGrammar.{Means}
use Rattle.termwiz_extended_grammar.specs.Readings.{is_asking}
use Rattle.termwiz_extended_grammar.proofs.lemmas.cuts.ExtendedCuts.{cut_independent}
use Rattle.termwiz_extended_grammar.proofs.lemmas.items.ExtendedRests.{empty_is_rest}
use Rattle.termwiz_kitty.proofs.lemmas.PortKeys.{xterm_modes}
use Rattle.termwiz_timed.proofs.lemmas.ReadsCut.{means_once}
use Rattle.termwiz_event_laws.specs.EventLaws.{waiting_texts}
use Rattle.termwiz_bindings.specs.declared.press.KeyPress.{KeyPress}
use Rattle.termwiz_bindings.specs.Presses.{canonical}
use Rattle.termwiz_binding_laws.specs.EncodedPresses.{HasFirstSettings, any_of_four, is_newline, is_position, press_of_key}
use Rattle.termwiz_binding_laws.specs.SentPresses.{IsSentKey, key_twins}
use Rattle.termwiz_binding_laws.specs.Twins.{only_alt, twin}
use Rattle.termwiz_binding_laws.proofs.lemmas.EncodedKeys.{presses_of_encoded_keys}
use Rattle.termwiz_binding_laws.proofs.lemmas.NewlineEnters.{newlines_are_two_keys}
use Rattle.termwiz_press_laws.specs.Things.{IsToldAs, told_of_report}
use Rattle.termwiz_press_laws.proofs.lemmas.OneKeyAtOnce.{IsWhole, key_at_once}
use Rattle.termwiz_press_laws.proofs.lemmas.ToldReports.{one_key, press_is, press_tells}
use Rattle.termwiz_press_laws.proofs.lemmas.WholeTexts.{encoded_whole}

-- a key that is read as one, with more to come or not
pub record IsOneKey (reading : Reading) (text : List ℕ) (p : KeyPress) (more : Bool) : Type 0 where
  pub report : KeyReport
  pub means : Means reading text more (Key report ∷ []) []
  pub press : canonical report ≡ Some p

-- What a flush reads as one press is that at once, but for the texts that wait.
pub at_once : (reading : Reading) (text : List ℕ) (p : KeyPress) (more : Bool) → IsWhole text → IsOneKey reading text p false
    → (more ≡ true → ¬ Contains waiting_texts text) → IsOneKey reading text p more
at_once reading text p false whole is waits = is
at_once reading text p true whole is waits =
    record { report = is.report; means = key_at_once reading text is.report whole is.means (waits refl); press = is.press }

module _ (reading : Reading) (first : HasFirstSettings reading) where
  -- what is sent for a key
  record IsKeyRead (key : KeyCode) (held : ℕ) (modes : KeyCodeEncodeModes) (text : List ℕ) (more : Bool) : Type 0 where
    press : KeyPress
    twins : press_of_key (twin key held modes) ≡ Some press
    one : IsOneKey reading text press more

  key_read : (key : KeyCode) (held : ℕ) (modes : KeyCodeEncodeModes) (text : List ℕ) (more : Bool) → IsSentKey key
      → Contains any_of_four held → is_newline key held modes ≡ false → (is_position key held && is_asking reading) ≡ false
      → enc key (record { 0 = held }) modes ≡ Some text → text ≢ [] → (more ≡ true → ¬ Contains waiting_texts text)
      → IsKeyRead key held modes text more
  key_read key held modes text more is set newline apart sends some waits =
      let read = presses_of_encoded_keys reading key held modes text first is set newline apart sends some in
      let event = press_is read.2.0 read.0 read.2.2 in
      let flushed : IsOneKey reading text read.0 false = record {
        report = event.report;
        means = subst (λ e. Means reading text false (e ∷ []) []) event.is_key read.2.1;
        press = event.press;
      } in
      record {
        press = read.0;
        twins = read.1;
        one = at_once reading text read.0 more (encoded_whole key held modes text is sends) flushed waits;
      }

  -- Enter in newline mode sends a carriage return, after an ESC or not, and a line feed.
  abbrev return_text : ℕ → List ℕ
  return_text held = escape_if_alt held ++ 13 ∷ []

  return_sent : (held : ℕ) (modes : KeyCodeEncodeModes) → sideless held ≡ held → (holds held SHIFT || holds held CTRL) ≡ false
      → modes.newline_mode ≡ false → enc Enter (record { 0 = held }) modes ≡ Some (return_text held)
  unfolding enc key_text normal_key normal_held shows_shift named_key shifted enter_text
  return_sent held modes sides plain newline = rw (sides, plain, newline) refl

  both_sent : (held : ℕ) (modes : KeyCodeEncodeModes) → sideless held ≡ held → (holds held SHIFT || holds held CTRL) ≡ false
      → modes.newline_mode ≡ true → enc Enter (record { 0 = held }) modes ≡ Some (escape_if_alt held ++ 13 ∷ 10 ∷ [])
  unfolding enc key_text normal_key normal_held shows_shift named_key shifted enter_text
  both_sent held modes sides plain newline = rw (sides, plain, newline) refl

  feed_sent : enc (Char 10) (record { 0 = NONE }) xterm_modes ≡ Some (10 ∷ [])
  unfolding enc_written_out
  feed_sent = refl

  no_sides : map sideless any_of_four ≡ map (λ held. held) any_of_four
  no_sides = refl

  -- none of these texts waits
  abbrev is_line : List ℕ → Bool
  is_line text = bytes_eq text (13 ∷ []) || (bytes_eq text (27 ∷ 13 ∷ []) || bytes_eq text (10 ∷ []))

  none_waits : map is_line waiting_texts ≡ map (λ text. false) waiting_texts
  none_waits = refl

  line_at_once : (text : List ℕ) → is_line text ≡ true → ¬ Contains waiting_texts text
  line_at_once text line waits =
      (let none : is_line text ≡ false = same_on is_line (λ t. false) waiting_texts text none_waits waits in cc (line, none))

  return_line : (held : ℕ) → is_line (return_text held) ≡ true
  return_line held = go (holds held ALT)
    where
      go : (b : Bool) → is_line ((if b then ESC else []) ++ 13 ∷ []) ≡ true
      go true = refl
      go false = refl

  return_some : (held : ℕ) → return_text held ≢ []
  return_some held = go (holds held ALT)
    where
      go : (b : Bool) → (if b then ESC else []) ++ 13 ∷ [] ≢ []
      go true e = cc (e)
      go false e = cc (e)

  module _ (held : ℕ) (modes : KeyCodeEncodeModes) (text : List ℕ) (set : Contains any_of_four held)
      (newline : is_newline Enter held modes ≡ true) (sends : enc Enter (record { 0 = held }) modes ≡ Some text) where
    parts : (modes.newline_mode ≡ true) × (not (holds held SHIFT || holds held CTRL) ≡ true)
    parts = and_parts modes.newline_mode (not (holds held SHIFT || holds held CTRL)) newline

    plain : (holds held SHIFT || holds held CTRL) ≡ false
    plain = not-true (holds held SHIFT || holds held CTRL) parts.1

    sides : sideless held ≡ held
    sides = same_on sideless (λ h. h) any_of_four held no_sides set

    text_is : return_text held ++ 10 ∷ [] ≡ text
    text_is =
        let e : Some (escape_if_alt held ++ 13 ∷ 10 ∷ []) ≡ Some text = sym (both_sent held modes sides plain parts.0) ∙ sends in
        append_assoc (escape_if_alt held) (13 ∷ []) (10 ∷ []) ∙ cc (e)

    abbrev off : KeyCodeEncodeModes
    off = record modes { newline_mode = false }

    enter_read : IsKeyRead Enter held off (return_text held) true
    enter_read = key_read Enter held off (return_text held) true tt set refl refl
        (return_sent held off sides plain refl) (return_some held) (λ e. line_at_once (return_text held) (return_line held))

    feed_read : (more : Bool) → IsKeyRead (Char 10) NONE xterm_modes (10 ∷ []) more
    feed_read more = key_read (Char 10) NONE xterm_modes (10 ∷ []) more (low_scalar 10 (omega arith), (λ e. omega (arith, e)))
        (0, lit< tt, refl) refl refl feed_sent (λ e. cc (e)) (λ e. line_at_once (10 ∷ []) refl)

    abbrev pub twins_of : List Event
    twins_of = Key (pressed_key (key_with Enter (only_alt held))) ∷ Key (pressed_key (key_with (Char 10) NONE)) ∷ []

    joined : (more : Bool) → Means reading text more (Key enter_read.one.report ∷ Key (feed_read more).one.report ∷ []) []
    joined more =
        subst (λ t. Means reading t more (Key enter_read.one.report ∷ Key (feed_read more).one.report ∷ []) []) text_is
        (cut_independent reading (return_text held) (10 ∷ []) [] [] (Key enter_read.one.report ∷ []) (Key (feed_read more).one.report ∷ []) more
        enter_read.one.means (feed_read more).one.means)

    two_read : (more : Bool) → Means reading text more twins_of []
    two_read false = newlines_are_two_keys reading held modes text first set newline sends
    two_read true = go (means_once reading text false twins_of (Key enter_read.one.report ∷ Key (feed_read false).one.report ∷ []) [] []
        (newlines_are_two_keys reading held modes text first set newline sends) (joined false)).0
      where
        go : twins_of ≡ Key enter_read.one.report ∷ Key (feed_read false).one.report ∷ [] → Means reading text true twins_of []
        go e = subst (λ events. Means reading text true events []) (sym (e ∙ feeds)) (joined true)
          where
            flushed : Means reading (10 ∷ []) false (Key (feed_read true).one.report ∷ []) []
            flushed =
                cut_independent reading (10 ∷ []) [] [] [] (Key (feed_read true).one.report ∷ []) [] false (feed_read true).one.means
                (record { steps = refl; rest = empty_is_rest reading false })

            feeds : Key enter_read.one.report ∷ Key (feed_read false).one.report ∷ [] ≡ Key enter_read.one.report ∷ Key (feed_read true).one.report ∷ []
            feeds = ap (λ (events : List Event). Key enter_read.one.report ∷ events)
                (means_once reading (10 ∷ []) false (Key (feed_read false).one.report ∷ []) (Key (feed_read true).one.report ∷ []) [] []
                (feed_read false).one.means flushed).0

  -- by whether it is a newline
  abbrev Twins : KeyCode → ℕ → KeyCodeEncodeModes → Bool → List KeyReport
  Twins key held modes b =
      if b then pressed_key (key_with Enter (only_alt held)) ∷ pressed_key (key_with (Char 10) NONE) ∷ []
      else pressed_key (twin key held modes) ∷ []

  newline_told : (key : KeyCode) (held : ℕ) (modes : KeyCodeEncodeModes) (text : List ℕ) (more : Bool) → Contains any_of_four held
      → is_newline key held modes ≡ true → enc key (record { 0 = held }) modes ≡ Some text
      → IsToldAs reading text more (flat_map told_of_report (Twins key held modes true)) reading
  newline_told Enter held modes text more set newline sends = record {
    events = Key (pressed_key (key_with Enter (only_alt held))) ∷ Key (pressed_key (key_with (Char 10) NONE)) ∷ [];
    means = two_read held modes text set newline sends more;
    tells = refl;
    leaves = refl;
  }
  newline_told key held modes text more set newline sends = absurd (cc (newline))

  pub port_told : (key : KeyCode) (held : ℕ) (modes : KeyCodeEncodeModes) (text : List ℕ) (more : Bool) → IsSentKey key
      → Contains any_of_four held → (is_position key held && is_asking reading) ≡ false
      → enc key (record { 0 = held }) modes ≡ Some text → text ≢ [] → (more ≡ true → ¬ Contains waiting_texts text)
      → IsToldAs reading text more (flat_map told_of_report (key_twins key held modes)) reading
  port_told key held modes text more is set apart sends some waits = go (is_newline key held modes) refl
    where
      go : (b : Bool) → is_newline key held modes ≡ b
          → IsToldAs reading text more (flat_map told_of_report (Twins key held modes (is_newline key held modes))) reading
      go true newline = subst (λ b. IsToldAs reading text more (flat_map told_of_report (Twins key held modes b)) reading) (sym newline)
          (newline_told key held modes text more set newline sends)
      go false one = subst (λ b. IsToldAs reading text more (flat_map told_of_report (Twins key held modes b)) reading) (sym one)
          (let read = key_read key held modes text more is set one apart sends some waits in
          one_key reading text more (flat_map told_of_report (pressed_key (twin key held modes) ∷ [])) read.one.report read.one.means
          (press_tells read.one.report read.press read.one.press
          ∙ sym (append-nil (told_of_report (pressed_key (twin key held modes)))
          ∙ press_tells (pressed_key (twin key held modes)) read.press read.twins)))
