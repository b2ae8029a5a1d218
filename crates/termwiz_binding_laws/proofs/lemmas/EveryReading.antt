-- A text that the port reads as one key has the same press by the extended grammar, where the reports that it may be have that press.
use Rattle.std.proofs.Common.{◌≡◌, inl, ℕ, ◌≤◌, Bool, true, false, not, ◌&&◌, ◌==◌, List, [], ◌∷◌, ◌++◌, length, drop, nat_le, Option, Some, None, refl, sym, ap, ◌∙◌, subst, arith, append-nil}
use Rattle.std.specs.Prelude.{option_and_then, unwrap_or}
use Rattle.std.specs.List.{AllByRecursion}
use Rattle.std.proofs.lemmas.Bool.{and_parts}
use Rattle.std.proofs.lemmas.Bool.Decides.{nat_tests}
use Rattle.termwiz_keys.specs.Introducers.{ESC}
use Rattle.termwiz_keys.specs.declared.types.KeyEvent.{KeyEvent}
use Rattle.termwiz_keys.specs.declared.types.InputEvent.TheVariants as input
use Rattle.termwiz_grammar.specs.Grammar as port
use Rattle.termwiz_laws.proofs.lemmas.further_keys.SingleKey.{single}
use Rattle.termwiz_extended_events.specs.declared.types.Event.{Event}
use Rattle.termwiz_extended_events.specs.declared.types.Event.TheVariants.{Key, Mouse, Paste, FocusGained, FocusLost, CursorPosition, Resized, KeyboardFlags, Csi, Osc, Dcs, Apc, StringPart, StringCut}
use Rattle.termwiz_extended_events.specs.declared.types.Dialect.{Dialect}
use Rattle.termwiz_extended_events.specs.declared.types.Dialect.TheVariants.{Extended, Termwiz}
use Rattle.termwiz_extended_events.specs.declared.types.Reading.{Reading}
use Rattle.termwiz_extended_events.specs.PortEvents.{pressed_key, told, typed_key, typed_byte, decided_key, with_key}
use Rattle.termwiz_extended_events.specs.Meanings.{event_of, IsKey, IsKeyOrPosition}
use Rattle.termwiz_extended_grammar.specs.ExtraSequences.{IsExtra, with_alt}
use Rattle.termwiz_extended_grammar.specs.ExtendedGrammar.Stands.{alt_key}
use Rattle.termwiz_extended_grammar.specs.Readings.{ReadsMore, after_event, event_in, first_reading, is_asking}
use Rattle.termwiz_extended_grammar.proofs.lemmas.items.ExtendedRests.{empty_is_rest}
use Rattle.termwiz_kitty.proofs.lemmas.legacy.ReadAsOne.{IsReportText, ReadAs, read_as, row_is}
use Rattle.termwiz_kitty.proofs.lemmas.legacy.ReadAsOne.ReadAs.{as_key, as_report, apart}
use Rattle.termwiz_kitty.proofs.lemmas.read_back.SequenceForms.{IsParameter, IsKeyEnd, written, is_extra}
use Rattle.termwiz_kitty.proofs.lemmas.read_back.SequencesMean.{means_alone}
use Rattle.termwiz_bindings.specs.declared.press.KeyPress.{KeyPress}
use Rattle.termwiz_bindings.specs.Presses.{canonical}
use Rattle.termwiz_binding_laws.specs.EncodedPresses.{HasFirstSettings, press_of_event, IsReadAsPress}
use Rattle.termwiz_binding_laws.proofs.lemmas.RowReports.{behind_row}

-- the press of a report, or else another one; a position has none
abbrev pub report_press : Event → Option KeyPress → Option KeyPress
report_press (Key r) other = canonical r
report_press (CursorPosition row column) other = None
report_press event other = other

-- the same of a row, which is always left to the port by its own grammar
abbrev pub row_press : Dialect → Event → Option KeyPress → Option KeyPress
row_press Termwiz event other = other
row_press Extended event other = report_press event other

-- parameters and a last byte, behind ESC [
abbrev pub is_body : List ℕ → Bool
is_body [] = false
is_body (l ∷ []) = nat_le 64 l && nat_le l 126 && not (l == 77) && not (l == 91)
is_body (b ∷ t) = nat_le 48 b && nat_le b 59 && is_body t

abbrev pub is_written : List ℕ → Bool
is_written (escape ∷ bracket ∷ t) = (escape == 27) && (bracket == 91) && is_body t && nat_le (length (escape ∷ bracket ∷ t)) 256
is_written text = false

abbrev pub is_key : Event → Bool
is_key (Key r) = true
is_key event = false

-- such a text is always the report of a key, if it is one
abbrev pub is_report : Dialect → Bool → List ℕ → Bool
is_report Termwiz asks text = false
is_report Extended asks text = is_written text && is_key (event_of asks text)

-- the port's key as it is told by a parser with its first settings
abbrev pub told_by : Dialect → List ℕ → KeyEvent → KeyEvent
told_by dialect text k = with_key k (typed_key dialect (first_reading dialect) text k.key)

-- whatever the text is read as, by this grammar and while a question is open or not, it has this press
pub record IsToldAlike (dialect : Dialect) (asks : Bool) (text : List ℕ) (k : KeyEvent) (press : KeyPress) : Type 0 where
  pub as_key : is_report dialect asks text ≡ false → canonical (pressed_key (told_by dialect text k)) ≡ Some press
  pub as_report : row_press dialect (event_of asks text) (Some press) ≡ Some press
  pub after_escape : row_press dialect (with_alt (event_of asks (drop 1 text))) (Some press) ≡ Some press

-- with its first settings a reading tells a key so
pub told_at_first : (reading : Reading) → HasFirstSettings reading → (text : List ℕ) (k : KeyEvent)
    → told reading text (input.Key k) ≡ Key (pressed_key (told_by Extended text k))
told_at_first reading first text k = ap (λ key. Key (pressed_key (with_key k key))) typed
  where
    decided : (b : Option ℕ) → option_and_then (decided_key reading) b ≡ option_and_then (decided_key (first_reading Extended)) b
    decided None = refl
    decided (Some b) = rw (first.erase, first.newline) refl

    typed : typed_key reading.dialect reading text k.key ≡ typed_key Extended (first_reading Extended) text k.key
    typed = ap (λ d. typed_key d reading text k.key) first.reads ∙ ap (λ o. unwrap_or o k.key) (decided (typed_byte text))

reported : (e : Event) (p : KeyPress) → IsKeyOrPosition e → report_press e (Some p) ≡ Some p → press_of_event e ≡ Some p
reported (Key r) p h k = k
reported (CursorPosition row column) p h k = absurd (cc (k))
reported (Mouse report) p h k = absurd h
reported (Paste text) p h k = absurd h
reported FocusGained p h k = absurd h
reported FocusLost p h k = absurd h
reported (Resized a b c d) p h k = absurd h
reported (KeyboardFlags flags) p h k = absurd h
reported (Csi bytes) p h k = absurd h
reported (Osc bytes) p h k = absurd h
reported (Dcs bytes) p h k = absurd h
reported (Apc bytes) p h k = absurd h
reported (StringPart kind bytes) p h k = absurd h
reported (StringCut kind bytes) p h k = absurd h

-- the same of a report after an ESC: it is a key
record IsKeyOf (e : Event) (p : KeyPress) : Type 0 where
  is_key : IsKey e
  press : press_of_event (with_alt e) ≡ Some p

joined : (e : Event) (p : KeyPress) → IsKeyOrPosition e → report_press (with_alt e) (Some p) ≡ Some p → IsKeyOf e p
joined (Key r) p h k = record { is_key = tt; press = k }
joined (CursorPosition row column) p h k = absurd (cc (k))
joined (Mouse report) p h k = absurd h
joined (Paste text) p h k = absurd h
joined FocusGained p h k = absurd h
joined FocusLost p h k = absurd h
joined (Resized a b c d) p h k = absurd h
joined (KeyboardFlags flags) p h k = absurd h
joined (Csi bytes) p h k = absurd h
joined (Osc bytes) p h k = absurd h
joined (Dcs bytes) p h k = absurd h
joined (Apc bytes) p h k = absurd h
joined (StringPart kind bytes) p h k = absurd h
joined (StringCut kind bytes) p h k = absurd h

-- a body and its last byte
record IsBody (t : List ℕ) : Type 0 where
  body : List ℕ
  last : ℕ
  split : t ≡ body ++ last ∷ []
  parameters : AllByRecursion IsParameter body
  end : IsKeyEnd last

body_is : (t : List ℕ) → is_body t ≡ true → IsBody t
body_is [] e = absurd (cc (e))
body_is (l ∷ []) e =
    let a = and_parts (nat_le 64 l && nat_le l 126 && not (l == 77)) (not (l == 91)) e in
    let b = and_parts (nat_le 64 l && nat_le l 126) (not (l == 77)) a.0 in
    let c = and_parts (nat_le 64 l) (nat_le l 126) b.0 in
    let low : nat_le 64 l ≡ true = c.0 in
    let high : nat_le l 126 ≡ true = c.1 in
    let mouse : not (l == 77) ≡ true = b.1 in
    let console : not (l == 91) ≡ true = a.1 in
    record {
      body = [];
      last = l;
      split = refl;
      parameters = tt;
      end = (grind (arith, nat_tests), grind (arith, nat_tests), grind (arith, nat_tests), grind (arith, nat_tests));
    }
body_is (b ∷ c ∷ t) e =
    let x = and_parts (nat_le 48 b && nat_le b 59) (is_body (c ∷ t)) e in
    let y = and_parts (nat_le 48 b) (nat_le b 59) x.0 in
    let low : nat_le 48 b ≡ true = y.0 in
    let high : nat_le b 59 ≡ true = y.1 in
    let is = body_is (c ∷ t) x.1 in
    record {
      body = b ∷ is.body;
      last = is.last;
      split = ap (λ u. b ∷ u) is.split;
      parameters = ((grind (arith, nat_tests), grind (arith, nat_tests)), is.parameters);
      end = is.end;
    }

record IsWritten (text : List ℕ) : Type 0 where
  body : List ℕ
  last : ℕ
  split : text ≡ written body last
  parameters : AllByRecursion IsParameter body
  end : IsKeyEnd last
  short : length text ≤ 256

written_is : (text : List ℕ) → is_written text ≡ true → IsWritten text
written_is [] e = absurd (cc (e))
written_is (x ∷ []) e = absurd (cc (e))
written_is (x ∷ y ∷ t) e =
    let a = and_parts ((x == 27) && (y == 91) && is_body t) (nat_le (length (x ∷ y ∷ t)) 256) e in
    let b = and_parts ((x == 27) && (y == 91)) (is_body t) a.0 in
    let c = and_parts (x == 27) (y == 91) b.0 in
    let first : (x == 27) ≡ true = c.0 in
    let second : (y == 91) ≡ true = c.1 in
    let escape : x ≡ 27 = grind (arith, nat_tests) in
    let bracket : y ≡ 91 = grind (arith, nat_tests) in
    let few : nat_le (length (x ∷ y ∷ t)) 256 ≡ true = a.1 in
    let is = body_is t b.1 in
    record {
      body = is.body;
      last = is.last;
      split = cc (escape, bracket, is.split);
      parameters = is.parameters;
      end = is.end;
      short = grind (arith, nat_tests);
    }

key_is : (e : Event) → is_key e ≡ true → IsKeyOrPosition e
key_is (Key r) is = tt
key_is (CursorPosition row column) is = tt
key_is FocusGained is = absurd (cc (is))
key_is FocusLost is = absurd (cc (is))
key_is (Mouse report) is = absurd (cc (is))
key_is (Paste text) is = absurd (cc (is))
key_is (Resized a b c d) is = absurd (cc (is))
key_is (KeyboardFlags flags) is = absurd (cc (is))
key_is (Csi bytes) is = absurd (cc (is))
key_is (Osc bytes) is = absurd (cc (is))
key_is (Dcs bytes) is = absurd (cc (is))
key_is (Apc bytes) is = absurd (cc (is))
key_is (StringPart kind bytes) is = absurd (cc (is))
key_is (StringCut kind bytes) is = absurd (cc (is))

-- what is always a report is read as that report
report_read : (reading : Reading) (text : List ℕ) (p : KeyPress) → ReadsMore reading → is_written text ≡ true
    → is_key (event_in reading text) ≡ true → report_press (event_in reading text) (Some p) ≡ Some p → IsReadAsPress reading text p
report_read reading text p reads form key told' =
    let is = written_is text form in
    let reports = key_is (event_in reading text) key in (
      event_in reading text,
      means_alone reading text false (event_in reading text)
          (subst (λ u. length u ≤ 256 → IsExtra reading u (event_in reading u)) (sym is.split)
          (λ short. is_extra reading is.body is.last (event_in reading (written is.body is.last)) reads is.parameters is.end short
          (subst (λ u. IsKeyOrPosition (event_in reading u)) is.split reports) refl) is.short),
      reported (event_in reading text) p reports told',
    )

pub read_anywhere : (reading : Reading) (text : List ℕ) (k : KeyEvent) (p : KeyPress) → HasFirstSettings reading
    → port.Means text false (input.Key k ∷ []) [] → IsToldAlike Extended (is_asking reading) text k p → IsReadAsPress reading text p
read_anywhere reading text k p first means alike = by (is_report Extended (is_asking reading) text) refl
  where
    behind : (v : List ℕ) → text ≡ ESC ++ v → IsReportText reading v → IsReadAsPress reading text p
    behind v split is =
        let same : drop 1 text ≡ v = ap (drop 1) split in
        let row = behind_row reading text v k split (single text k means) is in
        let told' = joined (event_in reading v) p is.reports
        (subst (λ u. report_press (with_alt (event_in reading u)) (Some p) ≡ Some p) same alike.after_escape) in (
          with_alt (event_in reading v),
          record {
            steps = (
              [],
              alt_key v [] (event_in reading v) is.is_extra
                  (record { is_key = told'.is_key; layout = inl (row.0, row_is v row.0 row.1) })
                  (split ∙ ap (λ u. ESC ++ u) (sym (append-nil v))),
              refl,
            );
            rest = empty_is_rest (after_event reading (with_alt (event_in reading v))) false;
          },
          told'.press,
        )

    go : is_report Extended (is_asking reading) text ≡ false → ReadAs reading text k false → IsReadAsPress reading text p
    go other (as_key it) =
        (told reading text (input.Key k), it, ap press_of_event (told_at_first reading first text k) ∙ alike.as_key other)
    go other (as_report is it) = (event_in reading text, it, reported (event_in reading text) p is.reports alike.as_report)
    go other (apart v split is) = behind v split is

    by : (b : Bool) → is_report Extended (is_asking reading) text ≡ b → IsReadAsPress reading text p
    by true is =
        let both = and_parts (is_written text) (is_key (event_in reading text)) is in
        report_read reading text p first.reads both.0 both.1 alike.as_report
    by false other = go other (read_as reading text k false (record {
      flushed = means;
      means = means;
      closed = λ h. cc (h.more_comes);
      closed_after = λ v split h. cc (h.more_comes);
    }))
