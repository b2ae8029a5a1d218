-- The middle key of the keypad: the port reads none of its texts as a key, and the extended parser does.
use Rattle.std.proofs.Common.{◌≡◌, ◌∙◌, ℕ, ◌+◌, ◌<◌, Bool, true, false, not, List, [], ◌∷◌, map, Some, refl, sym, subst, arith, Contains, ◌==◌, nat_lt, bytes_eq}
use Rattle.std.specs.Prelude.{if◌then◌else◌}
use Rattle.std.specs.Fmt.{digits}
use Rattle.std.specs.List.{list_all}
use Rattle.std.proofs.lemmas.Bool.Decides.{nat_tests}
use Rattle.std.proofs.lemmas.List.Sums.{AllPass-from_list_all}
use Rattle.std.proofs.lemmas.List.Elements.{All-contains}
use Rattle.std.proofs.lemmas.Slice.Eq.{bytes_eq-Decides}
use Rattle.termwiz_base.specs.Modifiers.{xterm_number}
use Rattle.termwiz_keys.specs.declared.types.KeyCode.TheVariants.{KeyPadBegin}
use Rattle.termwiz_keys.specs.declared.types.KeyEvent.{KeyEvent}
use Rattle.termwiz_keys.specs.declared.encode.KeyCodeEncodeModes.{KeyCodeEncodeModes}
use Rattle.termwiz_keys.specs.Encoding.{enc, keypad_text, keypad_letter_text}
use Rattle.termwiz_grammar.specs.Sequences.{IsSequence}
use Rattle.termwiz_grammar.specs.Sequences.Meaning.{Row, Report}
use Rattle.termwiz_grammar.specs.Table.{TableRow, rows, written_out}
use Rattle.termwiz_grammar.proofs.lemmas.lists.ListMembers.{same_on}
use Rattle.termwiz_grammar.proofs.lemmas.mouse.OneReport.{report_plain}
use Rattle.termwiz_laws.proofs.lemmas.further_keys.ComputedReadings.{enc_written_out}
use Rattle.termwiz_laws.proofs.lemmas.further_keys.FurtherReadings.{bits}
use Rattle.termwiz_extended_events.specs.declared.types.KeyReport.{KeyReport}
use Rattle.termwiz_extended_events.specs.declared.types.KeyEventKind.TheVariants.{Press}
use Rattle.termwiz_extended_events.specs.declared.types.Reading.{Reading}
use Rattle.termwiz_extended_events.specs.declared.types.ReportedKey.TheVariants.{Named}
use Rattle.termwiz_extended_events.specs.declared.types.Event.TheVariants.{Key}
use Rattle.termwiz_extended_events.specs.KeyReports.{report_of}
use Rattle.termwiz_extended_events.specs.Meanings.{event_of}
use Rattle.termwiz_extended_events.proofs.Examples.{written_out as events_written_out}
use Rattle.termwiz_extended_grammar.specs.Forms.{IsForm}
use Rattle.termwiz_extended_grammar.specs.Forms.IsForm.{control}
use Rattle.termwiz_extended_grammar.specs.ExtraSequences.{IsFree}
use Rattle.termwiz_extended_grammar.specs.ExtendedGrammar.{Means}
use Rattle.termwiz_extended_grammar.specs.Readings.{ReadsMore, is_asking}
use Rattle.termwiz_kitty.proofs.lemmas.read_back.SequenceForms.{written, is_control}
use Rattle.termwiz_kitty.proofs.lemmas.read_back.SequencesMean.{means_alone}
use Rattle.termwiz_bindings.specs.declared.press.KeyPress.{KeyPress}
use Rattle.termwiz_bindings.specs.Presses.{canonical, event_report}
use Rattle.termwiz_binding_laws.specs.Twins.{twin, twin_in}
use Rattle.termwiz_binding_laws.specs.EncodedPresses.{any_of_four}
use Rattle.termwiz_binding_laws.proofs.lemmas.KeysRead.{IsReadAsKey}
use Rattle.termwiz_binding_laws.proofs.lemmas.ComputedPresses.{canonical_written_out}

-- what it sends
abbrev begin_text : ℕ → List ℕ
begin_text held = if xterm_number held == 0 then written [] 69 else written (49 ∷ 59 ∷ (49 + xterm_number held) ∷ []) 69

abbrev begin_report : ℕ → KeyReport
begin_report held = report_of (Named KeyPadBegin) (record { modifiers = xterm_number held; kind = Press })

abbrev begin_press : ℕ → KeyPress
begin_press held = record { key = Named KeyPadBegin; held = xterm_number held }

begin_sent : (modes : KeyCodeEncodeModes) → map (λ held. enc KeyPadBegin (bits held) modes) any_of_four
    ≡ map (λ held. Some (begin_text held)) any_of_four
unfolding enc_written_out keypad_text keypad_letter_text digits
begin_sent modes = refl

begin_events : (asks : Bool) → map (λ held. event_of asks (begin_text held)) any_of_four ≡ map (λ held. Key (begin_report held)) any_of_four
unfolding events_written_out
begin_events true = refl
begin_events false = refl

begin_read : map (λ held. canonical (begin_report held)) any_of_four ≡ map (λ held. Some (begin_press held)) any_of_four
unfolding canonical_written_out
begin_read = refl

begin_twins : (modes : KeyCodeEncodeModes) → map (λ held. canonical (event_report (twin KeyPadBegin held modes))) any_of_four
    ≡ map (λ held. Some (begin_press held)) any_of_four
unfolding canonical_written_out twin_in
begin_twins modes = refl

-- no row is such a text
abbrev is_no_row : ℕ → Bool
is_no_row held = list_all (λ (r : TableRow). not (bytes_eq r.0 (begin_text held))) rows

no_rows : list_all is_no_row any_of_four ≡ true
unfolding written_out
no_rows = refl

abbrev is_small : ℕ → Bool
is_small held = nat_lt (xterm_number held) 8

all_small : list_all is_small any_of_four ≡ true
all_small = refl

pub small_number : (held : ℕ) → Contains any_of_four held → xterm_number held < 8
small_number held here =
    let test : nat_lt (xterm_number held) 8 ≡ true =
    All-contains (λ h. is_small h ≡ true) any_of_four held (AllPass-from_list_all is_small any_of_four all_small) here in
    grind (arith, nat_tests)

no_mouse : (b : Bool) (n : ℕ) (t : List ℕ)
    → (if b then written [] 69 else written (49 ∷ 59 ∷ (49 + n) ∷ []) 69) ≡ 27 ∷ 91 ∷ 60 ∷ t → ⊥
no_mouse true n t e = (let same : ◌≡◌ {A = ℕ} 69 60 = cc (e) in omega arith)
no_mouse false n t e = (let same : ◌≡◌ {A = ℕ} 49 60 = cc (e) in omega arith)

module _ (held : ℕ) (here : Contains any_of_four held) where
  row_free : (k : KeyEvent) → Contains rows (begin_text held, k) → ⊥
  row_free k row =
      let test : is_no_row held ≡ true =
      All-contains (λ h. is_no_row h ≡ true) any_of_four held (AllPass-from_list_all is_no_row any_of_four no_rows) here in
      let differs : not (bytes_eq (begin_text held) (begin_text held)) ≡ true =
      All-contains (λ (r : TableRow). not (bytes_eq r.0 (begin_text held)) ≡ true) rows (begin_text held, k)
      (AllPass-from_list_all (λ (r : TableRow). not (bytes_eq r.0 (begin_text held))) rows test) row in
      let same : bytes_eq (begin_text held) (begin_text held) ≡ true = (bytes_eq-Decides (begin_text held) (begin_text held)).1 refl in
      cc (subst (λ b. not b ≡ true) same differs)

  free : (reading : Reading) → IsFree reading (begin_text held)
  unfolding IsSequence
  free reading (Row k) sequence = absurd (row_free k sequence)
  free reading (Report report) sequence =
      let plain = report_plain (begin_text held) report sequence in
      absurd (no_mouse (xterm_number held == 0) (xterm_number held) plain.0 plain.1)

  form : (x10_mouse : Bool) → IsForm x10_mouse (begin_text held)
  form x10_mouse = go (xterm_number held == 0)
    where
      small : xterm_number held < 8
      small = small_number held here

      go : (b : Bool) → IsForm x10_mouse (if b then written [] 69 else written (49 ∷ 59 ∷ (49 + xterm_number held) ∷ []) 69)
      go true = control (is_control [] 69 tt (omega arith, omega arith, (λ same. omega arith), (λ same. omega arith)) (omega arith))
      go false = control (is_control (49 ∷ 59 ∷ (49 + xterm_number held) ∷ []) 69
          ((omega arith, omega arith), ((omega arith, omega arith), ((omega arith, omega (arith, small)), tt)))
          (omega arith, omega arith, (λ same. omega arith), (λ same. omega arith)) (omega arith))

  event : (asks : Bool) → event_of asks (begin_text held) ≡ Key (begin_report held)
  event asks = same_on (λ h. event_of asks (begin_text h)) (λ h. Key (begin_report h)) any_of_four held (begin_events asks) here

-- its text is read as that key, which is its twin but for SUPER
pub begin_is_read : (reading : Reading) (held : ℕ) (modes : KeyCodeEncodeModes) (text : List ℕ) → ReadsMore reading
    → Contains any_of_four held → enc KeyPadBegin (bits held) modes ≡ Some text → IsReadAsKey reading text (twin KeyPadBegin held modes)
begin_is_read reading held modes text reads here sends = (
  begin_press held,
  same_on (λ h. canonical (event_report (twin KeyPadBegin h modes))) (λ h. Some (begin_press h)) any_of_four held (begin_twins modes) here,
  (
    Key (begin_report held),
    subst (λ t. Means reading t false (Key (begin_report held) ∷ []) []) same
        (means_alone reading (begin_text held) false (Key (begin_report held)) (record {
          reads = reads;
          is_form = form held here reading.x10_mouse;
          is_free = free held here reading;
          means = sym (event held here (is_asking reading));
        })),
    same_on (λ h. canonical (begin_report h)) (λ h. Some (begin_press h)) any_of_four held begin_read here,
  ),
)
  where
    same : begin_text held ≡ text
    same =
        let e : Some (begin_text held) ≡ Some text =
        sym (same_on (λ h. enc KeyPadBegin (bits h) modes) (λ h. Some (begin_text h)) any_of_four held (begin_sent modes) here) ∙ sends in
        cc (e)
