-- A mouse report in SGR's encoding is read back by both parsers.
use Rattle.std.proofs.Common.{◌≡◌, ◌≢◌, inl, inr, ⊎_elim, ℕ, ◌+◌, ◌^◌, ◌<◌, ◌≤◌, Bool, true, false, List, [], ◌∷◌, refl, sym, ap, ap₂, ◌∙◌, subst, arith, append_assoc, append-nil, decimal, Some}
use Rattle.std.specs.Prelude.{◌==◌, ◌++◌, slice_get, unwrap_or, if◌then◌else◌}
use Rattle.std.specs.Int.RustNames.{bit_and}
use Rattle.termwiz_base.specs.Mouse.{IsFinal, final_release, button_of, modifiers_of, report_of}
use Rattle.termwiz_base.specs.declared.mouse.MouseReport.{MouseReport}
use Rattle.termwiz_base.specs.declared.mouse.MouseReport.TheVariants.{SGR1006}
use Rattle.termwiz_keys.specs.Buttons.{buttons_of}
use Rattle.termwiz_keys.specs.Keys.{SHIFT, ALT, CTRL}
use Rattle.termwiz_keys.specs.declared.types.MouseEvent.{MouseEvent}
use Rattle.termwiz_keys.specs.declared.types.InputEvent.TheVariants.{Mouse}
use Rattle.termwiz_grammar.specs.Grammar as port
use Rattle.termwiz_grammar.specs.Grammar.{IsUnfinishedSequence, IsUnfinishedCharacter}
use Rattle.termwiz_grammar.specs.Grammar.Item.{mouse}
use Rattle.termwiz_grammar.specs.MouseReports.{IsMouseReport, mouse_event}
use Rattle.termwiz_grammar.specs.Sequences.{IsSequence}
use Rattle.termwiz_grammar.specs.Sequences.Meaning.{Report}
use Rattle.termwiz_grammar.proofs.lemmas.characters.CharacterPrefixes.{sequence_finished}
use Rattle.termwiz_grammar.proofs.lemmas.items.OneHead.{longest_whole}
use Rattle.termwiz_grammar.proofs.lemmas.mouse.OneReport.{laid_out, report_from, report_plain}
use Rattle.termwiz_grammar.proofs.lemmas.table.SequenceFacts.{report_ends}
use Rattle.termwiz_grammar.proofs.lemmas.waiting.RestShape as waiting
use Rattle.termwiz_extended_events.specs.declared.types.Event.{Event}
use Rattle.termwiz_extended_events.specs.declared.types.Event.TheVariants.{Mouse as MouseOf}
use Rattle.termwiz_extended_events.specs.Numbers.{fields}
use Rattle.termwiz_extended_events.specs.MouseReports.{code_of_fields, ends_released, is_released, kind_of, named_button, sgr_code, sgr_report, with_kind}
use Rattle.termwiz_extended_events.specs.declared.types.Reading.{Reading}
use Rattle.termwiz_extended_grammar.specs.Forms.{IsForm}
use Rattle.termwiz_extended_grammar.specs.Forms.IsForm.{control}
use Rattle.termwiz_extended_grammar.specs.ExtraSequences.{IsExtra}
use Rattle.termwiz_extended_grammar.specs.Strings.{StartsWithOpening}
use Rattle.termwiz_extended_grammar.specs.ExtendedGrammar as extended
use Rattle.termwiz_extended_grammar.specs.ExtendedGrammar.{StartsExtended, BeginsExtended, IsUsual}
use Rattle.termwiz_extended_grammar.specs.ExtendedGrammar.Stands.{usual}
use Rattle.termwiz_extended_grammar.proofs.lemmas.forms.FormEnds.{mark_ends}
use Rattle.termwiz_extended_grammar.proofs.lemmas.forms.ExtraFacts.{completed_mark, mark_from_unfinished}
use Rattle.termwiz_extended_grammar.proofs.lemmas.items.ExtendedRests.{empty_is_rest}
use Rattle.termwiz_extended_grammar.proofs.lemmas.items.StringFronts.{no_opening_after}
use Rattle.termwiz_extended_grammar.proofs.lemmas.items.StringItems.{mark_once}
use Rattle.termwiz_extended_grammar.proofs.lemmas.cuts.SameAsPort.{plain_after}
use Rattle.termwiz_senders.specs.declared.mouse.Action.{Action}
use Rattle.termwiz_senders.specs.declared.mouse.Action.TheVariants.{Release}
use Rattle.termwiz_senders.specs.declared.mouse.MouseEncoding.TheVariants.{Sgr}
use Rattle.termwiz_senders.specs.declared.mouse.MouseTracking.{MouseTracking}
use Rattle.termwiz_senders.specs.declared.mouse.MouseTracking.TheVariants.{Any}
use Rattle.termwiz_senders.specs.declared.mouse.Told.{Told}
use Rattle.termwiz_senders.specs.MouseTexts.{told_by, action_of, is_reported, counted, code_of, last_byte, sent_modifiers, sgr_text, numbers_text, told_text, mouse_text}
use Rattle.termwiz_kitty.proofs.lemmas.read_back.FieldSplits.{last_byte as last_of, more_fields, without_last}
use Rattle.termwiz_senders.specs.MouseLaws.{HasPlace, SendsNumbers, event_told, is_wheel, report_told, told_kind, told_number, SgrReadBack, SgrReadBackExtended, SgrInverse, SgrGivesAgain}
use Rattle.termwiz_senders.proofs.lemmas.ControlForms.{control_from}
use Rattle.termwiz_senders.proofs.lemmas.MouseCodes.{held_bits, code_is, modifiers_are, sgr_tells, small_is, told_event, event_is, written_code}
use Rattle.termwiz_senders.proofs.lemmas.WrittenNumbers.{digits_of, field_of, number_back, number_is, numbers_in_body, numbers_short}

same_numbers : (text : List ℕ) (a b d code x y last : ℕ) → a ≡ code → b ≡ x → d ≡ y → IsMouseReport text (mouse_event a b d last)
    → IsMouseReport text (mouse_event code x y last)
same_numbers text a b d code x y last e f g is =
    subst (λ n. IsMouseReport text (mouse_event n x y last)) e
    (subst (λ n. IsMouseReport text (mouse_event a n y last)) f (subst (λ n. IsMouseReport text (mouse_event a b n last)) g is))

-- the bytes are a report of these numbers
is_report : (code x y last : ℕ) → code ≤ 95 → x < 2 ^ 16 → y < 2 ^ 16 → IsFinal last
    → IsMouseReport (sgr_text code x y last) (mouse_event code x y last)
is_report code x y last small f g final =
    let c : code < 2 ^ 16 = omega arith in
    let whole : sgr_text code x y last ≡ laid_out (decimal code) (decimal x) (decimal y) last = ap (λ t. 27 ∷ 91 ∷ 60 ∷ t) (simp append_assoc) in
    same_numbers (sgr_text code x y last) _ _ _ code x y last (digits_of code c).value (digits_of x f).value (digits_of y g).value
    (report_from (sgr_text code x y last) (decimal code) (decimal x) (decimal y) last whole (number_is code 95 c small)
    (number_is x 65535 f (omega arith)) (number_is y 65535 g (omega arith)) final)

-- a report is one event of the port, whether or not more may come
module _ (text : List ℕ) (event : MouseEvent) (is : IsMouseReport text event) where
  is_sequence : IsSequence text (Report event)
  unfolding IsSequence
  is_sequence = is

  some : text ≢ []
  some none = cc ((report_plain text event is).1, none)

  closed : (more : Bool) → port.IsOpen text more → ⊥
  closed more opens = ⊎_elim
      (λ (h : IsUnfinishedSequence text). h.longer (report_ends text h.tail event h.meaning is_sequence h.is_sequence))
      (λ (h : IsUnfinishedCharacter text). sequence_finished text text (Report event) is_sequence ([], sym (append-nil text)) some h)
      opens.beginning

  stands : (more : Bool) → port.Stands text more text (Mouse event)
  stands more = record { closed = closed more; item = mouse text event (longest_whole text (Report event) is_sequence) }

  report_means : (more : Bool) → port.Means text more (Mouse event ∷ []) []
  report_means more = record {
    steps = (text, [], stands more, sym (append-nil text), refl);
    rest = waiting.empty_is_rest more;
  }

  -- and of the extended parser, to which it has a form that the port reads
  module _ (reading : Reading) (form : IsForm reading.x10_mouse text) where
    not_extra : (e : Event) → IsExtra reading text e → ⊥
    not_extra e extra = (let row = extra.is_free (Report event) is_sequence in cc (row.1))

    none_starts : StartsExtended reading text → ⊥
    none_starts (inl h) =
        let same : h.text ≡ text = mark_once text h.text text (inl h.is_extra.is_form) (inl form) h.begins ([], sym (append-nil text)) in
        not_extra h.event (subst (λ x. IsExtra reading x h.event) same h.is_extra)
    none_starts (inr (reads, o)) =
        let shape = report_plain text event is in
        no_opening_after 27 91 (60 ∷ shape.0) (λ escape second. omega arith) (subst StartsWithOpening shape.1 o)

    is_usual : (more : Bool) → IsUsual reading text more
    is_usual more = record {
      none = none_starts;
      closed = λ h. ⊎_elim
          (λ begins. closed more (record { more_comes = h.more_comes; some = h.some; beginning = begins }))
          (λ (begun : BeginsExtended reading text).
          let m = completed_mark text (mark_from_unfinished reading text begun) in
          m.1 (mark_ends text m.0 (inl form) m.2))
          h.beginning;
    }

    report_means_extended : (more : Bool) → extended.Means reading text more (MouseOf (sgr_report text event) ∷ []) []
    report_means_extended more = record {
      steps = (
        [],
        usual text [] (Mouse event) (stands more) (sym (append-nil text)) (is_usual more)
            (λ v split. plain_after reading text v text (Report event) more is_sequence ([], sym (append-nil text))
            (λ alone. cc ((report_plain text event is).1, alone)) split),
        refl,
      );
      rest = empty_is_rest reading more;
    }

final_of : (action : Action) → IsFinal (last_byte action)
final_of Release = inr refl
final_of action = inl refl

-- what is sent in SGR's encoding
sgr_sent : (tracking : MouseTracking) (t : Told) (bytes : List ℕ) → is_reported tracking (action_of t.button) ≡ true
    → told_text tracking Sgr t ≡ Some bytes → sgr_text (code_of tracking Sgr t) t.x t.y (last_byte (action_of t.button)) ≡ bytes
sgr_sent tracking t bytes reported e =
    let some : Some (sgr_text (code_of tracking Sgr t) t.x t.y (last_byte (action_of t.button))) ≡ Some bytes = rw reported at e in cc (some)

sgr_small : (tracking : MouseTracking) (t : Told) → code_of tracking Sgr t ≤ 95
sgr_small tracking t =
    let h = held_bits tracking t.modifiers.0 in
    subst (λ n. n ≤ 95) (sym (code_is tracking Sgr t h)) (small_is _ (sgr_tells t.button h.s h.a h.c).small)

sgr_button : (tracking : MouseTracking) (t : Told) → button_of (code_of tracking Sgr t) (last_byte (action_of t.button)) ≡ t.button
sgr_button tracking t =
    let h = held_bits tracking t.modifiers.0 in
    ap (λ n. button_of n (last_byte (action_of t.button))) (code_is tracking Sgr t h) ∙ (sgr_tells t.button h.s h.a h.c).button

sgr_modifiers : (tracking : MouseTracking) (t : Told) → modifiers_of (code_of tracking Sgr t) ≡ sent_modifiers tracking t.modifiers
sgr_modifiers tracking t =
    let h = held_bits tracking t.modifiers.0 in modifiers_are tracking Sgr t h (sgr_tells t.button h.s h.a h.c).modifiers

sgr_event : (tracking : MouseTracking) (t : Told)
    → mouse_event (code_of tracking Sgr t) t.x t.y (last_byte (action_of t.button)) ≡ told_event tracking t
sgr_event tracking t =
    event_is tracking t (code_of tracking Sgr t) (last_byte (action_of t.button)) (ap buttons_of (sgr_button tracking t)) (sgr_modifiers tracking t)

told_report : (tracking : MouseTracking) (t : Told) → HasPlace t
    → IsMouseReport (sgr_text (code_of tracking Sgr t) t.x t.y (last_byte (action_of t.button))) (told_event tracking t)
told_report tracking t place =
    subst (λ e. IsMouseReport (sgr_text (code_of tracking Sgr t) t.x t.y (last_byte (action_of t.button))) e) (sgr_event tracking t)
    (is_report (code_of tracking Sgr t) t.x t.y (last_byte (action_of t.button)) (sgr_small tracking t) place.x_fits place.y_fits
    (final_of (action_of t.button)))

sgr_form : {x10_mouse : Bool} (code x y last : ℕ) → code ≤ 95 → x < 2 ^ 16 → y < 2 ^ 16 → IsFinal last
    → IsForm x10_mouse (sgr_text code x y last)
sgr_form code x y last small f g final =
    let c : code < 2 ^ 16 = omega arith in
    control (control_from (60 ∷ numbers_text code x y) last ((omega arith, omega arith), numbers_in_body code x y c f g) (λ e. cc (e))
    (omega arith, omega arith) (omega (arith, numbers_short code x y c f g)))

pub sgr_read_back : SgrReadBack
unfolding mouse_text
sgr_read_back report tracking bytes more sends =
    let t = told_by report in
    subst (λ u. port.Means u more (event_told tracking t ∷ []) []) (sgr_sent tracking t bytes sends.reported sends.bytes_are)
    (report_means _ _ (told_report tracking t sends.place) more)

-- the code of the text, and whether it ends as that of a release
code_back : (code x y last : ℕ) → code ≤ 95 → sgr_code (sgr_text code x y last) ≡ code
unfolding sgr_code
code_back code x y last small =
    let c : code < 2 ^ 16 = omega arith in
    let whole : numbers_text code x y ++ last ∷ [] ≡ decimal code ++ 59 ∷ (decimal x ++ 59 ∷ (decimal y ++ last ∷ [])) = simp append_assoc in
    let split : fields (numbers_text code x y ++ last ∷ []) ≡ decimal code ∷ fields (decimal x ++ 59 ∷ (decimal y ++ last ∷ [])) =
    ap fields whole ∙ more_fields (decimal code) (decimal x ++ 59 ∷ (decimal y ++ last ∷ [])) (field_of code c) in
    ap code_of_fields split ∙ ap (λ o. unwrap_or o 0) (number_back 0 95 code c (omega arith) small)

last_back : (code x y last : ℕ) → is_released (sgr_text code x y last) ≡ (last == final_release)
last_back code x y last =
    let body = 27 ∷ 91 ∷ 60 ∷ numbers_text code x y in
    ap (λ n. ends_released (slice_get (body ++ last ∷ []) n)) (without_last body last) ∙ ap ends_released (last_of body last)

-- the extended parser's event
sgr_told : (tracking : MouseTracking) (t : Told)
    → MouseOf (sgr_report (sgr_text (code_of tracking Sgr t) t.x t.y (last_byte (action_of t.button))) (told_event tracking t))
    ≡ report_told Sgr tracking t
sgr_told tracking t =
    let h = held_bits tracking t.modifiers.0 in
    let tells = sgr_tells t.button h.s h.a h.c in
    let code = code_of tracking Sgr t in
    let last = last_byte (action_of t.button) in
    let is : code ≡ written_code Sgr t.button h.s h.a h.c = code_is tracking Sgr t h in
    let named : named_button code ≡ told_number Sgr (action_of t.button) t.button = ap named_button is ∙ tells.named in
    let kind : kind_of (last == final_release) code (named_button code) ≡ told_kind (action_of t.button) (is_wheel t.button) =
    ap (λ n. kind_of (last == final_release) n (named_button n)) is ∙ tells.kind in
    ap₂ (λ n e. MouseOf (with_kind (told_event tracking t) (kind_of e n (named_button n)) (named_button n)))
    (code_back code t.x t.y last (sgr_small tracking t)) (last_back code t.x t.y last)
    ∙ ap₂ (λ k n. MouseOf (with_kind (told_event tracking t) k n)) kind named

pub sgr_read_back_extended : SgrReadBackExtended
unfolding mouse_text
sgr_read_back_extended reading report tracking bytes more sends =
    let t = told_by report in
    subst (λ u. extended.Means reading u more (report_told Sgr tracking t ∷ []) []) (sgr_sent tracking t bytes sends.reported sends.bytes_are)
    (subst (λ e. extended.Means reading (sgr_text (code_of tracking Sgr t) t.x t.y (last_byte (action_of t.button))) more (e ∷ []) [])
    (sgr_told tracking t)
    (report_means_extended _ _ (told_report tracking t sends.place) reading
    (sgr_form (code_of tracking Sgr t) t.x t.y (last_byte (action_of t.button)) (sgr_small tracking t) sends.place.x_fits sends.place.y_fits
    (final_of (action_of t.button))) more))

-- the numbers that are sent give the report
numbers_sent : (report : MouseReport) (tracking : MouseTracking) (x y : ℕ) (given : MouseReport) → (told_by report).x ≡ x → (told_by report).y ≡ y
    → is_reported tracking (action_of (told_by report).button) ≡ true
    → SGR1006 (told_by report).x (told_by report).y (told_by report).button (sent_modifiers tracking (told_by report).modifiers) ≡ given
    → SendsNumbers report tracking x y given
unfolding mouse_text
numbers_sent report tracking x y given e f reported same =
    let t = told_by report in
    let code = code_of tracking Sgr t in
    let last = last_byte (action_of t.button) in
    record {
      code = code;
      last = last;
      bytes_are = rw reported (ap₂ (λ u v. Some (sgr_text code u v last)) e f);
      is_report = (sgr_small tracking t, final_of (action_of t.button));
      gives = ap₂ (λ u v. report_of code u v last) (sym e) (sym f)
          ∙ ap₂ (λ b m. SGR1006 t.x t.y b m) (sgr_button tracking t) (sgr_modifiers tracking t) ∙ same;
    }

pub sgr_inverse : SgrInverse
sgr_inverse report tracking reported = numbers_sent report tracking _ _ _ refl refl reported refl

-- modifiers of a code are all sent
all_sent : (e f g : Bool) → counted SHIFT ALT CTRL Any ((if e then 0 else 2) + (if f then 0 else 4) + (if g then 0 else 8))
    ≡ (if e then 0 else 2) + (if f then 0 else 4) + (if g then 0 else 8)
all_sent true true true = refl
all_sent true true false = refl
all_sent true false true = refl
all_sent true false false = refl
all_sent false true true = refl
all_sent false true false = refl
all_sent false false true = refl
all_sent false false false = refl

same_modifiers : (code : ℕ) → sent_modifiers Any (modifiers_of code) ≡ modifiers_of code
unfolding modifiers_of
same_modifiers code = ap (λ n. record { 0 = n }) (all_sent (bit_and code 4 == 0) (bit_and code 8 == 0) (bit_and code 16 == 0))

pub sgr_gives_again : SgrGivesAgain
sgr_gives_again code x y last is =
    numbers_sent (report_of code x y last) Any x y (report_of code x y last) refl refl refl
    (ap (λ m. SGR1006 x y (button_of code last) m) (same_modifiers code))
