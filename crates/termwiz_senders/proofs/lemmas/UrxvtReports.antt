-- A mouse report in urxvt's encoding is read back where more than the port's sequences is read.
use Rattle.std.proofs.Common.{◌≡◌, ℕ, ◌+◌, ◌-◌, ◌^◌, ◌<◌, ◌≤◌, Bool, true, false, not, ◌&&◌, List, [], ◌∷◌, ◌++◌, refl, sym, ap, ◌∙◌, subst, arith, append_assoc, decimal, Some, None, Contains}
use Rattle.std.specs.Prelude.{◌==◌}
use Rattle.std.specs.List.{AllByRecursion, list_all}
use Rattle.std.proofs.lemmas.List.Elements.{All-contains}
use Rattle.std.proofs.lemmas.List.Sums.{AllPass-from_list_all}
use Rattle.termwiz_base.specs.Mouse.{final_press, button_of}
use Rattle.termwiz_keys.specs.Buttons.{buttons_of}
use Rattle.termwiz_keys.specs.declared.types.KeyEvent.{KeyEvent}
use Rattle.termwiz_grammar.specs.MouseReports.{mouse_event}
use Rattle.termwiz_grammar.specs.Sequences.{Meaning, IsSequence}
use Rattle.termwiz_grammar.specs.Sequences.Meaning.{Row, Report}
use Rattle.termwiz_grammar.specs.Table.{TableRow, rows, written_out}
use Rattle.termwiz_grammar.proofs.lemmas.mouse.OneReport.{report_plain}
use Rattle.termwiz_extended_events.specs.Numbers.{fields}
use Rattle.termwiz_extended_events.specs.KeyReports.{character_key, lettered_key, numbered_key, other_held, other_key, key_report, third_function_key, rxvt_key}
use Rattle.termwiz_extended_events.specs.Replies.{focus, cursor_position, keyboard_flags, resize, reply, mouse_of_fields, urxvt_mouse, mouse_report}
use Rattle.termwiz_extended_events.specs.Meanings.{reported, event_after, event_of}
use Rattle.termwiz_extended_grammar.specs.Readings.{ReadsMore, is_asking}
use Rattle.termwiz_extended_events.specs.MouseReports.{byte_kind_of, byte_report, named_button}
use Rattle.termwiz_extended_events.specs.declared.types.MouseReport.{MouseReport}
use Rattle.termwiz_extended_events.specs.declared.types.Event.TheVariants.{Mouse}
use Rattle.termwiz_extended_events.specs.declared.types.Reading.{Reading}
use Rattle.termwiz_extended_grammar.specs.Forms.IsForm.{control}
use Rattle.termwiz_extended_grammar.specs.ExtraSequences.{IsExtra}
use Rattle.termwiz_extended_grammar.specs.ExtendedGrammar as extended
use Rattle.termwiz_extended_grammar.proofs.lemmas.forms.ExtraFacts.{free_from_none}
use Rattle.termwiz_kitty.proofs.lemmas.read_back.FieldSplits.{more_fields, one_field, without_last, before_end_here, before_other_end, last_byte}
use Rattle.termwiz_kitty.proofs.lemmas.read_back.SequencesMean.{means_alone}
use Rattle.termwiz_senders.specs.declared.mouse.MouseEncoding.TheVariants.{Urxvt}
use Rattle.termwiz_senders.specs.declared.mouse.MouseTracking.{MouseTracking}
use Rattle.termwiz_senders.specs.declared.mouse.Told.{Told}
use Rattle.termwiz_senders.specs.MouseTexts.{told_by, action_of, code_of, urxvt_text, numbers_text, mouse_text}
use Rattle.termwiz_senders.specs.MouseLaws.{HasPlace, report_told, UrxvtReadBack}
use Rattle.termwiz_senders.proofs.lemmas.ControlForms.{written, control_from}
use Rattle.termwiz_senders.proofs.lemmas.MouseCodes.{held_bits, code_is, modifiers_are, urxvt_tells, same_number, small_is, told_event, event_is, report_is}
use Rattle.termwiz_senders.proofs.lemmas.WrittenNumbers.{IsBody, begins_with_digit, field_of, number_back, numbers_in_body, numbers_short, numbers_some}

-- no row ends so
abbrev ends_in_m : List ℕ → Bool
ends_in_m [] = false
ends_in_m (x ∷ []) = x == 77
ends_in_m (x ∷ y ∷ t) = ends_in_m (y ∷ t)

abbrev is_like_this : List ℕ → Bool
is_like_this (escape ∷ bracket ∷ t) = (escape == 27) && (bracket == 91) && ends_in_m t
is_like_this _ = false

no_row_like_this : list_all (λ r. not (is_like_this r.0)) rows ≡ true
unfolding written_out
no_row_like_this = refl

ends : (body : List ℕ) → ends_in_m (body ++ 77 ∷ []) ≡ true
ends [] = refl
ends (x ∷ []) = refl
ends (x ∷ y ∷ body) = ends (y ∷ body)

no_row : (body : List ℕ) (k : KeyEvent) → Contains rows (written body 77, k) → ⊥
no_row body k row =
    let passes : not (ends_in_m (body ++ 77 ∷ [])) ≡ true =
    All-contains (λ (r : TableRow). not (is_like_this r.0) ≡ true) rows (written body 77, k)
    (AllPass-from_list_all (λ (r : TableRow). not (is_like_this r.0)) rows no_row_like_this) row in
    let both : not true ≡ true = ap not (sym (ends body)) ∙ passes in cc (both)

no_sequence : (body : List ℕ) → AllByRecursion IsBody body → ((t : List ℕ) → body ++ 77 ∷ [] ≡ 60 ∷ t → ⊥) → (m : Meaning)
    → IsSequence (written body 77) m → ⊥
unfolding IsSequence
no_sequence body a other (Row k) row = no_row body k row
no_sequence body a other (Report r) report = (let shape = report_plain (written body 77) r report in other shape.0 (cc (shape.1)))

-- no other rule reads what ends in M
no_focus : (body : List ℕ) → focus (body ++ 77 ∷ []) ≡ None
unfolding focus
no_focus [] = refl
no_focus (x ∷ []) = refl
no_focus (x ∷ y ∷ body) = refl

module _ (body : List ℕ) where
  no_key : key_report (body ++ 77 ∷ []) ≡ None
  unfolding key_report character_key lettered_key numbered_key other_key other_held
  no_key =
      rw (before_other_end body 77 117 (λ e. omega arith), without_last body 77, last_byte body 77, before_other_end body 77 126 (λ e. omega arith)) refl

  no_reply : reply (body ++ 77 ∷ []) ≡ None
  unfolding reply cursor_position keyboard_flags resize
  no_reply = rw (before_other_end body 77 82 (λ e. omega arith), before_other_end body 77 117 (λ e. omega arith), before_other_end body 77 116 (λ e. omega arith)) refl

  no_third : third_function_key (body ++ 77 ∷ []) ≡ None
  unfolding third_function_key
  no_third = rw (before_other_end body 77 82 (λ e. omega arith)) refl

  no_rxvt : rxvt_key (body ++ 77 ∷ []) ≡ None
  unfolding rxvt_key
  no_rxvt = rw (before_other_end body 77 94 (λ e. omega arith), before_other_end body 77 64 (λ e. omega arith), before_other_end body 77 36 (λ e. omega arith)) refl

  event_by_fields : (asks : Bool) (e : MouseReport) → mouse_of_fields (fields body) ≡ Some e → event_of asks (written body 77) ≡ Mouse e
  unfolding event_of event_after reported mouse_report urxvt_mouse
  event_by_fields true e is = rw (no_focus body, no_key, no_reply, no_third, no_rxvt, before_end_here body 77, is) refl
  event_by_fields false e is = rw (no_focus body, no_key, no_reply, no_third, no_rxvt, before_end_here body 77, is) refl

-- three numbers
three_fields : (n x y : ℕ) → n < 2 ^ 16 → x < 2 ^ 16 → y < 2 ^ 16
    → fields (numbers_text n x y) ≡ decimal n ∷ decimal x ∷ decimal y ∷ []
three_fields n x y c f g =
    let whole : numbers_text n x y ≡ decimal n ++ 59 ∷ (decimal x ++ 59 ∷ decimal y) = simp append_assoc in
    ap fields whole ∙ more_fields (decimal n) (decimal x ++ 59 ∷ decimal y) (field_of n c)
    ∙ ap (λ t. decimal n ∷ t) (more_fields (decimal x) (decimal y) (field_of x f) ∙ ap (λ t. decimal x ∷ t) (one_field (decimal y) (field_of y g)))

numbers_mean : (code x y : ℕ) → code ≤ 95 → x < 2 ^ 16 → y < 2 ^ 16
    → mouse_of_fields (fields (numbers_text (32 + code) x y)) ≡ Some (byte_report code x y)
numbers_mean code x y small f g =
    let c : 32 + code < 2 ^ 16 = omega arith in
    let back : (32 + code) - 32 ≡ code = omega arith in
    rw (
      three_fields (32 + code) x y c f g,
      number_back 32 127 (32 + code) c (omega arith) (omega arith),
      number_back 0 65535 x f (omega arith) (omega arith),
      number_back 0 65535 y g (omega arith) (omega arith),
      back,
    ) refl

no_sign : (code x y : ℕ) → 32 + code < 2 ^ 16 → (t : List ℕ) → numbers_text (32 + code) x y ++ 77 ∷ [] ≡ 60 ∷ t → ⊥
no_sign code x y c t e =
    let whole : numbers_text (32 + code) x y ++ 77 ∷ [] ≡ decimal (32 + code) ++ 59 ∷ (decimal x ++ 59 ∷ (decimal y ++ 77 ∷ [])) = simp append_assoc in
    begins_with_digit (32 + code) (59 ∷ (decimal x ++ 59 ∷ (decimal y ++ 77 ∷ []))) t c (sym whole ∙ e)

urxvt_small : (tracking : MouseTracking) (t : Told) → code_of tracking Urxvt t ≤ 95
urxvt_small tracking t =
    let h = held_bits tracking t.modifiers.0 in
    subst (λ n. n ≤ 95) (sym (code_is tracking Urxvt t h)) (small_is _ (urxvt_tells t.button h.s h.a h.c).small)

urxvt_event : (tracking : MouseTracking) (t : Told) → mouse_event (code_of tracking Urxvt t) t.x t.y final_press ≡ told_event tracking t
urxvt_event tracking t =
    let h = held_bits tracking t.modifiers.0 in
    let tells = urxvt_tells t.button h.s h.a h.c in
    event_is tracking t (code_of tracking Urxvt t) final_press
    (ap (λ n. buttons_of (button_of n final_press)) (code_is tracking Urxvt t h) ∙ tells.buttons)
    (modifiers_are tracking Urxvt t h tells.modifiers)

urxvt_told : (tracking : MouseTracking) (t : Told)
    → Mouse (byte_report (code_of tracking Urxvt t) t.x t.y) ≡ report_told Urxvt tracking t
urxvt_told tracking t =
    let h = held_bits tracking t.modifiers.0 in
    let tells = urxvt_tells t.button h.s h.a h.c in
    let is = code_is tracking Urxvt t h in
    report_is Urxvt tracking t (code_of tracking Urxvt t) (urxvt_event tracking t)
    (ap named_button is ∙ tells.named ∙ same_number (action_of t.button) t.button)
    (ap (λ n. byte_kind_of n (named_button n)) is ∙ tells.kind)

urxvt_extra : (reading : Reading) (tracking : MouseTracking) (t : Told) → ReadsMore reading → HasPlace t
    → IsExtra reading (urxvt_text (code_of tracking Urxvt t) t.x t.y) (report_told Urxvt tracking t)
urxvt_extra reading tracking t reads place =
    let code = code_of tracking Urxvt t in
    let small = urxvt_small tracking t in
    let c : 32 + code < 2 ^ 16 = omega (arith, small) in
    let body = numbers_text (32 + code) t.x t.y in
    let a = numbers_in_body (32 + code) t.x t.y c place.x_fits place.y_fits in
    record {
      reads = reads;
      is_form = control (control_from body 77 a (numbers_some (32 + code) t.x t.y c) (omega arith, omega arith)
          (omega (arith, numbers_short (32 + code) t.x t.y c place.x_fits place.y_fits)));
      is_free = free_from_none reading (written body 77) (no_sequence body a (no_sign code t.x t.y c));
      means = sym (event_by_fields body (is_asking reading) (byte_report code t.x t.y)
          (numbers_mean code t.x t.y small place.x_fits place.y_fits)
          ∙ urxvt_told tracking t);
    }

pub urxvt_read_back : UrxvtReadBack
unfolding mouse_text
urxvt_read_back reading report tracking bytes more reads sends =
    let t = told_by report in
    let sent : Some (urxvt_text (code_of tracking Urxvt t) t.x t.y) ≡ Some bytes = rw sends.reported at sends.bytes_are in
    let same : urxvt_text (code_of tracking Urxvt t) t.x t.y ≡ bytes = cc (sent) in
    subst (λ u. extended.Means reading u more (report_told Urxvt tracking t ∷ []) []) same
    (means_alone reading _ more _ (urxvt_extra reading tracking t reads sends.place))
