-- The report of a side button in SGR's form means its event, at once.
use Rattle.std.proofs.Common.{◌≡◌, ℕ, ◌-◌, ◌^◌, ◌<◌, ◌≤◌, List, [], ◌∷◌, ◌++◌, length, refl, sym, ap, ◌∙◌, arith, append_assoc, length-append, decimal, Some, None}
use Rattle.std.specs.List.{AllByRecursion}
use Rattle.termwiz_grammar.specs.MouseReports.{value_of}
use Rattle.termwiz_grammar.specs.Sequences.{IsSequence}
use Rattle.termwiz_grammar.specs.Sequences.Meaning.{Row, Report}
use Rattle.termwiz_grammar.proofs.lemmas.mouse.OneReport.{layout, semicolon_no_digit}
use Rattle.termwiz_grammar.proofs.lemmas.mouse.ReportNumbers.{digits_end}
use Rattle.termwiz_grammar.proofs.lemmas.table.RowShape.{row_shaped, no_report_shape}
use Rattle.termwiz_extended_events.specs.declared.types.Event.TheVariants.{Mouse}
use Rattle.termwiz_extended_events.specs.declared.types.Reading.{Reading}
use Rattle.termwiz_extended_grammar.specs.Readings.{ReadsMore, is_asking}
use Rattle.termwiz_extended_events.specs.declared.types.MouseReport.{MouseReport}
use Rattle.termwiz_extended_events.specs.declared.types.MouseKind.{MouseKind}
use Rattle.termwiz_extended_events.specs.declared.types.MouseKind.TheVariants.{Release}
use Rattle.termwiz_extended_events.specs.MouseReports.{side_report}
use Rattle.termwiz_extended_events.specs.Numbers.{fields, after_start}
use Rattle.termwiz_extended_events.specs.Replies.{side_held, urxvt_mouse, mouse_report, sgr_side_button, side_button}
use Rattle.termwiz_kitty.proofs.lemmas.read_back.FieldSplits.{before_end_here, before_other_end}
use Rattle.termwiz_senders.specs.EventTexts.{side_last, IsReadAtOnce}
use Rattle.termwiz_senders.specs.MouseTexts.{sgr_text}
use Rattle.termwiz_senders.proofs.lemmas.WrittenNumbers.{digits_of, number_back}
use Rattle.termwiz_event_laws.proofs.lemmas.ControlTexts.{written, IsParameter, IsEnd, IsUnknown, control_means}
use Rattle.termwiz_event_laws.proofs.lemmas.UnreadEnds.{no_number, no_focus, no_character, no_key, no_reply, no_third, no_rxvt, no_x10, IsOther, event_by_side_button}
use Rattle.termwiz_event_laws.proofs.lemmas.WrittenWords.{word_parameters, word_short, word_back, followed, followed_parameters, followed_short, three_fields}

-- what a code without the first one tells, where this happened
abbrev pub told_by : MouseKind → ℕ → ℕ → ℕ → MouseReport
told_by Release = side_report Release
told_by kind = side_held

module _ (code x y : ℕ) (low : 128 ≤ code) (high : code ≤ 191) (f : x < 2 ^ 16) (g : y < 2 ^ 16) where
  word : code < 2 ^ 16
  word = omega arith

  abbrev three : List ℕ
  three = followed (followed (decimal code) x) y

  abbrev body : List ℕ
  body = 60 ∷ three

  parameters : AllByRecursion IsParameter body
  parameters =
      ((omega arith, omega arith), followed_parameters (followed (decimal code) x) y g (followed_parameters (decimal code) x f (word_parameters code word)))

  short : length body ≤ 18
  short = omega (arith, followed_short (followed (decimal code) x) y 11 g (followed_short (decimal code) x 5 f (word_short code word)))

  fields_are : fields three ≡ decimal code ∷ decimal x ∷ decimal y ∷ []
  fields_are = three_fields code x y word f g

  -- the port doesn't read it, since the code is too large
  unknown : (last : ℕ) → IsUnknown body last
  unfolding IsSequence
  unknown last (Row k) row = no_report_shape (three ++ last ∷ []) (row_shaped (written body last) k row).shape
  unknown last (Report r) is =
      let form = layout (written body last) r is in
      let parted : three ++ last ∷ [] ≡ decimal code ++ 59 ∷ (decimal x ++ 59 ∷ (decimal y ++ last ∷ [])) = simp append_assoc in
      let rest : three ++ last ∷ [] ≡ is.code ++ 59 ∷ (is.x ++ 59 ∷ (is.y ++ is.last ∷ [])) = cc (form) in
      let same = digits_end (decimal code) is.code (decimal x ++ 59 ∷ (decimal y ++ last ∷ [])) (is.x ++ 59 ∷ (is.y ++ is.last ∷ [])) 59 59
      (digits_of code word).each is.code_is.each semicolon_no_digit semicolon_no_digit (sym parted ∙ rest) in
      let value : value_of is.code ≡ code = ap value_of (sym same.0) ∙ (digits_of code word).value in
      omega (arith, is.code_is.within, value)

  -- M
  no_mouse_m : mouse_report (body ++ 77 ∷ []) ≡ None
  unfolding mouse_report urxvt_mouse
  no_mouse_m =
      rw (before_end_here body 77, fields_are, no_number 5 32 127 60 (decimal code) refl, no_x10 60 (three ++ 77 ∷ []) refl) refl

  side_m : side_button (body ++ 77 ∷ []) ≡ Some (side_held (code - 128) x y)
  unfolding side_button sgr_side_button after_start
  side_m =
      rw (before_end_here three 77, fields_are, number_back 128 191 code word low high, word_back x f, word_back y g) refl

  other_m : IsOther (body ++ 77 ∷ [])
  other_m = record {
    focus_is = no_focus body 77 (λ e. omega arith) (λ e. omega arith);
    key_is = no_key body 77 (no_character body 77 (λ e. omega arith)) (λ e. omega arith) refl;
    reply_is = no_reply body 77 (λ e. omega arith) (λ e. omega arith) (λ e. omega arith);
    third_is = no_third body 77 (λ e. omega arith);
    rxvt_is = no_rxvt body 77 (λ e. omega arith) (λ e. omega arith) (λ e. omega arith);
    mouse_is = no_mouse_m;
  }

  -- m
  no_mouse_l : mouse_report (body ++ 109 ∷ []) ≡ None
  unfolding mouse_report urxvt_mouse
  no_mouse_l = rw (before_other_end body 109 77 (λ e. omega arith), no_x10 60 (three ++ 109 ∷ []) refl) refl

  side_l : side_button (body ++ 109 ∷ []) ≡ Some (side_report Release (code - 128) x y)
  unfolding side_button sgr_side_button after_start
  side_l =
      rw (
        before_other_end three 109 77 (λ e. omega arith),
        before_end_here three 109,
        fields_are,
        number_back 128 191 code word low high,
        word_back x f,
        word_back y g,
      ) refl

  other_l : IsOther (body ++ 109 ∷ [])
  other_l = record {
    focus_is = no_focus body 109 (λ e. omega arith) (λ e. omega arith);
    key_is = no_key body 109 (no_character body 109 (λ e. omega arith)) (λ e. omega arith) refl;
    reply_is = no_reply body 109 (λ e. omega arith) (λ e. omega arith) (λ e. omega arith);
    third_is = no_third body 109 (λ e. omega arith);
    rxvt_is = no_rxvt body 109 (λ e. omega arith) (λ e. omega arith) (λ e. omega arith);
    mouse_is = no_mouse_l;
  }

  at_once : (reading : Reading) (last : ℕ) (e : MouseReport) → ReadsMore reading → IsEnd last → IsOther (body ++ last ∷ [])
      → side_button (body ++ last ∷ []) ≡ Some e
      → IsReadAtOnce reading (Mouse e) (sgr_text code x y last)
  at_once reading last e reads end other is more =
      control_means reading body last (Mouse e) more reads parameters end (λ h. cc (h))
      (omega (arith, length-append body (last ∷ []), short)) (unknown last) (event_by_side_button (is_asking reading) (body ++ last ∷ []) e other is)

  means : (reading : Reading) (kind : MouseKind) → ReadsMore reading
      → IsReadAtOnce reading (Mouse (told_by kind (code - 128) x y)) (sgr_text code x y (side_last kind))
  means reading Release reads = at_once reading 109 (side_report Release (code - 128) x y) reads (omega arith, omega arith) other_l side_l
  means reading kind reads = at_once reading 77 (side_held (code - 128) x y) reads (omega arith, omega arith) other_m side_m

pub side_report_means : (reading : Reading) (kind : MouseKind) (code x y : ℕ) → ReadsMore reading → 128 ≤ code → code ≤ 191 → x < 2 ^ 16
    → y < 2 ^ 16 → IsReadAtOnce reading (Mouse (told_by kind (code - 128) x y)) (sgr_text code x y (side_last kind))
side_report_means reading kind code x y reads low high f g = means code x y low high f g reading kind reads
