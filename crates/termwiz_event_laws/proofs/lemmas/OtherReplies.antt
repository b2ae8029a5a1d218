-- Replies that no rule reads are control sequences, at once.
use Rattle.std.proofs.Common.{◌≡◌, ◌≢◌, ◌⊎◌, inl, inr, ℕ, ◌≤◌, true, false, List, [], ◌∷◌, ◌++◌, length, refl, sym, subst, arith, decimal, None}
use Rattle.std.specs.Prelude.{flat_map}
use Rattle.std.specs.List.{AllByRecursion}
use Rattle.termwiz_extended_events.specs.declared.types.Event.TheVariants.{Csi}
use Rattle.termwiz_extended_events.specs.declared.types.Reading.{Reading}
use Rattle.termwiz_extended_events.specs.Numbers.{after_start}
use Rattle.termwiz_extended_events.specs.ReportedKeys.{entry_at, lettered_keys}
use Rattle.termwiz_extended_events.specs.KeyReports.{further_key}
use Rattle.termwiz_extended_events.specs.Replies.{urxvt_mouse, mouse_report, sgr_side_button, urxvt_side_button, side_button}
use Rattle.termwiz_extended_grammar.specs.Forms.{most_control}
use Rattle.termwiz_extended_grammar.specs.Readings.{ReadsMore, is_asking}
use Rattle.termwiz_keymap.proofs.lemmas.lists.CommonPrefixes.{append-some}
use Rattle.termwiz_extended_grammar.proofs.lemmas.forms.FormBytes.{all_append}
use Rattle.termwiz_kitty.proofs.lemmas.read_back.FieldSplits.{before_other_end}
use Rattle.termwiz_senders.specs.EventTexts.{further_number, numbers_parted, attributes_text, IsReadAtOnce}
use Rattle.termwiz_event_laws.specs.EventLaws.{IsWord, SchemesReadBack, AttributesReadBack}
use Rattle.termwiz_event_laws.proofs.lemmas.ControlTexts.{written, IsParameter, IsEnd, control_means, no_mark}
use Rattle.termwiz_event_laws.proofs.lemmas.UnreadEnds.{no_focus, no_character, no_key, no_reply, no_third, no_rxvt, no_x10, no_back_tab, no_x10_side, no_console, no_short, no_middle, IsOther, event_by_none}
use Rattle.termwiz_event_laws.proofs.lemmas.WrittenWords.{word_parameters}

-- the last byte of no report: c or n
abbrev IsUnread : ℕ → Type 0
IsUnread last = (last ≡ 99) ⊎ (last ≡ 110)

no_letter : (last : ℕ) → IsUnread last → entry_at lettered_keys last ≡ None
no_letter last (inl c) = subst (λ x. entry_at lettered_keys x ≡ None) (sym c) refl
no_letter last (inr n) = subst (λ x. entry_at lettered_keys x ≡ None) (sym n) refl

module _ (body : List ℕ) (last : ℕ) (unread : IsUnread last) where
  abbrev marked : List ℕ
  marked = 63 ∷ body

  other : (x : ℕ) → (IsUnread x → ⊥) → last ≢ x
  other x never same = never (subst IsUnread same unread)

  no_mouse : mouse_report (marked ++ last ∷ []) ≡ None
  unfolding mouse_report urxvt_mouse
  no_mouse = rw (before_other_end marked last 77 (other 77 (λ h. omega (arith, h))), no_x10 63 (body ++ last ∷ []) refl) refl

  no_side : side_button (marked ++ last ∷ []) ≡ None
  unfolding side_button sgr_side_button after_start urxvt_side_button
  no_side = rw (before_other_end marked last 77 (other 77 (λ h. omega (arith, h))), no_x10_side 63 (body ++ last ∷ []) refl) refl

  is_other : IsOther (marked ++ last ∷ [])
  is_other = record {
    focus_is = no_focus marked last (other 73 (λ h. omega (arith, h))) (other 79 (λ h. omega (arith, h)));
    key_is = no_key marked last (no_character marked last (other 117 (λ h. omega (arith, h)))) (other 126 (λ h. omega (arith, h)))
        (no_letter last unread);
    reply_is = no_reply marked last (other 82 (λ h. omega (arith, h))) (other 117 (λ h. omega (arith, h))) (other 116 (λ h. omega (arith, h)));
    third_is = no_third marked last (other 82 (λ h. omega (arith, h)));
    rxvt_is = no_rxvt marked last (other 94 (λ h. omega (arith, h))) (other 64 (λ h. omega (arith, h))) (other 36 (λ h. omega (arith, h)));
    mouse_is = no_mouse;
  }

  no_further : further_key (marked ++ last ∷ []) ≡ None
  unfolding further_key
  no_further = rw (
    no_back_tab marked last (other 90 (λ h. omega (arith, h))),
    no_short 63 (body ++ last ∷ []) refl,
    no_middle 63 (body ++ last ∷ []) (append-some body (last ∷ []) (λ h. cc (h))),
  ) refl

  -- so it is a control sequence
  reply_means : (reading : Reading) → ReadsMore reading → AllByRecursion IsParameter body → IsEnd last → length (written marked last) ≤ most_control
      → IsReadAtOnce reading (Csi (marked ++ last ∷ [])) (written marked last)
  reply_means reading reads a is short more =
      control_means reading marked last (Csi (marked ++ last ∷ [])) more reads ((omega arith, omega arith), a) is (λ h. cc (h)) short (no_mark body last)
      (event_by_none (is_asking reading) (marked ++ last ∷ []) is_other no_side (no_console 63 (body ++ last ∷ []) refl) no_further)

-- the colours
abbrev scheme : ℕ → List ℕ
scheme x = 63 ∷ 57 ∷ 57 ∷ 55 ∷ 59 ∷ x ∷ 110 ∷ []

scheme_means : (reading : Reading) (x : ℕ) (bytes : List ℕ) → ReadsMore reading → (49 ≤ x) × (x ≤ 50) → 27 ∷ 91 ∷ scheme x ≡ 27 ∷ 91 ∷ bytes
    → IsReadAtOnce reading (Csi bytes) (27 ∷ 91 ∷ scheme x)
scheme_means reading x bytes reads is e =
    let digits : AllByRecursion IsParameter (57 ∷ 57 ∷ 55 ∷ 59 ∷ x ∷ []) = (
      (omega arith, omega arith),
      ((omega arith, omega arith), ((omega arith, omega arith), ((omega arith, omega arith), ((omega arith, omega arith), tt)))),
    ) in
    subst (λ t. IsReadAtOnce reading (Csi t) (27 ∷ 91 ∷ scheme x)) (let same : scheme x ≡ bytes = cc (e) in same)
    (reply_means (57 ∷ 57 ∷ 55 ∷ 59 ∷ x ∷ []) 110 (inr refl) reading reads digits (omega arith, omega arith) (omega arith))

pub schemes_read_back : SchemesReadBack
schemes_read_back reading true bytes reads e = scheme_means reading 49 bytes reads (omega arith, omega arith) e
schemes_read_back reading false bytes reads e = scheme_means reading 50 bytes reads (omega arith, omega arith) e

-- attributes
further_parameters : (ns : List ℕ) → AllByRecursion IsWord ns → AllByRecursion IsParameter (flat_map further_number ns)
further_parameters [] a = tt
further_parameters (n ∷ ns) a =
    all_append IsParameter (further_number n) (flat_map further_number ns) ((omega arith, omega arith), word_parameters n a.0) (further_parameters ns a.1)

numbers_parameters : (ns : List ℕ) → AllByRecursion IsWord ns → AllByRecursion IsParameter (numbers_parted ns)
numbers_parameters [] a = tt
numbers_parameters (n ∷ ns) a =
    all_append IsParameter (decimal n) (flat_map further_number ns) (word_parameters n a.0) (further_parameters ns a.1)

pub attributes_read_back : AttributesReadBack
unfolding attributes_text
attributes_read_back reading ns bytes reads a e short =
    subst (λ t. IsReadAtOnce reading (Csi t) (written (63 ∷ numbers_parted ns) 99))
    (let same : 63 ∷ numbers_parted ns ++ 99 ∷ [] ≡ bytes = cc (e) in same)
    (reply_means (numbers_parted ns) 99 (inl refl) reading reads (numbers_parameters ns a) (omega arith, omega arith) short)
