-- A mouse report in three bytes is read back where more than the port's sequences is read, and X10 mouse reports are.
use Rattle.std.proofs.Common.{◌≡◌, ℕ, ◌+◌, ◌-◌, ◌≤◌, Bool, true, false, ◌&&◌, nat_lt, nat_le, List, [], ◌∷◌, length, refl, sym, ap, ◌∙◌, subst, arith, Option, Some, None}
use Rattle.std.specs.Prelude.{◌==◌, option_and_then, option_map, if◌then◌else◌}
use Rattle.std.specs.List.{slice_split}
use Rattle.std.proofs.lemmas.Bool.Decides.{nat_tests}
use Rattle.termwiz_base.specs.Mouse.{final_press, button_of}
use Rattle.termwiz_keys.specs.Buttons.{buttons_of}
use Rattle.termwiz_keys.specs.declared.types.KeyCode.{KeyCode}
use Rattle.termwiz_keys.specs.declared.types.KeyCode.TheVariants.{Function}
use Rattle.termwiz_grammar.specs.MouseReports.{mouse_event}
use Rattle.termwiz_grammar.specs.Sequences.{Meaning, IsSequence}
use Rattle.termwiz_extended_events.specs.Numbers.{fields, is_digits, before_end, after_start, number_within, scalar}
use Rattle.termwiz_extended_events.specs.ReportedKeys.{entry_at, last_functional, lettered_keys}
use Rattle.termwiz_extended_events.specs.KeyReports.{codes_of, codes_of_parts, character_of_fields, character_key, is_one_or_missing, lettered_of_fields, lettered_key, numbered_of_fields, numbered_key, other_of_fields, other_held, other_report, other_key, key_report, third_function_key, rxvt_number, rxvt_key}
use Rattle.termwiz_extended_events.specs.Replies.{focus, position_of_fields, position_of, cursor_position, keyboard_flags, numbered_size, resize, reply, mouse_of_fields, urxvt_mouse, x10_mouse, mouse_report}
use Rattle.termwiz_extended_events.specs.Meanings.{reported, event_after, event_of}
use Rattle.termwiz_extended_grammar.specs.Readings.{ReadsMore, is_asking}
use Rattle.termwiz_extended_events.specs.MouseReports.{byte_kind_of, byte_report, named_button}
use Rattle.termwiz_extended_events.specs.declared.types.Event.TheVariants.{Mouse}
use Rattle.termwiz_extended_events.specs.declared.types.Reading.{Reading}
use Rattle.termwiz_extended_grammar.specs.Forms.IsForm.{x10_report}
use Rattle.termwiz_extended_grammar.specs.ExtraSequences.{IsExtra}
use Rattle.termwiz_extended_grammar.specs.ExtendedGrammar as extended
use Rattle.termwiz_extended_grammar.proofs.lemmas.forms.ExtraFacts.{free_from_none}
use Rattle.termwiz_extended_grammar.proofs.lemmas.forms.PortLayouts.{Layout, Past, sequence_layout}
use Rattle.termwiz_extended_grammar.proofs.lemmas.forms.PortLayouts.Layout.{alone, paired, longer}
use Rattle.termwiz_extended_grammar.proofs.lemmas.forms.PortLayouts.Past.{lettered, with_dollar}
use Rattle.termwiz_kitty.proofs.lemmas.read_back.SequencesMean.{means_alone}
use Rattle.termwiz_senders.specs.declared.mouse.MouseEncoding.TheVariants.{Default}
use Rattle.termwiz_senders.specs.declared.mouse.MouseTracking.{MouseTracking}
use Rattle.termwiz_senders.specs.declared.mouse.Told.{Told}
use Rattle.termwiz_senders.specs.MouseTexts.{told_by, code_of, default_text, largest_place, text_with, mouse_text}
use Rattle.termwiz_senders.specs.MouseLaws.{report_told, DefaultReadBack}
use Rattle.termwiz_senders.proofs.lemmas.MouseCodes.{held_bits, code_is, modifiers_are, default_tells, small_is, told_event, event_is, report_is}

-- no number begins with M
and_false : (a : Bool) → (a && false) ≡ false
and_false true = refl
and_false false = refl

no_number : (most least limit : ℕ) (f : List ℕ) → number_within most least limit (77 ∷ f) ≡ None
unfolding number_within
no_number most least limit f =
    let none : is_digits most (77 ∷ f) ≡ false = and_false (nat_lt 0 (length (77 ∷ f)) && nat_le (length (77 ∷ f)) most) in rw none refl

no_scalar : (f : List ℕ) → scalar (77 ∷ f) ≡ None
unfolding scalar
no_scalar f = rw (no_number 7 0 0x10ffff f) refl

-- what is split begins with M
record Splits (p : ℕ → Bool) (s : List ℕ) : Type 0 where
  first : List ℕ
  more : List (List ℕ)
  splits : slice_split p (77 ∷ s) ≡ (77 ∷ first) ∷ more

split_of : (p : ℕ → Bool) (s : List ℕ) → p 77 ≡ false → Splits p s
split_of p s other = go (slice_split p s) refl
  where
    go : (l : List (List ℕ)) → slice_split p s ≡ l → Splits p s
    go [] e = record { first = []; more = []; splits = rw (other, e) refl }
    go (part ∷ more) e = record { first = part; more = more; splits = rw (other, e) refl }

-- fields that no rule reads, since the first begins with M

no_codes : (f : List ℕ) → codes_of (77 ∷ f) ≡ None
unfolding codes_of
no_codes f =
    let s = split_of (λ b. b == 58) f refl in
    ap codes_of_parts s.splits ∙ by_parts s.first s.more
  where
    by_parts : (g : List ℕ) (gs : List (List ℕ)) → codes_of_parts ((77 ∷ g) ∷ gs) ≡ None
    by_parts g [] = rw (no_scalar g) refl
    by_parts g (a ∷ []) = rw (no_scalar g) refl
    by_parts g (a ∷ b ∷ []) = rw (no_scalar g) refl
    by_parts g (a ∷ b ∷ c ∷ more) = refl

no_character : (f : List ℕ) (fs : List (List ℕ)) → character_of_fields ((77 ∷ f) ∷ fs) ≡ None
no_character f [] = rw (no_codes f) refl
no_character f (a ∷ []) = rw (no_codes f) refl
no_character f (a ∷ b ∷ []) = rw (no_codes f) refl
no_character f (a ∷ b ∷ c ∷ more) = refl

no_front : (f : List ℕ) → is_one_or_missing (77 ∷ f) ≡ false
no_front [] = refl
no_front (a ∷ f) = refl

no_lettered : (key : KeyCode) (f : List ℕ) (fs : List (List ℕ)) → lettered_of_fields key ((77 ∷ f) ∷ fs) ≡ None
no_lettered key f fs = rw (no_front f) refl

no_numbered : (f : List ℕ) (fs : List (List ℕ)) → numbered_of_fields ((77 ∷ f) ∷ fs) ≡ None
no_numbered f fs = rw (no_number 7 0 last_functional f) refl

no_other : (f : List ℕ) (fs : List (List ℕ)) → other_of_fields ((77 ∷ f) ∷ fs) ≡ None
no_other f [] = refl
no_other f (a ∷ []) = refl
no_other f (a ∷ b ∷ []) = refl
no_other f (a ∷ b ∷ c ∷ more) = refl

no_position : (f : List ℕ) (fs : List (List ℕ)) → position_of_fields ((77 ∷ f) ∷ fs) ≡ None
no_position f [] = refl
no_position f (a ∷ []) = rw (no_number 5 1 65535 f) refl
no_position f (a ∷ b ∷ more) = refl

no_size : (f : List ℕ) (fs : List (List ℕ)) → numbered_size ((77 ∷ f) ∷ fs) ≡ None
no_size f fs = refl

no_mouse : (f : List ℕ) (fs : List (List ℕ)) → mouse_of_fields ((77 ∷ f) ∷ fs) ≡ None
no_mouse f [] = refl
no_mouse f (a ∷ []) = refl
no_mouse f (a ∷ b ∷ []) = rw (no_number 5 32 127 f) refl
no_mouse f (a ∷ b ∷ c ∷ more) = refl

module _ (b x y : ℕ) where
  abbrev text : List ℕ
  text = 77 ∷ b ∷ x ∷ y ∷ []

  abbrev body : List ℕ
  body = 77 ∷ b ∷ x ∷ []

  split : Splits (λ b. b == 59) (b ∷ x ∷ [])
  split = split_of (λ b. b == 59) (b ∷ x ∷ []) refl

  -- a rule for this end reads nothing, if it reads nothing of what stands before it
  behind : {A : Type 0} (G : List ℕ → Option A) (e : ℕ) → G body ≡ None → option_and_then G (before_end (e ∷ []) text) ≡ None
  unfolding before_end
  behind G e none = go (y == e)
    where
      go : (v : Bool) → option_and_then G (if v && true then Some body else None) ≡ None
      go true = none
      go false = refl

  no_character_key : character_key text ≡ None
  unfolding character_key
  no_character_key = behind (λ s. character_of_fields (fields s)) 117 (ap character_of_fields split.splits ∙ no_character split.first split.more)

  no_lettered_key : lettered_key text ≡ None
  unfolding lettered_key
  no_lettered_key = go (entry_at lettered_keys y)
    where
      go : (o : Option KeyCode) → option_and_then (λ key. lettered_of_fields key (fields body)) o ≡ None
      go None = refl
      go (Some key) = ap (lettered_of_fields key) split.splits ∙ no_lettered key split.first split.more

  no_numbered_key : numbered_key text ≡ None
  unfolding numbered_key
  no_numbered_key = behind (λ s. numbered_of_fields (fields s)) 126 (ap numbered_of_fields split.splits ∙ no_numbered split.first split.more)

  no_other_key : other_key text ≡ None
  unfolding other_key other_held
  no_other_key =
      ap (option_map other_report) (behind (λ s. other_of_fields (fields s)) 126 (ap other_of_fields split.splits ∙ no_other split.first split.more))

  no_key : key_report text ≡ None
  unfolding key_report
  no_key = rw (no_character_key, no_lettered_key, no_numbered_key, no_other_key) refl

  no_cursor : cursor_position text ≡ None
  unfolding cursor_position after_start
  no_cursor = behind (λ s. position_of s (after_start (63 ∷ []) s)) 82 (ap position_of_fields split.splits ∙ no_position split.first split.more)

  no_flags : keyboard_flags text ≡ None
  unfolding keyboard_flags after_start
  no_flags = rw (behind (after_start (63 ∷ [])) 117 refl) refl

  no_resize : resize text ≡ None
  unfolding resize
  no_resize = behind (λ s. numbered_size (fields s)) 116 (ap numbered_size split.splits ∙ no_size split.first split.more)

  no_reply : reply text ≡ None
  unfolding reply
  no_reply = rw (no_cursor, no_flags, no_resize) refl

  no_third : third_function_key text ≡ None
  unfolding third_function_key
  no_third = behind (λ s. lettered_of_fields (Function 3) (fields s)) 82
      (ap (lettered_of_fields (Function 3)) split.splits ∙ no_lettered (Function 3) split.first split.more)

  no_rxvt : rxvt_key text ≡ None
  unfolding rxvt_key
  no_rxvt =
      let none : rxvt_number body ≡ None = no_number 2 2 38 (b ∷ x ∷ []) in
      rw (behind rxvt_number 94 none, behind rxvt_number 64 none, behind rxvt_number 36 none) refl

  no_urxvt : urxvt_mouse text ≡ None
  unfolding urxvt_mouse
  no_urxvt = behind (λ s. mouse_of_fields (fields s)) 77 (ap mouse_of_fields split.splits ∙ no_mouse split.first split.more)

  -- so it is a mouse report, if the bytes are within limits
  reported_event : (asks : Bool) → (32 ≤ b) × (b ≤ 127) → 32 ≤ x → 32 ≤ y
      → event_of asks (27 ∷ 91 ∷ text) ≡ Mouse (byte_report (b - 32) (x - 32) (y - 32))
  unfolding event_of event_after reported focus mouse_report x10_mouse
  reported_event asks button f g = go asks
    where
      low : nat_le 32 b ≡ true
      low = grind (arith, nat_tests, button.0)

      high : nat_le b 127 ≡ true
      high = grind (arith, nat_tests, button.1)

      left : nat_le 32 x ≡ true
      left = grind (arith, nat_tests)

      top : nat_le 32 y ≡ true
      top = grind (arith, nat_tests)

      go : (asks : Bool) → event_of asks (27 ∷ 91 ∷ text) ≡ Mouse (byte_report (b - 32) (x - 32) (y - 32))
      go true = rw (no_key, no_reply, no_third, no_rxvt, no_urxvt, low, high, left, top) refl
      go false = rw (no_key, no_reply, no_third, no_rxvt, no_urxvt, low, high, left, top) refl

  -- the port doesn't read it
  no_sequence : (m : Meaning) → IsSequence (27 ∷ 91 ∷ text) m → ⊥
  no_sequence m is = go (sequence_layout (27 ∷ 91 ∷ text) m is)
    where
      past : (r : List ℕ) → r ≡ text → Past r → ⊥
      past r e (lettered middle last form each is_last no_m no_bracket) = no_m (b ∷ x ∷ y ∷ []) e
      past r e (with_dollar digit form is_digit) = cc (e, form)

      go : Layout (27 ∷ 91 ∷ text) → ⊥
      go (alone c e) = cc (e)
      go (paired c e range) = cc (e)
      go (longer c r e second rest) = past r (sym (let same : text ≡ r = cc (e) in same)) rest

-- what is sent in three bytes
module _ (tracking : MouseTracking) (t : Told) where
  default_small : code_of tracking Default t ≤ 95
  default_small =
      let h = held_bits tracking t.modifiers.0 in
      subst (λ n. n ≤ 95) (sym (code_is tracking Default t h)) (small_is _ (default_tells t.button h.s h.a h.c).small)

  default_event : mouse_event (code_of tracking Default t) t.x t.y final_press ≡ told_event tracking t
  default_event =
      let h = held_bits tracking t.modifiers.0 in
      let tells = default_tells t.button h.s h.a h.c in
      event_is tracking t (code_of tracking Default t) final_press
      (ap (λ n. buttons_of (button_of n final_press)) (code_is tracking Default t h) ∙ tells.buttons)
      (modifiers_are tracking Default t h tells.modifiers)

  default_told : Mouse (byte_report (code_of tracking Default t) t.x t.y) ≡ report_told Default tracking t
  default_told =
      let h = held_bits tracking t.modifiers.0 in
      let tells = default_tells t.button h.s h.a h.c in
      let is = code_is tracking Default t h in
      report_is Default tracking t (code_of tracking Default t) default_event (ap named_button is ∙ tells.named)
      (ap (λ n. byte_kind_of n (named_button n)) is ∙ tells.kind)

  default_extra : (reading : Reading) → ReadsMore reading → reading.x10_mouse ≡ true → t.x ≤ 223 → t.y ≤ 223
      → IsExtra reading (default_text (code_of tracking Default t) t.x t.y) (report_told Default tracking t)
  default_extra reading reads on left top =
      let code = code_of tracking Default t in
      let small = default_small in
      let a : (32 + code) - 32 ≡ code = omega arith in
      let d : (32 + t.x) - 32 ≡ t.x = omega arith in
      let e : (32 + t.y) - 32 ≡ t.y = omega arith in
      record {
        reads = reads;
        is_form = x10_report on (record {
          button = 32 + code;
          x = 32 + t.x;
          y = 32 + t.y;
          form = refl;
          button_is = (omega arith, omega (arith, small));
          x_is = (omega arith, omega (arith, left));
          y_is = (omega arith, omega (arith, top));
        });
        is_free = free_from_none reading _ (no_sequence (32 + code) (32 + t.x) (32 + t.y));
        means = sym (reported_event (32 + code) (32 + t.x) (32 + t.y) (is_asking reading) (omega arith, omega (arith, small)) (omega arith)
            (omega arith)
            ∙ rw (a, d, e) default_told);
      }

-- a place that isn't too far
near : (tracking : MouseTracking) (t : Told) (bytes : List ℕ) → text_with Default (code_of tracking Default t) t ≡ Some bytes
    → (t.x ≤ 223) × (t.y ≤ 223) × (default_text (code_of tracking Default t) t.x t.y ≡ bytes)
near tracking t bytes e = go (nat_lt largest_place t.x) (nat_lt largest_place t.y) refl refl
  where
    go : (a b : Bool) → nat_lt largest_place t.x ≡ a → nat_lt largest_place t.y ≡ b
        → (t.x ≤ 223) × (t.y ≤ 223) × (default_text (code_of tracking Default t) t.x t.y ≡ bytes)
    go true b f g = absurd (let none : None ≡ Some bytes = rw (f) at e in cc (none))
    go false true f g = absurd (let none : None ≡ Some bytes = rw (f, g) at e in cc (none))
    go false false f g =
        let some : Some (default_text (code_of tracking Default t) t.x t.y) ≡ Some bytes = rw (f, g) at e in
        (grind (arith, nat_tests), grind (arith, nat_tests), cc (some))

pub default_read_back : DefaultReadBack
unfolding mouse_text
default_read_back reading report tracking bytes more reads on sends =
    let t = told_by report in
    let sent : text_with Default (code_of tracking Default t) t ≡ Some bytes = rw sends.reported at sends.bytes_are in
    let is = near tracking t bytes sent in
    subst (λ u. extended.Means reading u more (report_told Default tracking t ∷ []) []) is.2
    (means_alone reading _ more _ (default_extra tracking t reading reads on is.0 is.1))
