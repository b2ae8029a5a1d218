-- What is written as before Kitty's protocol is read as the press of the key, of its twin, or of what a report tells.
use Rattle.std.proofs.Common.{Contains, ◌≡◌, ◌≢◌, ◌∙◌, ℕ, ◌<◌, Bool, true, false, not, List, [], Option, Some, None, refl, sym, ap, subst, arith, ◌&&◌}
use Rattle.std.specs.Prelude.{is_some, if◌then◌else◌}
use Rattle.std.proofs.lemmas.Bool.{and_parts, and_right, not-true}
use Rattle.std.proofs.lemmas.Nat.{and_le_r}
use Rattle.termwiz_keys.specs.KeyCodes.{holds}
use Rattle.termwiz_keys.specs.declared.types.KeyCode.TheVariants.{Char, Tab, Backspace}
use Rattle.termwiz_extended_events.specs.declared.types.KeyReport.{KeyReport}
use Rattle.termwiz_extended_events.specs.declared.types.Event.TheVariants.{Key}
use Rattle.termwiz_extended_events.specs.declared.types.Reading.{Reading}
use Rattle.termwiz_extended_events.specs.declared.types.ReportedKey.{ReportedKey}
use Rattle.termwiz_extended_events.specs.declared.types.ReportedKey.TheVariants.{Named, Functional}
use Rattle.termwiz_extended_grammar.specs.ExtendedGrammar.{Means}
use Rattle.termwiz_kitty.specs.KeyForms.{main_key}
use Rattle.termwiz_kitty.specs.LegacyTexts.{legacy_text}
use Rattle.termwiz_kitty.specs.Telling.{DISAMBIGUATE, is_press, types, sends_control, is_typed_text, is_legacy, told_kind, told_key, tells_all_keys, is_silent_modifier, telling, reported}
use Rattle.termwiz_kitty.specs.KittyTexts.{kitty_text, typed_by, typed_text, IsWithin}
use Rattle.termwiz_kitty.specs.KittyLaws.{typed_events}
use Rattle.termwiz_kitty.proofs.lemmas.read_back.SequencesMean.{kitty_read_back}
use Rattle.termwiz_kitty.proofs.lemmas.typed.TypedTexts.{typed_read_back}
use Rattle.termwiz_bindings.specs.Presses.{canonical, without_shift}
use Rattle.termwiz_binding_laws.specs.EncodedPresses.{HasFirstSettings}
use Rattle.termwiz_binding_laws.specs.KittyPresses.{IsPressed, typed_key, typed_report, told_of, held_before, presses_that_wait}
use Rattle.termwiz_binding_laws.proofs.lemmas.ReportsRead.{PressesBeforeKitty, IsReadWith, is_listed_before, press_before, BeginsLongerBefore}
use Rattle.termwiz_binding_laws.specs.LegacyTwins.{legacy_twin}
use Rattle.termwiz_binding_laws.proofs.lemmas.KittyReports.{report_tells}
use Rattle.termwiz_binding_laws.proofs.lemmas.KittyTyped.{kept_read, text_keeps}
use Rattle.termwiz_binding_laws.proofs.lemmas.ToldKeys.{same_key_press, main_alike, told, told_pressed, main_is_normal}
use Rattle.termwiz_binding_laws.proofs.lemmas.TwinSources.{text_before}
use Rattle.termwiz_binding_laws.proofs.lemmas.TwinTexts.{twin_read}

some_is : {A : Type 0} (o : Option A) → is_some o ≡ true → (a : A) × (o ≡ Some a)
some_is (Some a) e = (a, refl)
some_is None e = cc (e)

none_is : {A : Type 0} (o : Option A) → is_some o ≡ false → o ≡ None
none_is (Some a) e = cc (e)
none_is None e = refl

-- what a key types by itself is the same of its report with another key
typed_same : (key k : ReportedKey) (r : KeyReport) → typed_by key (record r { key = k }) ≡ typed_by key r
typed_same (Named (Char c)) k r = refl
typed_same (Named Tab) k r = refl
typed_same (Named Backspace) k r = refl
typed_same (Named key) k r = refl
typed_same (Functional n) k r = refl

typed_text_same : (key k : ReportedKey) (r : KeyReport) → typed_text key r ≡ typed_text key (record r { key = k })
unfolding typed_text
typed_text_same key k r = ap (λ s. if is_typed_text r.text then r.text else s) (sym (typed_same key k r))

-- and so is what its text tells
typed_key_same : (key k : ReportedKey) (r : KeyReport) → typed_key key (record r { key = k }) ≡ typed_key key r
typed_key_same (Named (Char c)) k r = refl
typed_key_same (Named key) k r = refl
typed_key_same (Functional n) k r = refl

typed_press_same : (key k : ReportedKey) (r : KeyReport)
    → canonical (typed_report key (record r { key = k })) ≡ canonical (typed_report key r)
typed_press_same key k r =
    ap (λ (n : ReportedKey). canonical (record r { key = n; modifiers = without_shift r.modifiers; shifted = None })) (typed_key_same key k r)

module _ (reading : Reading) (r : KeyReport) (flags : ℕ) (text : List ℕ) (more : Bool) (first : HasFirstSettings reading) (is : IsPressed r)
    (before : is_legacy flags ≡ true) (tables : more ≡ true → ¬ BeginsLongerBefore r flags)
    (writes : kitty_text r flags ≡ Some text) (some : text ≢ []) (within : IsWithin r flags text) where
  key_told : told_key r flags ≡ main_key r.key
  key_told = rw before refl

  not_all : tells_all_keys flags ≡ false
  not_all = not-true (tells_all_keys flags) (and_parts (not (holds flags DISAMBIGUATE)) (not (tells_all_keys flags)) before).1

  small : held_before r < 64
  small = omega (arith, and_le_r r.modifiers 63)

  -- no modifier key is sent
  silent : is_silent_modifier r flags ≡ true → ⊥
  unfolding kitty_text telling
  silent e = some (let none : Some [] ≡ Some text = rw (is.kept, e) at writes in let same : [] ≡ text = cc (none) in sym same)

  abbrev Read : Type 0
  Read = IsReadWith reading text more (press_before r flags)

  module _ (sent : is_silent_modifier r flags ≡ false) where
    no_control : (sends_control (main_key r.key) && false) ≡ false
    no_control = and_right (sends_control (main_key r.key)) false refl

    -- the text that a key types
    typed : types (main_key r.key) r ≡ true → Read
    unfolding kitty_text telling
    typed types' =
        let written : Some (typed_text (told_key r flags) r) ≡ Some text = rw (before, is.kept, sent, types', no_control, not_all) at writes in
        let same : typed_text (told_key r flags) r ≡ text = cc (written) in
        let is_text : text ≡ typed_text (main_key r.key) (told r) =
        sym same ∙ ap (λ k. typed_text k r) key_told ∙ typed_text_same (main_key r.key) (main_key r.key) r in
        let means : Means reading text more (typed_events reading (main_key r.key) r text) [] =
        subst (λ k. Means reading text more (typed_events reading k r text) []) key_told
        (typed_read_back reading r flags text more is.report (rw (before, is.kept, sent, types', no_control, not_all) refl) writes) in
        let press : press_before r flags ≡ canonical (typed_report (main_key r.key) r) = rw (before, types') refl in
        subst (IsReadWith reading text more) (typed_press_same (main_key r.key) (main_key r.key) r ∙ sym press)
        (kept_read reading (told r) (typed_events reading (main_key r.key) r text) text more (text_keeps reading first (told r) (told_pressed r is) text types' is_text)
        means)

    -- what is told is a report, of this press
    report_press : canonical (reported r flags) ≡ canonical (told_of r flags)
    report_press =
        report_tells r flags (main_key r.key) key_told (told_pressed r is)
        ∙ same_key_press (told_of r flags) (main_key r.key) (main_alike r.key)

    -- a repeat is told as a report, where such are told
    repeated : types (main_key r.key) r ≡ false → is_press (told_kind flags r.kind) ≡ false → Read
    unfolding telling
    repeated types' press =
        let own : press_before r flags ≡ canonical (told_of r flags) = rw (before, types', press) refl in (
          Key (reported r flags),
          kitty_read_back reading r flags text more first.reads is.report
              (rw (before, is.kept, sent, types', no_control, press, not_all) refl) writes
              (within (rw (before, is.kept, sent, types', no_control, press, not_all) refl)),
          report_press ∙ sym own,
        )

    module _ (types' : types (main_key r.key) r ≡ false) (press : is_press (told_kind flags r.kind) ≡ true) where
      -- a press without a text in the tables
      without_text : is_some (legacy_text (main_key r.key) (held_before r) r.shifted) ≡ false → Read
      unfolding telling
      without_text e =
          let none = none_is (legacy_text (main_key r.key) (held_before r) r.shifted) e in
          let own : press_before r flags ≡ canonical (told_of r flags) = rw (before, types', press, none) refl in (
            Key (reported r flags),
            kitty_read_back reading r flags text more first.reads is.report
                (rw (before, is.kept, sent, types', no_control, press, not_all, none) refl) writes
                (within (rw (before, is.kept, sent, types', no_control, press, not_all, none) refl)),
            report_press ∙ sym own,
          )

      -- and with one
      with_text : is_some (legacy_text (main_key r.key) (held_before r) r.shifted) ≡ true → Read
      unfolding kitty_text telling
      with_text e =
          let found = some_is (legacy_text (main_key r.key) (held_before r) r.shifted) e in
          let same : text_before (main_key r.key) (held_before r) r.shifted ≡ kitty_text r flags =
          rw (before, is.kept, sent, types', no_control, press, not_all, found.1) refl in
          let own : press_before r flags ≡ canonical (legacy_twin (main_key r.key) (held_before r) r.shifted) =
          rw (before, types', press, found.1) refl in
          let listed : is_listed_before r flags ≡ true = rw (before, types', press, found.1) refl in
          subst (IsReadWith reading text more) (sym own)
          (twin_read reading first r.shifted text more some (main_key r.key) (held_before r) (main_is_normal r.key is.writable.normal) small
          is.report.shifted_is (same ∙ writes)
          (λ comes waits. tables comes (listed, subst (Contains presses_that_wait) (sym own) waits)))

    by_kind : (t : Bool) → types (main_key r.key) r ≡ t → (p : Bool) → is_press (told_kind flags r.kind) ≡ p
        → (b : Bool) → is_some (legacy_text (main_key r.key) (held_before r) r.shifted) ≡ b → Read
    by_kind true t p q b e = typed t
    by_kind false t false q b e = repeated t q
    by_kind false t true q true e = with_text t q e
    by_kind false t true q false e = without_text t q e

  found : (b : Bool) → is_silent_modifier r flags ≡ b → Read
  found true e = absurd (silent e)
  found false e = by_kind e (types (main_key r.key) r) refl (is_press (told_kind flags r.kind)) refl
      (is_some (legacy_text (main_key r.key) (held_before r) r.shifted)) refl

  is_read : Read
  is_read = found (is_silent_modifier r flags) refl

pub presses_before_kitty : PressesBeforeKitty
presses_before_kitty reading r flags text more first is before tables writes some within =
    is_read reading r flags text more first is before tables writes some within
