-- A report that a terminal writes keeps its press, with flags that tell presses.
use Rattle.std.proofs.Common.{◌≡◌, ◌∙◌, ℕ, Bool, true, false, not, List, [], ◌∷◌, Option, None, refl, sym, ap, bit_and, ◌&&◌, ◌||◌}
use Rattle.std.specs.Prelude.{if◌then◌else◌}
use Rattle.std.proofs.lemmas.Bool.{and_right}
use Rattle.std.proofs.lemmas.Nat.{and_assoc}
use Rattle.termwiz_keys.specs.KeyCodes.{holds}
use Rattle.termwiz_extended_events.specs.declared.types.KeyReport.{KeyReport}
use Rattle.termwiz_extended_events.specs.declared.types.KeyEventKind.{KeyEventKind}
use Rattle.termwiz_extended_events.specs.declared.types.KeyEventKind.TheVariants.{Press, Repeat, Release}
use Rattle.termwiz_extended_events.specs.declared.types.ReportedKey.{ReportedKey}
use Rattle.termwiz_kitty.specs.KeyForms.{form_of, normal_key, is_character}
use Rattle.termwiz_kitty.specs.Telling.{ALTERNATE_KEYS, ASSOCIATED_TEXT, is_release, is_shifted, is_at_most_shifted, is_bare, is_typed_text, has_text, types, types_character, sends_control, is_legacy, told_key, told_shifted, told_text, hides_locks, tells_all_keys, tells_event_types, reported}
use Rattle.termwiz_bindings.specs.Presses as rules
use Rattle.termwiz_bindings.specs.Presses.{canonical, is_counted_text, is_typed, is_shortcut, all_but_locks}
use Rattle.termwiz_bindings.proofs.lemmas.EventModifiers.{locks_change_nothing}
use Rattle.termwiz_binding_laws.specs.KittyPresses.{TellsPresses, IsPressed, told_of}

-- a press by what decides it
abbrev pub pressed_with : ReportedKey → ℕ → Option ℕ → List ℕ → KeyReport
pressed_with key bits shifted text = record {
  key = key;
  modifiers = bits;
  kind = Press;
  shifted = shifted;
  base = None;
  text = text;
}

-- the kinds of events are told alike
same_release : (kind : KeyEventKind) → rules.is_release kind ≡ is_release kind
same_release Press = refl
same_release Repeat = refl
same_release Release = refl

pub by_parts : (r : KeyReport) → is_release r.kind ≡ false → canonical r ≡ canonical (pressed_with r.key r.modifiers r.shifted r.text)
unfolding canonical
by_parts r kept = rw (same_release r.kind ∙ kept) refl

-- a text that isn't typed says nothing
pub untyped : (key : ReportedKey) (bits : ℕ) (shifted : Option ℕ) (text : List ℕ) → is_typed bits text ≡ false
    → canonical (pressed_with key bits shifted text) ≡ canonical (pressed_with key bits shifted [])
unfolding canonical
untyped key bits shifted text none = rw (none, and_right (rules.may_type key) false refl) refl

-- two reports with the same parts have the same press
same_press : (q r : KeyReport) → is_release q.kind ≡ false → is_release r.kind ≡ false → q.key ≡ r.key
    → bit_and q.modifiers all_but_locks ≡ bit_and r.modifiers all_but_locks → q.shifted ≡ r.shifted
    → canonical (pressed_with r.key r.modifiers r.shifted q.text) ≡ canonical (pressed_with r.key r.modifiers r.shifted r.text)
    → canonical q ≡ canonical r
same_press q r a b key held shifted text =
    by_parts q a
    ∙ ap (λ k. canonical (pressed_with k q.modifiers q.shifted q.text)) key
    ∙ ap (λ s. canonical (pressed_with r.key q.modifiers s q.text)) shifted
    ∙ locks_change_nothing (pressed_with r.key r.modifiers r.shifted q.text) q.modifiers held
    ∙ text ∙ sym (by_parts r b)

pub counted_same : (text : List ℕ) → is_counted_text text ≡ is_typed_text text
counted_same [] = refl
counted_same (b ∷ bs) = refl

hidden : (b : Bool) (bits : ℕ) → bit_and (if b then bit_and bits 63 else bits) all_but_locks ≡ bit_and bits all_but_locks
hidden true bits = and_assoc 63 bits 63
hidden false bits = refl

kind_kept : (b : Bool) (kind : KeyEventKind) → is_release kind ≡ false → is_release (if b then kind else Press) ≡ false
kind_kept true kind e = e
kind_kept false kind e = refl

-- what isn't typed has no text that counts
no_text : (at_most typed character control bare : Bool) → ((at_most && (typed || character)) || (control && bare)) ≡ false
    → (typed && at_most) ≡ false
no_text true true x y z e = cc (e)
no_text true false x y z e = refl
no_text false true x y z e = refl
no_text false false x y z e = refl

twice_not : (b : Bool) → not (not b) ≡ b
twice_not true = refl
twice_not false = refl

-- where keys are reported, each is told by its own name
pub own_key : (r : KeyReport) (flags : ℕ) → is_legacy flags ≡ false → told_key r flags ≡ r.key
own_key r flags reports = rw reports refl

module _ (r : KeyReport) (flags : ℕ) (key : ReportedKey) (told : told_key r flags ≡ key) (is : IsPressed (record r { key = key })) where
  -- what it types with Shift
  shifted_told : told_shifted r flags ≡ (told_of r flags).shifted
  shifted_told = go (holds flags ALTERNATE_KEYS) refl (is_character key) refl (is_shifted r.modifiers) refl
    where
      go : (a : Bool) → holds flags ALTERNATE_KEYS ≡ a → (c : Bool) → is_character key ≡ c → (s : Bool) → is_shifted r.modifiers ≡ s
          → told_shifted r flags ≡ (told_of r flags).shifted
      go false a c e s f = rw a refl
      go true a true e true f = rw (told, a, e, f) refl
      go true a true e false f = rw (told, a, e, f) (sym (is.writable.shifted f))
      go true a false e s f = rw (told, a, e) (sym (is.writable.alternates e).0)

  -- and its text
  text_told : told_text r flags ≡ (told_of r flags).text
  text_told = go (tells_all_keys flags) refl (holds flags ASSOCIATED_TEXT) refl (has_text (form_of key)) refl
    where
      go : (a : Bool) → tells_all_keys flags ≡ a → (t : Bool) → holds flags ASSOCIATED_TEXT ≡ t → (b : Bool) → has_text (form_of key) ≡ b
          → told_text r flags ≡ (told_of r flags).text
      go false a t e b f = rw (a, and_right (holds flags ASSOCIATED_TEXT) false refl) refl
      go true a false e b f = rw (a, e) refl
      go true a true e true f = rw (told, a, e, f, is.writable.no_control) refl
      go true a true e false f = rw (told, a, e, f) (sym (is.writable.text f))

  -- the report tells the press of this key
  pub report_tells : canonical (reported r flags) ≡ canonical (told_of (record r { key = key }) flags)
  unfolding reported
  report_tells =
      same_press (reported r flags) (told_of (record r { key = key }) flags) (kind_kept (tells_event_types flags) r.kind is.kept) is.kept
      (ap normal_key told ∙ is.writable.normal) (hidden (hides_locks r flags) r.modifiers) shifted_told
      (ap (λ t. canonical (pressed_with key r.modifiers (told_of r flags).shifted t)) text_told)

-- flags that tell presses ask for reports
pub reports_keys : (flags : ℕ) → TellsPresses flags → is_legacy flags ≡ false
reports_keys flags asks = rw asks.keys refl

module _ (r : KeyReport) (flags : ℕ) (is : IsPressed r) (asks : TellsPresses flags) where
  -- what isn't typed has no text that counts
  is_untyped : types r.key r ≡ false → is_typed r.modifiers r.text ≡ false
  is_untyped none =
      ap (λ b. b && not (is_shortcut r.modifiers)) (counted_same r.text)
      ∙ ap (λ b. is_typed_text r.text && b) (twice_not (is_at_most_shifted r.modifiers))
      ∙ no_text (is_at_most_shifted r.modifiers) (is_typed_text r.text) (types_character r.key)
      (sends_control r.key) (is_bare r.modifiers) none

  -- a report that isn't a text tells all of its press
  pub all_told : (tells_all_keys flags ≡ false → types r.key r ≡ false) → canonical (told_of r flags) ≡ canonical r
  all_told unless =
      by_parts (told_of r flags) is.kept
      ∙ ap (λ s. canonical (pressed_with r.key r.modifiers s (told_of r flags).text)) shifted
      ∙ text (tells_all_keys flags) refl ∙ sym (by_parts r is.kept)
    where
      shifted : (told_of r flags).shifted ≡ r.shifted
      shifted = rw asks.shifted refl

      text : (b : Bool) → tells_all_keys flags ≡ b
          → canonical (pressed_with r.key r.modifiers r.shifted (told_of r flags).text)
          ≡ canonical (pressed_with r.key r.modifiers r.shifted r.text)
      text true all = rw (all, asks.text all) refl
      text false some = rw some (sym (untyped r.key r.modifiers r.shifted r.text (is_untyped (unless some))))
