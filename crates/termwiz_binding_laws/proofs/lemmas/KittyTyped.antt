-- A text that a key types is read as the press of what it tells.
use Rattle.std.proofs.Common.{◌≡◌, ◌∙◌, ◌⊎◌, inl, inr, ⊎_elim, ℕ, Bool, true, false, not, List, [], ◌∷◌, map, Option, Some, None, refl, sym, ap, subst, arith, bit_and, ◌&&◌, ◌||◌, ◌==◌}
use Rattle.std.specs.Prelude.{if◌then◌else◌}
use Rattle.std.specs.Char.{encode_utf8, is_control, is_ascii_control}
use Rattle.std.specs.List.{list_any}
use Rattle.std.specs.Str.{chars}
use Rattle.std.proofs.lemmas.Bool.{and_parts, or_cases, eqb-true, not-true}
use Rattle.std.proofs.lemmas.Bool.Decides.{nat_tests}
use Rattle.std.proofs.lemmas.Nat.{and_assoc}
use Rattle.std.specs.Int.Bits.{and_zero_r}
use Rattle.termwiz_keys.specs.declared.types.KeyCode.{KeyCode}
use Rattle.termwiz_keys.specs.declared.types.KeyCode.TheVariants.{Char, Enter, Tab, Backspace}
use Rattle.termwiz_extended_events.specs.declared.types.KeyReport.{KeyReport}
use Rattle.termwiz_extended_events.specs.declared.types.ReportedKey.{ReportedKey}
use Rattle.termwiz_extended_events.specs.declared.types.ReportedKey.TheVariants.{Named, Functional}
use Rattle.termwiz_extended_events.specs.declared.types.Event.{Event}
use Rattle.termwiz_extended_events.specs.declared.types.Reading.{Reading}
use Rattle.termwiz_extended_grammar.specs.ExtendedGrammar.{Means}
use Rattle.termwiz_kitty.specs.Telling.{is_at_most_shifted, is_bare, is_typed_text, has_control, types, types_character, sends_control}
use Rattle.termwiz_kitty.specs.KittyTexts.{shown, typed_by, typed_text}
use Rattle.termwiz_kitty.specs.KittyLaws.{IsKey, pressed, read_key, characters_pressed, typed_by_events, typed_events}
use Rattle.termwiz_kitty.proofs.lemmas.typed.TypedCharacters.{chars_of_one}
use Rattle.termwiz_kitty.proofs.lemmas.typed.TypedTexts.{IsShown, shown_is, by_itself}
use Rattle.termwiz_bindings.specs.MainKeys as keys
use Rattle.termwiz_bindings.specs.Presses as rules
use Rattle.termwiz_bindings.specs.Letters.{letter_of}
use Rattle.termwiz_bindings.specs.Presses.{canonical, is_counted_text, is_typed, is_shortcut, without_shift, character_press, typed_character, typed_press, all_but_locks}
use Rattle.termwiz_binding_laws.specs.EncodedPresses.{HasFirstSettings, press_of_event}
use Rattle.termwiz_binding_laws.specs.KittyPresses.{takes_text, IsPressed, typed_key, typed_report}
use Rattle.termwiz_binding_laws.proofs.lemmas.ReportsRead.{IsReadWith}
use Rattle.termwiz_binding_laws.proofs.lemmas.KittyReports.{pressed_with, by_parts, counted_same}

-- without SHIFT nothing is held but the locks
pub bare_bits : (bits : ℕ) → is_at_most_shifted bits ≡ true → bit_and (without_shift bits) all_but_locks ≡ 0
bare_bits bits most = and_assoc 63 bits 62 ∙ eqb-true (bit_and bits 62) 0 most

pub no_locks : (bits : ℕ) → bit_and bits all_but_locks ≡ 0 → bit_and (without_shift bits) all_but_locks ≡ 0
no_locks bits none = and_assoc 63 bits 62 ∙ sym (and_assoc 62 bits 63) ∙ ap (λ n. bit_and n 62) none

-- a character with nothing held stays
pub bare_cased : (c : ℕ) → rules.cased_press (character_press c 0) ≡ character_press c 0
unfolding rules.cased_press rules.shown_press rules.lowered_press
bare_cased c = go (letter_of c)
  where
    go : (o : Option ℕ) → rules.lowered_character c 0 o ≡ character_press c 0
    go None = refl
    go (Some letter) = refl

-- the press of a character's key with no modifiers but the locks
pub bare_press : (c bits : ℕ) → is_control c ≡ false → bit_and bits all_but_locks ≡ 0
    → canonical (pressed_with (Named (Char c)) bits None []) ≡ Some (character_press c 0)
unfolding canonical keys.makes_no_press rules.settled rules.plain_press rules.main_press keys.main_of_named keys.main_code
    rules.control_press rules.told_press
bare_press c bits none held =
    let no_control : is_ascii_control c ≡ false = grind (arith, nat_tests) in
    rw (held, no_control) (ap (λ p. Some p) (bare_cased c))

-- a key that sends a control character
pub control_press : (key : KeyCode) (bits : ℕ) → sends_control (Named key) ≡ true → bit_and bits all_but_locks ≡ 0
    → canonical (pressed_with (Named key) bits None []) ≡ Some (record { key = Named key; held = 0 })
unfolding canonical keys.makes_no_press rules.settled rules.plain_press rules.main_press keys.main_of_named keys.main_code
    rules.control_press rules.told_press rules.cased_press rules.shown_press rules.lowered_press
control_press Enter bits e held = rw held refl
control_press Tab bits e held = rw held refl
control_press Backspace bits e held = rw held refl
control_press key bits e held = absurd (cc (e))

-- a typed text of one character
pub typed_canonical : (key : ReportedKey) (bits : ℕ) (shifted : Option ℕ) (text : List ℕ) (c : ℕ) → takes_text key ≡ true
    → is_typed bits text ≡ true → chars text ≡ c ∷ [] → canonical (pressed_with key bits shifted text) ≡ Some (typed_character c bits)
unfolding canonical keys.makes_no_press typed_press
typed_canonical (Named (Char d)) bits shifted text c e typed one = rw (typed, one) refl
typed_canonical (Named key) bits shifted text c e typed one = absurd (cc (e))
typed_canonical (Functional n) bits shifted text c e typed one = rw (e, typed, one) refl

-- without SHIFT
pub typed_bare : (c bits : ℕ) → typed_character c (without_shift bits) ≡ character_press c 0
typed_bare c bits = go (c == 32)
  where
    no_shift : bit_and (bit_and bits 62) 1 ≡ 0
    no_shift = and_assoc 1 bits 62 ∙ and_zero_r bits

    go : (b : Bool) → character_press c (if b then bit_and (bit_and bits 62) 1 else 0) ≡ character_press c 0
    go true = ap (character_press c) no_shift
    go false = refl

pub same_typed : (bits : ℕ) (text : List ℕ) → is_typed (without_shift bits) text ≡ is_typed bits text
same_typed bits text = ap (λ n. is_counted_text text && not (not (n == 0))) (and_assoc 62 bits 62)

pub without_false : (b : Bool) → (b || false) ≡ true → b ≡ true
without_false true e = refl
without_false false e = e

pub or_left_false : (b : Bool) → (b || false) ≡ false → b ≡ false
or_left_false true e = e
or_left_false false e = refl

-- the text of a report that isn't typed is empty, if it has no control character
pub no_text : (text : List ℕ) → is_typed_text text ≡ false → has_control text ≡ false → text ≡ []
no_text [] e f = refl
no_text (b ∷ bs) e f = absurd (let never : not (has_control (b ∷ bs)) ≡ true = ap not f in cc (never, e))

typed_alone : (key : ReportedKey) (r : KeyReport) → is_typed_text r.text ≡ true → typed_text key r ≡ r.text
unfolding typed_text
typed_alone key r e = rw e refl

typed_by_itself : (key : ReportedKey) (r : KeyReport) → is_typed_text r.text ≡ false → typed_text key r ≡ typed_by key r
unfolding typed_text
typed_by_itself key r e = rw e refl

pub at_most_of : (key : ReportedKey) (r : KeyReport) → takes_text key ≡ true → types key r ≡ true → is_at_most_shifted r.modifiers ≡ true
at_most_of (Named (Char d)) r e t = ⊎_elim
    (λ (a : (is_at_most_shifted r.modifiers && (is_typed_text r.text || not (is_control d))) ≡ true).
    (and_parts (is_at_most_shifted r.modifiers) (is_typed_text r.text || not (is_control d)) a).0)
    (λ (b : (false && is_bare r.modifiers) ≡ true). absurd (cc (b)))
    (or_cases (is_at_most_shifted r.modifiers && (is_typed_text r.text || not (is_control d))) (false && is_bare r.modifiers) t)
at_most_of (Named key) r e t = absurd (cc (e))
at_most_of (Functional n) r e t = ⊎_elim
    (λ (a : (is_at_most_shifted r.modifiers && (is_typed_text r.text || false)) ≡ true).
    (and_parts (is_at_most_shifted r.modifiers) (is_typed_text r.text || false) a).0)
    (λ (b : (false && is_bare r.modifiers) ≡ true). absurd (cc (b)))
    (or_cases (is_at_most_shifted r.modifiers && (is_typed_text r.text || false)) (false && is_bare r.modifiers) t)

pub bare_of : (a t b : Bool) → t ≡ false → ((a && (t || false)) || (true && b)) ≡ true → b ≡ true
bare_of true true b e h = absurd (cc (e))
bare_of true false b e h = h
bare_of false t b e h = h

-- one event of the press that is told
abbrev KeepsPress : KeyReport → List Event → Type 0
KeepsPress r events = (event : Event) × (events ≡ event ∷ []) × (press_of_event event ≡ canonical (typed_report r.key r))

-- the byte of Backspace is that key to a parser with its first settings
backspace_read : (reading : Reading) → HasFirstSettings reading → read_key reading Backspace ≡ Backspace
backspace_read reading first = rw (first.reads, first.erase) refl

-- a text that means such events is read with that press
pub kept_read : (reading : Reading) (r : KeyReport) (events : List Event) (text : List ℕ) (more : Bool) → KeepsPress r events
    → Means reading text more events [] → IsReadWith reading text more (canonical (typed_report r.key r))
kept_read reading r events text more kept means = (kept.0, subst (λ es. Means reading text more es []) kept.1 means, kept.2)

module _ (reading : Reading) (first : HasFirstSettings reading) (r : KeyReport) (is : IsPressed r) where
  -- the press of what the text tells, by its parts
  told_parts : canonical (typed_report r.key r)
      ≡ canonical (pressed_with (typed_key r.key r) (without_shift r.modifiers) None r.text)
  told_parts = by_parts (typed_report r.key r) is.kept

  -- the text of the report
  of_text : types r.key r ≡ true → is_typed_text r.text ≡ true → KeepsPress r (characters_pressed r.text)
  of_text types' typed = go is.text
    where
      takes_too : (key : ReportedKey) → takes_text key ≡ true → takes_text (typed_key key r) ≡ true
      takes_too (Named (Char c)) e = refl
      takes_too (Named key) e = absurd (cc (e))
      takes_too (Functional n) e = e

      go : ((r.text ≡ []) ⊎ ((takes_text r.key ≡ true) × ((c : ℕ) × (chars r.text ≡ c ∷ [])))) → KeepsPress r (characters_pressed r.text)
      go (inl none) = absurd (let never : is_typed_text [] ≡ true = subst (λ t. is_typed_text t ≡ true) none typed in cc (never))
      go (inr (takes, (c, one))) =
          let most = at_most_of r.key r takes types' in
          let counts : is_typed (without_shift r.modifiers) r.text ≡ true =
          same_typed r.modifiers r.text ∙ ap (λ b. b && not (is_shortcut r.modifiers)) (counted_same r.text ∙ typed)
          ∙ ap (λ b. not (not b)) most in
          let shown' : is_control c ≡ false =
          or_left_false (is_control c) (sym (ap (λ cs. list_any is_control cs) one) ∙ is.writable.no_control) in (
            pressed (Char c),
            ap (λ cs. map (λ d. pressed (Char d)) cs) one,
            bare_press c 0 shown' refl
                ∙ sym (told_parts
                ∙ typed_canonical (typed_key r.key r) (without_shift r.modifiers) None r.text c (takes_too r.key takes) counts one
                ∙ ap (λ p. Some p) (typed_bare c r.modifiers)),
          )

  -- a character's key by itself
  of_character : (c : ℕ) → r.key ≡ Named (Char c) → r.text ≡ [] → is_control c ≡ false → is_at_most_shifted r.modifiers ≡ true
      → KeepsPress r (characters_pressed (encode_utf8 (shown c r.modifiers r.shifted)))
  of_character c key none no_control most = (
    pressed (Char d),
    ap (λ cs. map (λ e. pressed (Char e)) cs) (chars_of_one d is_shown.scalar),
    bare_press d 0 is_shown.no_control refl ∙ sym told,
  )
    where
      d : ℕ
      d = shown c r.modifiers r.shifted

      is_shown : IsShown (shown c r.modifiers r.shifted)
      is_shown = shown_is c r.modifiers r.shifted (record {
        scalar = subst IsKey key is.report.key_is;
        no_control = no_control;
      }) is.report.shifted_is

      told : canonical (typed_report r.key r) ≡ Some (character_press (shown c r.modifiers r.shifted) 0)
      told =
          told_parts
          ∙ ap (λ k. canonical (pressed_with (typed_key k r) (without_shift r.modifiers) None r.text)) key
          ∙ ap (λ t. canonical (pressed_with (Named (Char (shown c r.modifiers r.shifted))) (without_shift r.modifiers) None t)) none
          ∙ bare_press (shown c r.modifiers r.shifted) (without_shift r.modifiers) is_shown.no_control (bare_bits r.modifiers most)

  -- Enter, Tab or Backspace by itself
  of_control : (key : KeyCode) → r.key ≡ Named key → typed_key (Named key) r ≡ Named key → r.text ≡ []
      → sends_control (Named key) ≡ true → is_bare r.modifiers ≡ true → KeepsPress r (pressed key ∷ [])
  of_control key same typed none sends bare =
      let held : bit_and r.modifiers 63 ≡ 0 = eqb-true (bit_and r.modifiers 63) 0 bare in (
        pressed key,
        refl,
        control_press key 0 sends refl ∙ sym (told_parts
            ∙ ap (λ k. canonical (pressed_with (typed_key k r) (without_shift r.modifiers) None r.text)) same
            ∙ ap (λ k. canonical (pressed_with k (without_shift r.modifiers) None r.text)) typed
            ∙ ap (λ t. canonical (pressed_with (Named key) (without_shift r.modifiers) None t)) none
            ∙ control_press key (without_shift r.modifiers) sends (no_locks r.modifiers held)),
      )

  by_key : (key : ReportedKey) → r.key ≡ key → types key r ≡ true → is_typed_text r.text ≡ false → r.text ≡ []
      → (types_character key || sends_control key) ≡ true → KeepsPress r (typed_by_events reading key (typed_by key r))
  by_key (Named (Char c)) same types' typed none e =
      of_character c same none (not-true (is_control c) (without_false (not (is_control c)) e)) (at_most_of (Named (Char c)) r refl types')
  by_key (Named Enter) same types' typed none e =
      of_control Enter same refl none refl (bare_of (is_at_most_shifted r.modifiers) (is_typed_text r.text) (is_bare r.modifiers) typed types')
  by_key (Named Tab) same types' typed none e =
      of_control Tab same refl none refl (bare_of (is_at_most_shifted r.modifiers) (is_typed_text r.text) (is_bare r.modifiers) typed types')
  by_key (Named Backspace) same types' typed none e =
      subst (λ k. KeepsPress r (pressed k ∷ [])) (sym (backspace_read reading first)) (of_control Backspace same refl none refl
      (bare_of (is_at_most_shifted r.modifiers) (is_typed_text r.text) (is_bare r.modifiers) typed types'))
  by_key (Named key) same types' typed none e = absurd (cc (e))
  by_key (Functional n) same types' typed none e = absurd (cc (e))

  pub text_keeps : (text : List ℕ) → types r.key r ≡ true → text ≡ typed_text r.key r → KeepsPress r (typed_events reading r.key r text)
  text_keeps text types' is_text = go (is_typed_text r.text) refl
    where
      go : (b : Bool) → is_typed_text r.text ≡ b → KeepsPress r (typed_events reading r.key r text)
      go true typed = rw typed
          (subst (λ t. KeepsPress r (characters_pressed t)) (sym (is_text ∙ typed_alone r.key r typed)) (of_text types' typed))
      go false typed = rw typed
          (subst (λ t. KeepsPress r (typed_by_events reading r.key t)) (sym (is_text ∙ typed_by_itself r.key r typed))
          (by_key r.key refl types' typed (no_text r.text typed is.writable.no_control)
          (by_itself (is_at_most_shifted r.modifiers) (is_typed_text r.text) (types_character r.key) (sends_control r.key)
          (is_bare r.modifiers) typed types')))
