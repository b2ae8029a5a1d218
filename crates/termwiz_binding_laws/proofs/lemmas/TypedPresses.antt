-- What a key types tells its press, unless SHIFT is lost.
use Rattle.std.proofs.Common.{◌≡◌, ◌≢◌, ◌∙◌, ◌⊎◌, inl, inr, ℕ, ◌-◌, ◌≤◌, ◌<◌, Bool, true, false, not, List, [], ◌∷◌, map, Option, Some, None, refl, sym, ap, subst, arith, bit_and, ◌&&◌, ◌||◌, ◌==◌}
use Rattle.std.specs.Prelude.{if◌then◌else◌}
use Rattle.std.specs.Char.{is_control, is_ascii_control, is_ascii_lowercase}
use Rattle.std.specs.List.{list_all}
use Rattle.std.specs.Str.{chars}
use Rattle.std.proofs.lemmas.Bool.{eqb-true, eqb-false, not-true}
use Rattle.std.proofs.lemmas.Bool.Decides.{nat_tests}
use Rattle.std.proofs.lemmas.List.Sums.{AllPass-from_list_all}
use Rattle.std.proofs.lemmas.List.Elements.{All-contains}
use Rattle.std.proofs.lemmas.Nat.{and_le_r}
use Rattle.termwiz_keys.specs.declared.types.KeyCode.{KeyCode}
use Rattle.termwiz_keys.specs.declared.types.KeyCode.TheVariants.{Char, Enter, Tab, Backspace}
use Rattle.termwiz_grammar.specs.Table.{numbers}
use Rattle.termwiz_grammar.proofs.lemmas.lists.ListMembers.{same_on}
use Rattle.termwiz_extended_events.specs.declared.types.KeyReport.{KeyReport}
use Rattle.termwiz_extended_events.specs.declared.types.ReportedKey.{ReportedKey}
use Rattle.termwiz_extended_events.specs.declared.types.ReportedKey.TheVariants.{Named, Functional}
use Rattle.termwiz_kitty.specs.LegacyTexts.{without_control}
use Rattle.termwiz_kitty.specs.Telling.{is_shifted, is_at_most_shifted, is_bare, is_typed_text, types, types_character, sends_control}
use Rattle.termwiz_kitty.specs.KittyTexts.{shown}
use Rattle.termwiz_kitty.proofs.lemmas.PortKeys.{at_number}
use Rattle.termwiz_kitty.proofs.lemmas.typed.TypedTexts.{by_itself}
use Rattle.termwiz_bindings.specs.MainKeys as keys
use Rattle.termwiz_bindings.specs.Letters.{is_shifted as is_shifted_character, letter_of, capital_of, has_near_capital, has_far_capital, is_shifted_sign, shown_with_shift}
use Rattle.termwiz_bindings.specs.Presses as rules
use Rattle.termwiz_bindings.specs.Presses.{canonical, counted, is_shortcut, is_typed, without_shift, character_press, typed_character, all_but_locks}
use Rattle.termwiz_binding_laws.specs.KittyPresses.{takes_text, IsPressed, typed_key, typed_report, shows_shift, is_unseen, loses_shift, TypedKeysKeepPresses}
use Rattle.termwiz_binding_laws.proofs.lemmas.KittyReports.{pressed_with, by_parts, counted_same}
use Rattle.termwiz_binding_laws.proofs.lemmas.KittyTyped.{bare_bits, no_locks, bare_cased, bare_press, control_press, typed_canonical, typed_bare, same_typed, no_text, at_most_of, bare_of, without_false}

-- of modifiers with at most SHIFT and the locks only SHIFT is told
abbrev tells_shift : ℕ → Bool
tells_shift bits = not (bit_and bits 62 == 0) || (bit_and bits 63 == bit_and bits 1)

all_tell_shift : list_all tells_shift (numbers 0 256) ≡ true
unfolding numbers
all_tell_shift = refl

told_bits : (bits : ℕ) → bits < 256 → is_at_most_shifted bits ≡ true → bit_and bits all_but_locks ≡ bit_and bits 1
told_bits bits small most =
    let test : tells_shift bits ≡ true = All-contains (λ n. tells_shift n ≡ true) (numbers 0 256) bits
    (AllPass-from_list_all tells_shift (numbers 0 256) all_tell_shift) (at_number 0 256 bits (omega arith) (omega arith)) in
    eqb-true (bit_and bits 63) (bit_and bits 1)
    (subst (λ b. (not b || (bit_and bits 63 == bit_and bits 1)) ≡ true) most test)

unshifted_bits : (bits : ℕ) → is_shifted bits ≡ false → bit_and bits 1 ≡ 0
unshifted_bits bits none = eqb-true (bit_and bits 1) 0 (go (bit_and bits 1 == 0) none)
  where
    go : (b : Bool) → not b ≡ false → b ≡ true
    go true e = refl
    go false e = cc (e)

shifted_bits : (bits : ℕ) → is_shifted bits ≡ true → bit_and bits 1 ≡ 1
shifted_bits bits some =
    let most : bit_and bits 1 ≤ 1 = and_le_r bits 1 in
    let other : bit_and bits 1 ≢ 0 = eqb-false (bit_and bits 1) 0 (not-true (bit_and bits 1 == 0) some) in
    omega arith

-- the press of a character's key, whatever is told: with nothing held
told_bare : (c bits : ℕ) (shifted : Option ℕ) → is_control c ≡ false → bit_and bits all_but_locks ≡ 0
    → canonical (pressed_with (Named (Char c)) bits shifted []) ≡ Some (character_press c 0)
unfolding canonical keys.makes_no_press rules.settled rules.plain_press rules.main_press keys.main_of_named keys.main_code
    rules.control_press rules.told_press
told_bare c bits shifted none held =
    let no_control : is_ascii_control c ≡ false = grind (arith, nat_tests) in
    rw (held, no_control) (ap (λ p. Some p) (ap rules.cased_press (go (counted shifted)) ∙ bare_cased c))
  where
    go : (o : Option ℕ) → rules.told_character c 0 o ≡ character_press c 0
    go None = refl
    go (Some s) = refl

-- with SHIFT, where another one is told
told_other : (c s bits : ℕ) (shifted : Option ℕ) → is_control c ≡ false → bit_and bits all_but_locks ≡ 1
    → counted shifted ≡ Some s → (c == 32) ≡ false
    → canonical (pressed_with (Named (Char c)) bits shifted []) ≡ Some (character_press s 0)
unfolding canonical keys.makes_no_press rules.settled rules.plain_press rules.main_press keys.main_of_named keys.main_code
    rules.control_press rules.told_press
told_other c s bits shifted none held told other =
    let no_control : is_ascii_control c ≡ false = grind (arith, nat_tests) in
    rw (held, no_control, told, other) (ap (λ p. Some p) (bare_cased s))

-- and where none is, of a character that shows it
untold : (c d bits : ℕ) (shifted : Option ℕ) → is_control c ≡ false → bit_and bits all_but_locks ≡ 1
    → counted shifted ≡ None → shown_with_shift c ≡ Some d
    → canonical (pressed_with (Named (Char c)) bits shifted []) ≡ Some (character_press d 0)
unfolding canonical keys.makes_no_press rules.settled rules.plain_press rules.main_press keys.main_of_named keys.main_code
    rules.control_press rules.told_press rules.cased_press rules.shown_press rules.lowered_press
untold c d bits shifted none held told shows =
    let no_control : is_ascii_control c ≡ false = grind (arith, nat_tests) in
    rw (held, no_control, told, shows) (ap (λ p. Some p) (go (letter_of d)))
  where
    go : (o : Option ℕ) → rules.lowered_character d 0 o ≡ character_press d 0
    go None = refl
    go (Some letter) = refl

told_control : (key : KeyCode) (bits : ℕ) (shifted : Option ℕ) → sends_control (Named key) ≡ true → bit_and bits all_but_locks ≡ 0
    → canonical (pressed_with (Named key) bits shifted []) ≡ Some (record { key = Named key; held = 0 })
unfolding canonical keys.makes_no_press rules.settled rules.plain_press rules.main_press keys.main_of_named keys.main_code
    rules.control_press rules.told_press rules.cased_press rules.shown_press rules.lowered_press
told_control Enter bits shifted e held = rw held refl
told_control Tab bits shifted e held = rw held refl
told_control Backspace bits shifted e held = rw held refl
told_control key bits shifted e held = absurd (cc (e))

-- a to z are A to Z with SHIFT
capitals : map shown_with_shift (numbers 97 26) ≡ map (λ c. Some (c - 32)) (numbers 97 26)
unfolding numbers shown_with_shift letter_of capital_of has_near_capital has_far_capital is_shifted_sign
capitals = refl

own_capital : (c : ℕ) → is_ascii_lowercase c ≡ true → shown_with_shift c ≡ Some (c - 32)
own_capital c small =
    let low : 97 ≤ c = grind (arith, nat_tests) in
    let high : c ≤ 122 = grind (arith, nat_tests) in
    same_on shown_with_shift (λ d. Some (d - 32)) (numbers 97 26) c capitals (at_number 97 26 c low (omega arith))

itself : (c : ℕ) → is_shifted_character c ≡ true → shown_with_shift c ≡ Some c
unfolding shown_with_shift
itself c is = rw is refl

same_counted : (o : Option ℕ) → without_control o ≡ counted o
same_counted (Some s) = refl
same_counted None = refl

counted_shown : (o : Option ℕ) (s : ℕ) → counted o ≡ Some s → is_control s ≡ false
counted_shown None s is = cc (is)
counted_shown (Some t) s is = go (is_control t) refl is
  where
    go : (b : Bool) → is_control t ≡ b → (if b then None else Some t) ≡ Some s → is_control s ≡ false
    go true e f = cc (f)
    go false e f = let same : t ≡ s = cc (f) in subst (λ n. is_control n ≡ false) same e

-- what a key shows
shown_told : (c s bits : ℕ) (shifted : Option ℕ) → is_shifted bits ≡ true → counted shifted ≡ Some s → shown c bits shifted ≡ s
shown_told c s bits shifted shift told = rw (shift, same_counted shifted, told) refl

shown_small : (c bits : ℕ) (shifted : Option ℕ) → is_shifted bits ≡ true → counted shifted ≡ None → is_ascii_lowercase c ≡ true
    → shown c bits shifted ≡ c - 32
shown_small c bits shifted shift told small = rw (shift, same_counted shifted, told, small) refl

shown_own : (c bits : ℕ) (shifted : Option ℕ) → is_shifted bits ≡ true → counted shifted ≡ None → is_ascii_lowercase c ≡ false
    → shown c bits shifted ≡ c
shown_own c bits shifted shift told other = rw (shift, same_counted shifted, told, other) refl

shown_bare : (c bits : ℕ) (shifted : Option ℕ) → is_shifted bits ≡ false → shown c bits shifted ≡ c
shown_bare c bits shifted none = rw none refl

module _ (r : KeyReport) (is : IsPressed r) (keeps : loses_shift r ≡ false) where
  -- both presses by their parts
  abbrev Keeps : ReportedKey → List ℕ → Type 0
  Keeps key text = canonical (pressed_with (typed_key key r) (without_shift r.modifiers) None text)
      ≡ canonical (pressed_with key r.modifiers r.shifted text)

  whole : Keeps r.key r.text → canonical (typed_report r.key r) ≡ canonical r
  whole same = by_parts (typed_report r.key r) is.kept ∙ same ∙ sym (by_parts r is.kept)

  -- the text of the report
  of_text : types r.key r ≡ true → is_typed_text r.text ≡ true → Keeps r.key r.text
  of_text types' typed = go is.text
    where
      takes_too : (key : ReportedKey) → takes_text key ≡ true → takes_text (typed_key key r) ≡ true
      takes_too (Named (Char c)) e = refl
      takes_too (Named key) e = absurd (cc (e))
      takes_too (Functional n) e = e

      unspaced : (c : ℕ) → chars r.text ≡ c ∷ [] → typed_character c r.modifiers ≡ character_press c 0
      unspaced c one = at (c == 32) refl
        where
          lost : (is_shifted r.modifiers && (c == 32 || false)) ≡ false
          lost = rw (typed, one) at keeps

          at : (b : Bool) → (c == 32) ≡ b → character_press c (if b then bit_and r.modifiers 1 else 0) ≡ character_press c 0
          at true e = ap (character_press c) (unshifted_bits r.modifiers (no_shift (is_shifted r.modifiers) (rw e at lost)))
            where
              no_shift : (b : Bool) → (b && true) ≡ false → b ≡ false
              no_shift false f = refl
              no_shift true f = cc (f)
          at false e = refl

      go : ((r.text ≡ []) ⊎ ((takes_text r.key ≡ true) × ((c : ℕ) × (chars r.text ≡ c ∷ [])))) → Keeps r.key r.text
      go (inl none) = absurd (let never : is_typed_text [] ≡ true = subst (λ t. is_typed_text t ≡ true) none typed in cc (never))
      go (inr (takes, (c, one))) =
          let most = at_most_of r.key r takes types' in
          let counts : is_typed r.modifiers r.text ≡ true =
          ap (λ b. b && not (is_shortcut r.modifiers)) (counted_same r.text ∙ typed) ∙ ap (λ b. not (not b)) most in
          typed_canonical (typed_key r.key r) (without_shift r.modifiers) None r.text c (takes_too r.key takes)
          (same_typed r.modifiers r.text ∙ counts) one
          ∙ ap (λ p. Some p) (typed_bare c r.modifiers ∙ sym (unspaced c one))
          ∙ sym (typed_canonical r.key r.modifiers r.shifted r.text c takes counts one)

  -- a character's key by itself
  of_character : (c : ℕ) → r.key ≡ Named (Char c) → is_typed_text r.text ≡ false → is_control c ≡ false
      → is_at_most_shifted r.modifiers ≡ true → Keeps (Named (Char c)) []
  of_character c key untyped no_control most = go (is_shifted r.modifiers) refl
    where
      bare : (d : ℕ) → is_control d ≡ false → canonical (pressed_with (Named (Char d)) (without_shift r.modifiers) None []) ≡ Some (character_press d 0)
      bare d none = bare_press d (without_shift r.modifiers) none (bare_bits r.modifiers most)

      shows : (d : ℕ) → shown c r.modifiers r.shifted ≡ d
          → canonical (pressed_with (Named (Char d)) (without_shift r.modifiers) None [])
          ≡ canonical (pressed_with (Named (Char c)) r.modifiers r.shifted []) → Keeps (Named (Char c)) []
      shows d same is_shown = ap (λ e. canonical (pressed_with (Named (Char e)) (without_shift r.modifiers) None [])) same ∙ is_shown

      held : is_shifted r.modifiers ≡ true → bit_and r.modifiers all_but_locks ≡ 1
      held shift = told_bits r.modifiers is.report.fits most ∙ shifted_bits r.modifiers shift

      seen : is_shifted r.modifiers ≡ true → is_unseen c (counted r.shifted) ≡ false
      seen shift = rw (shift, untyped, key) at keeps

      lower : is_shifted r.modifiers ≡ true → counted r.shifted ≡ None → (b : Bool) → is_ascii_lowercase c ≡ b → Keeps (Named (Char c)) []
      lower shift none true small =
          let d : is_control (c - 32) ≡ false = grind (arith, nat_tests) in
          shows (c - 32) (shown_small c r.modifiers r.shifted shift none small)
          (bare (c - 32) d ∙ sym (untold c (c - 32) r.modifiers r.shifted no_control (held shift) none (own_capital c small)))
      lower shift none false other =
          let sees : not (shows_shift c) ≡ false = rw none at (seen shift) in
          let shifted : is_shifted_character c ≡ true = second (is_shifted_character c) (rw other at sees) in
          shows c (shown_own c r.modifiers r.shifted shift none other)
          (bare c no_control ∙ sym (untold c c r.modifiers r.shifted no_control (held shift) none (itself c shifted)))
        where
          second : (b : Bool) → not (false || b) ≡ false → b ≡ true
          second true e = refl
          second false e = cc (e)

      told : is_shifted r.modifiers ≡ true → (o : Option ℕ) → counted r.shifted ≡ o → Keeps (Named (Char c)) []
      told shift None none = lower shift none (is_ascii_lowercase c) refl
      told shift (Some s) some =
          let other : (c == 32) ≡ false = rw some at (seen shift) in
          shows s (shown_told c s r.modifiers r.shifted shift some)
          (bare s (counted_shown r.shifted s some) ∙ sym (told_other c s r.modifiers r.shifted no_control (held shift) some other))

      go : (b : Bool) → is_shifted r.modifiers ≡ b → Keeps (Named (Char c)) []
      go true shift = told shift (counted r.shifted) refl
      go false none =
          shows c (shown_bare c r.modifiers r.shifted none)
          (bare c no_control
          ∙ sym (told_bare c r.modifiers r.shifted no_control (told_bits r.modifiers is.report.fits most ∙ unshifted_bits r.modifiers none)))

  -- Enter, Tab or Backspace by itself
  of_control : (key : KeyCode) → typed_key (Named key) r ≡ Named key → sends_control (Named key) ≡ true → is_bare r.modifiers ≡ true
      → Keeps (Named key) []
  of_control key typed sends bare =
      let held : bit_and r.modifiers 63 ≡ 0 = eqb-true (bit_and r.modifiers 63) 0 bare in
      ap (λ k. canonical (pressed_with k (without_shift r.modifiers) None [])) typed
      ∙ control_press key (without_shift r.modifiers) sends (no_locks r.modifiers held)
      ∙ sym (told_control key r.modifiers r.shifted sends held)

  by_key : (key : ReportedKey) → r.key ≡ key → types key r ≡ true → is_typed_text r.text ≡ false
      → (types_character key || sends_control key) ≡ true → Keeps key []
  by_key (Named (Char c)) same types' typed e =
      of_character c same typed (not-true (is_control c) (without_false (not (is_control c)) e)) (at_most_of (Named (Char c)) r refl types')
  by_key (Named Enter) same types' typed e =
      of_control Enter refl refl (bare_of (is_at_most_shifted r.modifiers) (is_typed_text r.text) (is_bare r.modifiers) typed types')
  by_key (Named Tab) same types' typed e =
      of_control Tab refl refl (bare_of (is_at_most_shifted r.modifiers) (is_typed_text r.text) (is_bare r.modifiers) typed types')
  by_key (Named Backspace) same types' typed e =
      of_control Backspace refl refl (bare_of (is_at_most_shifted r.modifiers) (is_typed_text r.text) (is_bare r.modifiers) typed types')
  by_key (Named key) same types' typed e = absurd (cc (e))
  by_key (Functional n) same types' typed e = absurd (cc (e))

  keeps_press : types r.key r ≡ true → canonical (typed_report r.key r) ≡ canonical r
  keeps_press types' = whole (go (is_typed_text r.text) refl)
    where
      go : (b : Bool) → is_typed_text r.text ≡ b → Keeps r.key r.text
      go true typed = of_text types' typed
      go false typed = subst (Keeps r.key) (sym (no_text r.text typed is.writable.no_control))
          (by_key r.key refl types' typed (by_itself (is_at_most_shifted r.modifiers) (is_typed_text r.text) (types_character r.key)
          (sends_control r.key) (is_bare r.modifiers) typed types'))

pub typed_keys_keep_presses : TypedKeysKeepPresses
typed_keys_keep_presses r is types' keeps = keeps_press r is keeps types'
