-- A twin is its own twin.
use Rattle.std.proofs.Common.{◌≡◌, ◌∙◌, ◌⊎◌, inl, inr, ℕ, ◌≤◌, ◌<◌, Bool, true, false, List, [], ◌∷◌, map, Some, refl, sym, ap, subst, arith, Contains, lit<, ◌&&◌, nat_le, nat_lt}
use Rattle.std.specs.Char.{IsScalar, is_control}
use Rattle.std.proofs.Math.Utf8.{low_scalar}
use Rattle.std.proofs.lemmas.Bool.{and_parts, ltb-true, leb-true}
use Rattle.termwiz_keys.specs.declared.types.KeyCode.{KeyCode}
use Rattle.termwiz_keys.specs.declared.types.KeyCode.TheVariants.{Char, Backspace, Tab, Enter, Escape, Numpad0, Numpad1, Numpad2, Numpad3, Numpad4, Numpad5, Numpad6, Numpad7, Numpad8, Numpad9, Decimal}
use Rattle.termwiz_keys.specs.declared.types.KeyEvent.{KeyEvent}
use Rattle.termwiz_keys.specs.declared.encode.KeyCodeEncodeModes.{KeyCodeEncodeModes}
use Rattle.termwiz_keys.specs.Keys.{key_with}
use Rattle.termwiz_grammar.specs.Table.{numbers}
use Rattle.termwiz_grammar.proofs.lemmas.lists.ListMembers.{pairs, in_map, in_pairs, same_on}
use Rattle.termwiz_laws.proofs.lemmas.further_keys.AlikeModes.{Alike}
use Rattle.termwiz_laws.proofs.lemmas.further_keys.ComputedReadings.{Held, chars}
use Rattle.termwiz_laws.proofs.lemmas.further_keys.SingleKey.{among, among_contains}
use Rattle.termwiz_kitty.proofs.lemmas.PortKeys.{at_number}
use Rattle.termwiz_extended_events.specs.declared.types.Dialect.TheVariants.{Extended}
use Rattle.termwiz_binding_laws.specs.Twins.{SUPER, dropping, is_on, twin, twin_in}
use Rattle.termwiz_binding_laws.specs.EncodedPresses.{any_of_four, IsCovered, IsReadAsPress, IsOwnTwin, TwinsAreTheirOwn, TwinsReadAlike}
use Rattle.termwiz_binding_laws.proofs.lemmas.KeysRead.{IsReadAsKey}
use Rattle.termwiz_binding_laws.proofs.lemmas.AsciiPresses.{printable}
use Rattle.termwiz_binding_laws.proofs.lemmas.EncodedKeys.{covered_sent, presses_of_encoded_keys}
use Rattle.termwiz_binding_laws.proofs.lemmas.ModeClasses.{twin_in_same, InEveryClass, in_all_modes}
use Rattle.termwiz_binding_laws.proofs.lemmas.WideCharacters.{wide_held, wide_twin_is}

-- the keys that twins of characters and of some named keys may have
abbrev is_covered : KeyCode → Bool
is_covered (Char c) = nat_le 32 c && nat_lt c 127
is_covered Backspace = true
is_covered Tab = true
is_covered Enter = true
is_covered Escape = true
is_covered key = false

covered_is : (key : KeyCode) → is_covered key ≡ true → IsCovered key
covered_is (Char c) e =
    let parts = and_parts (nat_le 32 c) (nat_lt c 127) e in
    let high = ltb-true c 127 parts.1 in
    (low_scalar c (omega (arith, high)), leb-true 32 c parts.0, (λ same. omega (arith, high, same)))
covered_is Backspace e = tt
covered_is Tab e = tt
covered_is Enter e = tt
covered_is Escape e = tt
covered_is key e = absurd (cc (e))

-- the twin of a twin, and whether the twin is such a key
abbrev again : KeyCodeEncodeModes → Held → KeyEvent × Bool
again modes p = (
  twin (twin p.0 p.1 modes).key (twin p.0 p.1 modes).modifiers.0 modes,
  is_covered (twin p.0 p.1 modes).key && among any_of_four (twin p.0 p.1 modes).modifiers.0,
)

abbrev settled : KeyCodeEncodeModes → Held → KeyEvent × Bool
settled modes p = (twin p.0 p.1 modes, true)

abbrev AllOwn : List Held → KeyCodeEncodeModes → Type 0
AllOwn cases modes = map (again modes) cases ≡ map (settled modes) cases

abbrev named_keys : List KeyCode
named_keys = Tab ∷ Enter ∷ Escape ∷ Backspace ∷ []

abbrev named : List Held
named = pairs named_keys any_of_four

printable_own : (n : Bool) → InEveryClass (AllOwn printable) n
unfolding twin_in numbers
printable_own n = record {
  xterm_off = λ a. refl;
  xterm_zero = λ a. refl;
  xterm_one = λ a. refl;
  xterm_two = λ a. refl;
  csi_off = λ a. refl;
  csi_zero = λ a. refl;
  csi_one = λ a. refl;
  csi_two = λ a. refl;
}

named_own : (n : Bool) → InEveryClass (AllOwn named) n
unfolding twin_in
named_own n = record {
  xterm_off = λ a. refl;
  xterm_zero = λ a. refl;
  xterm_one = λ a. refl;
  xterm_two = λ a. refl;
  csi_off = λ a. refl;
  csi_zero = λ a. refl;
  csi_one = λ a. refl;
  csi_two = λ a. refl;
}

-- what was computed of a list of keys
by_list : (cases : List Held) (key : KeyCode) (held : ℕ) (modes : KeyCodeEncodeModes) → Contains cases (key, held)
    → AllOwn cases modes → IsOwnTwin (twin key held modes) modes
by_list cases key held modes here test =
    let both = same_on (again modes) (settled modes) cases (key, held) test here in
    let k : KeyEvent = twin key held modes in
    let parts = and_parts (is_covered k.key) (among any_of_four k.modifiers.0) (ap (λ x. x.1) both) in
    record {
      covered = covered_is k.key parts.0;
      set = among_contains any_of_four k.modifiers.0 parts.1;
      own = ap (λ x. x.0) both;
    }

own_alike : (key : KeyCode) (held : ℕ) (a b : KeyCodeEncodeModes) → Alike a b → IsOwnTwin (twin key held b) b → IsOwnTwin (twin key held a) a
own_alike key held a b alike own =
    let k : KeyEvent = twin key held b in
    subst (λ j. IsOwnTwin j a) (sym (twin_in_same Extended a b alike key held))
    (record { covered = own.covered; set = own.set; own = twin_in_same Extended a b alike k.key k.modifiers.0 ∙ own.own })

in_modes : (cases : List Held) (key : KeyCode) (held : ℕ) (modes : KeyCodeEncodeModes) → Contains cases (key, held)
    → InEveryClass (AllOwn cases) modes.newline_mode → IsOwnTwin (twin key held modes) modes
in_modes cases key held modes here all =
    in_all_modes (AllOwn cases) (λ m. IsOwnTwin (twin key held m) m) (λ m test. by_list cases key held m here test)
    (own_alike key held) modes all

-- what a twin beyond ASCII holds
wide_again : (on control : Bool) → map (λ held. wide_held on control (wide_held on control held)) any_of_four
    ≡ map (wide_held on control) any_of_four
wide_again true true = refl
wide_again true false = refl
wide_again false control = refl

wide_sets : (on control : Bool) → map (λ held. among any_of_four (wide_held on control held)) any_of_four ≡ map (λ held. true) any_of_four
wide_sets true true = refl
wide_sets true false = refl
wide_sets false control = refl

-- what a key holds without SUPER
again_without_super : map (λ held. dropping (dropping held SUPER) SUPER) any_of_four ≡ map (λ held. dropping held SUPER) any_of_four
again_without_super = refl

sets_without_super : map (λ held. among any_of_four (dropping held SUPER)) any_of_four ≡ map (λ held. true) any_of_four
sets_without_super = refl

wide_own : (c held : ℕ) (modes : KeyCodeEncodeModes) → IsScalar c → 128 ≤ c → Contains any_of_four held
    → IsOwnTwin (twin (Char c) held modes) modes
wide_own c held modes scalar high here =
    subst (λ j. IsOwnTwin j modes) (sym (wide_twin_is Extended c held modes high)) (record {
      covered = (scalar, omega arith, (λ del. omega arith));
      set = among_contains any_of_four (its held)
          (same_on (λ h. among any_of_four (its h)) (λ h. true) any_of_four held (wide_sets (is_on modes) (is_control c)) here);
      own = wide_twin_is Extended c (its held) modes high ∙ ap (λ h. key_with (Char c) h)
          (same_on (λ h. its (its h)) its any_of_four held (wide_again (is_on modes) (is_control c)) here);
    })
  where
    its : ℕ → ℕ
    its h = wide_held (is_on modes) (is_control c) h

character_own : (c held : ℕ) (modes : KeyCodeEncodeModes) → IsCovered (Char c) → Contains any_of_four held
    → IsOwnTwin (twin (Char c) held modes) modes
character_own c held modes covered here = go (below_or_not 128)
  where
    below_or_not : (n : ℕ) → (c < n) ⊎ (n ≤ c)
    below_or_not n = grind arith

    go : (c < 128) ⊎ (128 ≤ c) → IsOwnTwin (twin (Char c) held modes) modes
    go (inl small) = in_modes printable (Char c) held modes
        (in_pairs (chars (numbers 32 95)) any_of_four (Char c) held
        (in_map (λ d. Char d) (numbers 32 95) c (at_number 32 95 c covered.1 (omega (arith, covered.2)))) here)
        (printable_own modes.newline_mode)
    go (inr high) = wide_own c held modes covered.0 high here

-- a key whose twin loses SUPER alone
steady_own : (key : KeyCode) (held : ℕ) (modes : KeyCodeEncodeModes) → IsCovered key → Contains any_of_four held
    → ((h : ℕ) → twin key h modes ≡ key_with key (dropping h SUPER)) → IsOwnTwin (twin key held modes) modes
steady_own key held modes covered here loses =
    subst (λ k. IsOwnTwin k modes) (sym (loses held)) (record {
      covered = covered;
      set = among_contains any_of_four (dropping held SUPER)
          (same_on (λ h. among any_of_four (dropping h SUPER)) (λ h. true) any_of_four held sets_without_super here);
      own = loses (dropping held SUPER) ∙ ap (λ h. key_with key h)
          (same_on (λ h. dropping (dropping h SUPER) SUPER) (λ h. dropping h SUPER) any_of_four held again_without_super here);
    })

pub twins_are_their_own : TwinsAreTheirOwn
unfolding twin_in
twins_are_their_own (Char c) held modes covered here = character_own c held modes covered here
twins_are_their_own Tab held modes covered here =
    in_modes named Tab held modes (in_pairs named_keys any_of_four Tab held (0, lit< tt, refl) here) (named_own modes.newline_mode)
twins_are_their_own Enter held modes covered here =
    in_modes named Enter held modes (in_pairs named_keys any_of_four Enter held (1, lit< tt, refl) here) (named_own modes.newline_mode)
twins_are_their_own Escape held modes covered here =
    in_modes named Escape held modes (in_pairs named_keys any_of_four Escape held (2, lit< tt, refl) here) (named_own modes.newline_mode)
twins_are_their_own Backspace held modes covered here =
    in_modes named Backspace held modes (in_pairs named_keys any_of_four Backspace held (3, lit< tt, refl) here) (named_own modes.newline_mode)
twins_are_their_own Numpad0 held modes covered here = absurd covered
twins_are_their_own Numpad1 held modes covered here = absurd covered
twins_are_their_own Numpad2 held modes covered here = absurd covered
twins_are_their_own Numpad3 held modes covered here = absurd covered
twins_are_their_own Numpad4 held modes covered here = absurd covered
twins_are_their_own Numpad5 held modes covered here = absurd covered
twins_are_their_own Numpad6 held modes covered here = absurd covered
twins_are_their_own Numpad7 held modes covered here = absurd covered
twins_are_their_own Numpad8 held modes covered here = absurd covered
twins_are_their_own Numpad9 held modes covered here = absurd covered
twins_are_their_own Decimal held modes covered here = absurd covered
twins_are_their_own key held modes covered here = steady_own key held modes covered here (λ h. refl)

pub twins_read_alike : TwinsReadAlike
twins_read_alike reading key held modes text second first covered here alone alone_too sends sends_too some some_too =
    let k : KeyEvent = twin key held modes in
    let own = twins_are_their_own key held modes covered here in
    let one = presses_of_encoded_keys reading key held modes text first (covered_sent key covered) here alone.newline alone.apart sends some in
    let too = subst (λ j. IsReadAsKey reading second j) own.own
    (presses_of_encoded_keys reading k.key k.modifiers.0 modes second first (covered_sent k.key own.covered) own.set alone_too.newline alone_too.apart sends_too
    some_too) in
    let e : Some too.0 ≡ Some one.0 = sym too.1 ∙ one.1 in
    let same : too.0 ≡ one.0 = cc (e) in
    (one.0, one.2, subst (λ p. IsReadAsPress reading second p) same too.2)
