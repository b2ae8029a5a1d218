-- ESC and a character is read as that character with ALT.
use Rattle.std.proofs.Common.{◌≡◌, ◌≢◌, ◌∙◌, ◌⊎◌, ⊎_elim, ℕ, ◌≤◌, ◌<◌, Bool, true, false, not, List, [], ◌∷◌, map, length, Some, refl, sym, ap, subst, arith, Contains, ◌||◌, nat_le}
use Rattle.std.specs.List.{list_all}
use Rattle.std.specs.Char.{encode_utf8, is_control, is_ascii_control, is_ascii_alphabetic, is_ascii_alphanumeric, is_ascii_punctuation, is_ascii_digit}
use Rattle.std.proofs.lemmas.Bool.{and_right, not-true}
use Rattle.std.proofs.lemmas.Bool.Decides.{nat_tests}
use Rattle.std.proofs.lemmas.List.Sums.{AllPass-from_list_all}
use Rattle.std.proofs.lemmas.List.Elements.{All-contains}
use Rattle.termwiz_keys.specs.declared.types.KeyEvent.{KeyEvent}
use Rattle.termwiz_keys.specs.declared.types.KeyCode.TheVariants.{Char}
use Rattle.termwiz_keys.specs.Encoding.{enc, key_text, char_text, plain_char_text, other_text}
use Rattle.termwiz_keys.specs.Keys as port
use Rattle.termwiz_keys.specs.Keys.{key_with}
use Rattle.termwiz_grammar.specs.Table.{numbers}
use Rattle.termwiz_grammar.proofs.lemmas.lists.ListMembers.{same_on}
use Rattle.termwiz_laws.proofs.lemmas.first_bytes.EncodedBytes.{IsSeveral, encode_forms}
use Rattle.termwiz_laws.proofs.lemmas.further_keys.ComputedReadings.{enc_written_out}
use Rattle.termwiz_laws.proofs.lemmas.further_keys.FurtherReadings.{bits}
use Rattle.termwiz_laws.proofs.lemmas.further_keys.SingleCharacters.{key_with_alt, held_with_alt}
use Rattle.termwiz_laws.proofs.lemmas.further_keys.SingleKey.{among_contains}
use Rattle.termwiz_extended_events.specs.declared.types.Dialect.{Dialect}
use Rattle.termwiz_extended_events.specs.declared.types.Dialect.TheVariants.{Extended, Termwiz}
use Rattle.termwiz_extended_events.specs.declared.types.Reading.{Reading}
use Rattle.termwiz_kitty.specs.LegacyTexts.{ALT}
use Rattle.termwiz_kitty.specs.KittyLaws.{press_of}
use Rattle.termwiz_kitty.proofs.lemmas.PortKeys.{xterm_modes, at_number}
use Rattle.termwiz_kitty.proofs.lemmas.typed.TypedCharacters.{low_is_control}
use Rattle.termwiz_kitty.proofs.lemmas.typed.TypedTexts.{IsShown}
use Rattle.termwiz_bindings.specs.Presses.{canonical}
use Rattle.termwiz_binding_laws.specs.Twins.{shown_twin, twin_with_super, twin_in}
use Rattle.termwiz_binding_laws.specs.EncodedPresses.{HasFirstSettings, any_of_four, IsCovered, press_of_key}
use Rattle.termwiz_binding_laws.proofs.lemmas.AtOnce.{IsWhole}
use Rattle.termwiz_binding_laws.proofs.lemmas.ComputedPresses.{canonical_written_out}
use Rattle.termwiz_binding_laws.proofs.lemmas.EncodedKeys.{covered_sent, presses_of_encoded_keys, presses_by_port}
use Rattle.termwiz_binding_laws.proofs.lemmas.TextPresses.{is_replaced, ReadsAs, reads_as, whole_of}

escape_sent : map (λ d. enc (Char d) (bits port.ALT) xterm_modes) (numbers 32 95) ≡ map (λ d. Some (27 ∷ encode_utf8 d)) (numbers 32 95)
unfolding enc_written_out numbers
escape_sent = refl

wide_sent : (d : ℕ) → 128 ≤ d → enc (Char d) (bits port.ALT) xterm_modes ≡ Some (27 ∷ encode_utf8 d)
unfolding enc key_text char_text plain_char_text other_text
wide_sent d high =
    let no_letter : is_ascii_alphanumeric d || is_ascii_punctuation d ≡ false = grind (arith, nat_tests) in
    rw (key_with_alt d (λ e. omega arith) (λ e. omega arith), held_with_alt d, no_letter)

-- ALT alone stays
alt_twin : (dialect : Dialect) (d : ℕ) → twin_with_super dialect (Char d) port.ALT xterm_modes ≡ key_with (Char d) port.ALT
alt_twin dialect d = go (nat_le 128 d) refl (is_ascii_punctuation d) refl (is_ascii_alphabetic d) refl
  where
    go : (w : Bool) → nat_le 128 d ≡ w → (p : Bool) → is_ascii_punctuation d ≡ p → (a : Bool) → is_ascii_alphabetic d ≡ a
        → twin_with_super dialect (Char d) port.ALT xterm_modes ≡ key_with (Char d) port.ALT
    go true e p f a g = rw e refl
    go false e true f true g = rw (e, f, g) refl
    go false e true f false g = rw (e, f, g) refl
    go false e false f true g = rw (e, f, g) refl
    go false e false f false g = rw (e, f, g) refl

-- a digit holds no SHIFT anyway
alt_shown : (d : ℕ) → shown_twin false (key_with (Char d) port.ALT) ≡ key_with (Char d) port.ALT
alt_shown d = go (is_ascii_digit d) refl
  where
    go : (b : Bool) → is_ascii_digit d ≡ b → shown_twin false (key_with (Char d) port.ALT) ≡ key_with (Char d) port.ALT
    go true e = rw e refl
    go false e = rw e refl

alt_twin_in : (dialect : Dialect) (d : ℕ) → is_ascii_control d ≡ false → twin_in dialect (Char d) port.ALT xterm_modes ≡ key_with (Char d) port.ALT
unfolding twin_in
alt_twin_in Termwiz d other = alt_twin Termwiz d
alt_twin_in Extended d other = rw other (ap (shown_twin false) (alt_twin Extended d) ∙ alt_shown d)

escape_twin : (dialect : Dialect) (d : ℕ) → is_ascii_control d ≡ false → press_of_key (twin_in dialect (Char d) port.ALT xterm_modes) ≡ canonical (press_of (Char d) ALT)
escape_twin dialect d other = ap press_of_key (alt_twin_in dialect d other)

escape_unbroken : list_all (λ d. not (is_replaced (canonical (press_of (Char d) ALT)))) (numbers 32 95) ≡ true
unfolding canonical_written_out numbers
escape_unbroken = refl

several_long : (u : List ℕ) → IsSeveral u → 2 ≤ length u
several_long [] is = absurd is
several_long (x ∷ []) is = absurd (is.2 refl)
several_long (x ∷ y ∷ u) is = omega arith

module _ (reading : Reading) (first : HasFirstSettings reading) (d : ℕ) (shown : IsShown d) (more : Bool) where
  below_or_not : (n : ℕ) → (d < n) ⊎ (n ≤ d)
  below_or_not n = grind arith

  low : 32 ≤ d
  low = ⊎_elim (λ (control : d < 32). (let is = low_is_control d control in let no = shown.no_control in cc (is, no))) (λ (above : 32 ≤ d). above)
      (below_or_not 32)

  not_delete : d ≢ 127
  not_delete e = (let no : is_control 127 ≡ false = subst (λ c. is_control c ≡ false) e shown.no_control in cc (no))

  in_ascii : d < 128 → Contains (numbers 32 95) d
  in_ascii small = at_number 32 95 d low (let other = not_delete in grind arith)

  no_control : is_ascii_control d ≡ false
  no_control = (let some = low in let other = not_delete in grind (arith, nat_tests))

  alt_sends : enc (Char d) (bits port.ALT) xterm_modes ≡ Some (27 ∷ encode_utf8 d)
  alt_sends = ⊎_elim
      (λ (small : d < 128).
      same_on (λ c. enc (Char c) (bits port.ALT) xterm_modes) (λ c. Some (27 ∷ encode_utf8 c)) (numbers 32 95) d escape_sent (in_ascii small))
      (λ (high : 128 ≤ d). wide_sent d high)
      (below_or_not 128)

  alt_covered : IsCovered (Char d)
  alt_covered = (shown.scalar, low, not_delete)

  alt_whole : (k : KeyEvent) → press_of_key k ≡ canonical (press_of (Char d) ALT) → IsWhole (27 ∷ encode_utf8 d) k
  alt_whole k press = ⊎_elim
      (λ (small : d < 128). whole_of (27 ∷ encode_utf8 d) k (canonical (press_of (Char d) ALT)) press
      (not-true (is_replaced (canonical (press_of (Char d) ALT)))
      (All-contains (λ c. not (is_replaced (canonical (press_of (Char c) ALT))) ≡ true) (numbers 32 95) d
      (AllPass-from_list_all (λ c. not (is_replaced (canonical (press_of (Char c) ALT)))) (numbers 32 95) escape_unbroken) (in_ascii small))))
      (λ (high : 128 ≤ d). ⊎_elim
      (λ (first : (d < 128) × (encode_utf8 d ≡ d ∷ [])). absurd (omega (arith, first.0)))
      (λ (several : IsSeveral (encode_utf8 d)). λ short. absurd (omega (arith, several_long (encode_utf8 d) several, short)))
      (encode_forms d shown.scalar))
      (below_or_not 128)

  pub escaped_read : ReadsAs reading (27 ∷ encode_utf8 d) more (canonical (press_of (Char d) ALT))
  escaped_read =
      let set : Contains any_of_four port.ALT = among_contains any_of_four port.ALT refl in
      let read = presses_of_encoded_keys reading (Char d) port.ALT xterm_modes (27 ∷ encode_utf8 d) first (covered_sent (Char d) alt_covered) set refl refl alt_sends
      (λ e. cc (e)) in
      let by_port = presses_by_port (Char d) port.ALT xterm_modes (27 ∷ encode_utf8 d) alt_covered set refl
      (and_right (nat_le 128 d) false refl) alt_sends (λ e. cc (e)) in
      let press : press_of_key by_port.2.0 ≡ canonical (press_of (Char d) ALT) = by_port.2.2 ∙ sym by_port.1 ∙ escape_twin Termwiz d no_control in
      reads_as reading (27 ∷ encode_utf8 d) more (canonical (press_of (Char d) ALT)) (canonical (press_of (Char d) ALT)) by_port.2.0
      (read.2.0, read.2.1, read.2.2 ∙ sym read.1 ∙ escape_twin Extended d no_control) by_port.2.1 press (λ here. refl) (alt_whole by_port.2.0 press)
