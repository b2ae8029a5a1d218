-- Keys that send the bytes of their twins.
use Rattle.std.proofs.Common.{◌≡◌, ◌∙◌, ◌⊎◌, inl, inr, ℕ, ◌≤◌, ◌<◌, Bool, true, false, List, [], ◌∷◌, ◌++◌, map, Option, Some, None, refl, sym, ap, subst, arith, Contains, lit<, ◌==◌, not, ◌&&◌, ◌||◌, nat_le}
use Rattle.std.specs.Prelude.{if◌then◌else◌}
use Rattle.std.specs.Char.{encode_utf8, is_control, is_ascii_digit}
use Rattle.std.proofs.lemmas.Bool.{eqb-true, and_right}
use Rattle.std.proofs.lemmas.Bool.Decides.{nat_tests}
use Rattle.termwiz_keys.specs.declared.types.KeyCode.{KeyCode}
use Rattle.termwiz_keys.specs.declared.types.KeyCode.TheVariants.{Char, Backspace, Tab, Enter, Escape, Numpad0, Numpad1, Numpad2, Numpad3, Numpad4, Numpad5, Numpad6, Numpad7, Numpad8, Numpad9, Decimal}
use Rattle.termwiz_keys.specs.declared.types.KeyEvent.{KeyEvent}
use Rattle.termwiz_keys.specs.declared.encode.KeyCodeEncodeModes.{KeyCodeEncodeModes}
use Rattle.termwiz_keys.specs.Encoding.{enc, sideless, escape_if_alt}
use Rattle.termwiz_keys.specs.KeyCodes.{holds}
use Rattle.termwiz_keys.specs.Keys.{SHIFT, key_with}
use Rattle.termwiz_grammar.specs.Table.{numbers}
use Rattle.termwiz_grammar.specs.Listed.{any_of_three}
use Rattle.termwiz_grammar.proofs.lemmas.lists.ListMembers.{pairs, in_map, in_pairs, same_on}
use Rattle.termwiz_laws.proofs.lemmas.further_keys.AlikeModes.{Alike, enc_same}
use Rattle.termwiz_laws.proofs.lemmas.further_keys.ComputedReadings.{Held, chars, enc_written_out}
use Rattle.termwiz_laws.proofs.lemmas.further_keys.FurtherReadings.{bits}
use Rattle.termwiz_kitty.proofs.lemmas.PortKeys.{at_number}
use Rattle.termwiz_binding_laws.specs.Twins.{SUPER, dropping, only_alt, in_csi_u, is_on, tells_codes, is_digit_key, shown_twin, whole_twin, twin, twin_in}
use Rattle.termwiz_extended_events.specs.declared.types.Dialect.TheVariants.{Extended}
use Rattle.termwiz_binding_laws.specs.EncodedPresses.{IsCovered, has_more_texts, is_shown, TwinsSendTheSame}
use Rattle.termwiz_binding_laws.proofs.lemmas.ModeClasses.{twin_in_same, InEveryClass, in_all_modes}
use Rattle.termwiz_binding_laws.proofs.lemmas.WideCharacters.{wide_held, wide_twin_is, sent_alone, sent_plainly}

-- what the twin sends, and what the key sends, where the law speaks of them
abbrev is_left_out : KeyCodeEncodeModes → Held → Bool
is_left_out modes p = has_more_texts (twin p.0 p.1 modes).key || is_shown p.0 p.1 modes

abbrev twin_text : KeyCodeEncodeModes → Held → Option (List ℕ)
twin_text modes p = if is_left_out modes p then None else enc (twin p.0 p.1 modes).key (twin p.0 p.1 modes).modifiers modes

abbrev own_text : KeyCodeEncodeModes → Held → Option (List ℕ)
own_text modes p = if is_left_out modes p then None else enc p.0 (bits p.1) modes

abbrev AllSame : List Held → KeyCodeEncodeModes → Type 0
AllSame cases modes = map (twin_text modes) cases ≡ map (own_text modes) cases

abbrev printable : List Held
printable = pairs (chars (numbers 32 95)) any_of_three

abbrev erasing : List Held
erasing = pairs (Escape ∷ Backspace ∷ []) any_of_three

printable_same : (n : Bool) → InEveryClass (AllSame printable) n
unfolding twin_in enc_written_out numbers
printable_same n = record {
  xterm_off = λ a. refl;
  xterm_zero = λ a. refl;
  xterm_one = λ a. refl;
  xterm_two = λ a. refl;
  csi_off = λ a. refl;
  csi_zero = λ a. refl;
  csi_one = λ a. refl;
  csi_two = λ a. refl;
}

erasing_same : (n : Bool) → InEveryClass (AllSame erasing) n
unfolding twin_in enc_written_out
erasing_same n = record {
  xterm_off = λ a. refl;
  xterm_zero = λ a. refl;
  xterm_one = λ a. refl;
  xterm_two = λ a. refl;
  csi_off = λ a. refl;
  csi_zero = λ a. refl;
  csi_one = λ a. refl;
  csi_two = λ a. refl;
}

-- the statement for one key in some modes
abbrev Same : KeyCode → ℕ → KeyCodeEncodeModes → Type 0
Same key held modes = has_more_texts (twin key held modes).key ≡ false → is_shown key held modes ≡ false
    → enc (twin key held modes).key (twin key held modes).modifiers modes ≡ enc key (bits held) modes

otherwise : (b d : Bool) (x y : Option (List ℕ)) → b ≡ false → d ≡ false → (if b || d then None else x) ≡ (if b || d then None else y) → x ≡ y
otherwise true d x y e f h = absurd (cc (e))
otherwise false true x y e f h = absurd (cc (f))
otherwise false false x y e f h = h

same_shown : (key : KeyCode) (held : ℕ) (a b : KeyCodeEncodeModes) → Alike a b
    → is_shown key held a ≡ is_shown key held b
same_shown (Char c) held a b alike = rw (alike.csi_u, alike.is_on) refl
same_shown key held a b alike = refl

same_alike : (key : KeyCode) (held : ℕ) (a b : KeyCodeEncodeModes) → Alike a b → Same key held b
    → Same key held a
same_alike key held a b alike back one apart =
    let k : KeyEvent = twin key held b in
    let same = twin_in_same Extended a b alike key held in
    ap (λ (j : KeyEvent). enc j.key j.modifiers a) same ∙ enc_same a b alike k.key k.modifiers
    ∙ back (subst (λ (j : KeyEvent). has_more_texts j.key ≡ false) same one) (sym (same_shown key held a b alike) ∙ apart)
    ∙ sym (enc_same a b alike key (bits held))

in_modes : (cases : List Held) (key : KeyCode) (held : ℕ) (modes : KeyCodeEncodeModes) → Contains cases (key, held)
    → InEveryClass (AllSame cases) modes.newline_mode → Same key held modes
in_modes cases key held modes here all =
    in_all_modes (AllSame cases) (λ m. Same key held m)
    (λ m test one apart. otherwise (has_more_texts (twin key held m).key) (is_shown key held m)
    (enc (twin key held m).key (twin key held m).modifiers m) (enc key (bits held) m) one apart
    (same_on (twin_text m) (own_text m) cases (key, held) test here))
    (same_alike key held) modes all

-- facts of the sets, computed
no_super : map (λ held. dropping held SUPER) any_of_three ≡ map (λ held. held) any_of_three
no_super = refl

no_sides : map (λ held. sideless held) any_of_three ≡ map (λ held. held) any_of_three
no_sides = refl

-- the code of a character tells SHIFT where it is a control character
abbrev unless_shown : Bool → ℕ → ℕ → ℕ
unless_shown control held h = if holds held SHIFT && not control then 0 else h

wide_on : (control : Bool) → map (λ held. unless_shown control held (wide_held true control held)) any_of_three
    ≡ map (λ held. unless_shown control held held) any_of_three
wide_on true = refl
wide_on false = refl

told_whole : (s control : Bool) (x y : ℕ) → (s && not control) ≡ false
    → (if s && not control then 0 else x) ≡ (if s && not control then 0 else y) → x ≡ y
told_whole true true x y e h = h
told_whole true false x y e h = absurd (cc (e))
told_whole false control x y e h = h

wide_off_sides : (control : Bool) → map (λ held. sideless (wide_held false control held)) any_of_three
    ≡ map (wide_held false control) any_of_three
wide_off_sides control = refl

wide_off_escape : (control : Bool) → map (λ held. escape_if_alt (wide_held false control held)) any_of_three ≡ map escape_if_alt any_of_three
wide_off_escape control = refl

-- a character beyond ASCII where modifyOtherKeys is off
sent_off : (c held : ℕ) (modes : KeyCodeEncodeModes) → 128 ≤ c → sideless held ≡ held → is_on modes ≡ false
    → enc (Char c) (bits held) modes ≡ Some (escape_if_alt held ++ encode_utf8 c)
sent_off c held modes high sides off = go (held == 0) refl
  where
    go : (b : Bool) → (held == 0) ≡ b → enc (Char c) (bits held) modes ≡ Some (escape_if_alt held ++ encode_utf8 c)
    go true e = subst (λ h. enc (Char c) (bits h) modes ≡ Some (escape_if_alt h ++ encode_utf8 c)) (sym (eqb-true held 0 e))
        (sent_alone c modes high)
    go false e = sent_plainly c held modes high sides e off

-- where modifyOtherKeys is on
not_told : (c held : ℕ) (modes : KeyCodeEncodeModes) → 128 ≤ c → is_on modes ≡ true
    → is_shown (Char c) held modes ≡ false → (holds held SHIFT && not (is_control c)) ≡ false
not_told c held modes high on apart = by (is_control c) refl (rw (on, wide, no_digit) at apart)
  where
    wide : nat_le 128 c ≡ true
    wide = grind (arith, nat_tests)

    no_digit : is_ascii_digit c ≡ false
    no_digit = grind (arith, nat_tests)

    by : (b : Bool) → is_control c ≡ b → (holds held SHIFT && (not (is_control c) || false)) ≡ false
        → (holds held SHIFT && not (is_control c)) ≡ false
    by true f h = rw f (and_right (holds held SHIFT) false refl)
    by false f h = (let g : (holds held SHIFT && true) ≡ false = rw f at h in rw f g)

wide_same : (c held : ℕ) (modes : KeyCodeEncodeModes) → 128 ≤ c → Contains any_of_three held
    → is_shown (Char c) held modes ≡ false
    → enc (twin (Char c) held modes).key (twin (Char c) held modes).modifiers modes ≡ enc (Char c) (bits held) modes
wide_same c held modes high here apart =
    ap (λ (k : KeyEvent). enc k.key k.modifiers modes) (wide_twin_is Extended c held modes high) ∙ go (is_on modes) refl
  where
    go : (b : Bool) → is_on modes ≡ b
        → enc (Char c) (bits (wide_held (is_on modes) (is_control c) held)) modes ≡ enc (Char c) (bits held) modes
    go true e =
        ap (λ o. enc (Char c) (bits (wide_held o (is_control c) held)) modes) e
        ∙ ap (λ h. enc (Char c) (bits h) modes)
        (told_whole (holds held SHIFT) (is_control c) (wide_held true (is_control c) held) held (not_told c held modes high e apart)
        (same_on (λ h. unless_shown (is_control c) h (wide_held true (is_control c) h)) (λ h. unless_shown (is_control c) h h) any_of_three held
        (wide_on (is_control c)) here))
    go false e =
        ap (λ o. enc (Char c) (bits (wide_held o (is_control c) held)) modes) e
        ∙ sent_off c (wide_held false (is_control c) held) modes high
        (same_on (λ h. sideless (wide_held false (is_control c) h)) (wide_held false (is_control c)) any_of_three held
        (wide_off_sides (is_control c)) here) e
        ∙ ap (λ t. Some (t ++ encode_utf8 c))
        (same_on (λ h. escape_if_alt (wide_held false (is_control c) h)) escape_if_alt any_of_three held (wide_off_escape (is_control c)) here)
        ∙ sym (sent_off c held modes high (same_on (λ h. sideless h) (λ h. h) any_of_three held no_sides here) e)

character_same : (c held : ℕ) (modes : KeyCodeEncodeModes) → IsCovered (Char c) → Contains any_of_three held
    → Same (Char c) held modes
character_same c held modes covered here one apart = go (below_or_not 128)
  where
    below_or_not : (n : ℕ) → (c < n) ⊎ (n ≤ c)
    below_or_not n = grind arith

    go : (c < 128) ⊎ (128 ≤ c)
        → enc (twin (Char c) held modes).key (twin (Char c) held modes).modifiers modes ≡ enc (Char c) (bits held) modes
    go (inl small) = in_modes printable (Char c) held modes
        (in_pairs (chars (numbers 32 95)) any_of_three (Char c) held
        (in_map (λ d. Char d) (numbers 32 95) c (at_number 32 95 c covered.1 (omega (arith, covered.2)))) here)
        (printable_same modes.newline_mode) one apart
    go (inr high) = wide_same c held modes high here apart

-- a key whose twin loses SUPER alone
steady_same : (key : KeyCode) (held : ℕ) (modes : KeyCodeEncodeModes) → Contains any_of_three held
    → enc key (bits (dropping held SUPER)) modes ≡ enc key (bits held) modes
steady_same key held modes here =
    ap (λ h. enc key (bits h) modes) (same_on (λ h. dropping h SUPER) (λ h. h) any_of_three held no_super here)

-- the key of either of two events
more_of_either : (b : Bool) (key : KeyCode) (x y : ℕ) → has_more_texts key ≡ true
    → has_more_texts (if b then key_with key x else key_with key y).key ≡ true
more_of_either true key x y more = more
more_of_either false key x y more = more

-- where a digit loses SHIFT the key stays
shown_more : (csi_u : Bool) (k : KeyEvent) → has_more_texts k.key ≡ true → has_more_texts (shown_twin csi_u k).key ≡ true
shown_more csi_u k more = go (is_digit_key k.key && not csi_u)
  where
    go : (b : Bool) → has_more_texts (if b then key_with k.key (dropping k.modifiers.0 SHIFT) else k).key ≡ true
    go true = more
    go false = more

pub twins_send_the_same : TwinsSendTheSame
unfolding twin_in
twins_send_the_same (Char c) held modes covered here one apart = character_same c held modes covered here one apart
twins_send_the_same Escape held modes covered here one apart =
    in_modes erasing Escape held modes (in_pairs (Escape ∷ Backspace ∷ []) any_of_three Escape held (0, lit< tt, refl) here)
    (erasing_same modes.newline_mode) one apart
twins_send_the_same Backspace held modes covered here one apart =
    in_modes erasing Backspace held modes (in_pairs (Escape ∷ Backspace ∷ []) any_of_three Backspace held (1, lit< tt, refl) here)
    (erasing_same modes.newline_mode) one apart
twins_send_the_same Tab held modes covered here one apart =
    let more = more_of_either (holds held SUPER && not (is_on modes)) Tab (only_alt held) (dropping held SUPER) refl in
    absurd (let shown = shown_more (in_csi_u modes) (whole_twin Tab held modes) more in cc (one, shown))
twins_send_the_same Enter held modes covered here one apart =
    let more = more_of_either (tells_codes modes) Enter (dropping held SUPER) (only_alt (dropping held SUPER)) refl in
    absurd (let shown = shown_more (in_csi_u modes) (whole_twin Enter held modes) more in cc (one, shown))
twins_send_the_same Numpad0 held modes covered here one apart = absurd covered
twins_send_the_same Numpad1 held modes covered here one apart = absurd covered
twins_send_the_same Numpad2 held modes covered here one apart = absurd covered
twins_send_the_same Numpad3 held modes covered here one apart = absurd covered
twins_send_the_same Numpad4 held modes covered here one apart = absurd covered
twins_send_the_same Numpad5 held modes covered here one apart = absurd covered
twins_send_the_same Numpad6 held modes covered here one apart = absurd covered
twins_send_the_same Numpad7 held modes covered here one apart = absurd covered
twins_send_the_same Numpad8 held modes covered here one apart = absurd covered
twins_send_the_same Numpad9 held modes covered here one apart = absurd covered
twins_send_the_same Decimal held modes covered here one apart = absurd covered
twins_send_the_same key held modes covered here one apart = steady_same key held modes here
