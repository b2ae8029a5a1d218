-- Characters beyond ASCII are read as the presses of their twins.
use Rattle.std.proofs.Common.{◌≡◌, ◌∙◌, ◌⊎◌, inl, inr, ℕ, ◌+◌, ◌-◌, ◌≤◌, ◌<◌, Bool, true, false, not, List, [], ◌∷◌, ◌++◌, map, Some, refl, sym, ap, subst, arith, Contains, ◌==◌, ◌&&◌, bit_and, nat_le, decimal}
use Rattle.std.proofs.lemmas.Bool.Decides.{nat_tests}
use Rattle.std.specs.Prelude.{if◌then◌else◌}
use Rattle.std.specs.Char.{IsScalar, encode_utf8, is_control}
use Rattle.std.proofs.lemmas.Bool.{eqb-true}
use Rattle.termwiz_base.specs.Modifiers.{xterm_number}
use Rattle.termwiz_keys.specs.declared.types.KeyCode.TheVariants.{Char}
use Rattle.termwiz_keys.specs.declared.types.InputEvent.TheVariants as input
use Rattle.termwiz_keys.specs.declared.encode.KeyCodeEncodeModes.{KeyCodeEncodeModes}
use Rattle.termwiz_keys.specs.Encoding.{enc, sideless, escape_if_alt, other_keys_form}
use Rattle.termwiz_keys.specs.Introducers.{ESC}
use Rattle.termwiz_keys.specs.Keys.{NONE, ALT, key_with}
use Rattle.termwiz_keys.specs.KeyCodes.{holds}
use Rattle.termwiz_grammar.specs.Grammar as port
use Rattle.termwiz_grammar.proofs.lemmas.lists.ListMembers.{same_on}
use Rattle.termwiz_grammar.proofs.lemmas.read_back.WholeTexts.{char_means}
use Rattle.termwiz_laws.specs.FurtherKeys.ReadsBackToo.{alt_beyond_ascii}
use Rattle.termwiz_laws.proofs.lemmas.further_keys.FurtherReadings.{bits, further_keys_read_back}
use Rattle.termwiz_laws.proofs.lemmas.further_keys.SingleCharacters.{first_high}
use Rattle.termwiz_laws.proofs.lemmas.further_keys.OtherKeys.{on_false}
use Rattle.termwiz_extended_events.specs.declared.types.Event.TheVariants.{Key}
use Rattle.termwiz_extended_events.specs.declared.types.Dialect.{Dialect}
use Rattle.termwiz_extended_events.specs.declared.types.Dialect.TheVariants.{Extended, Termwiz}
use Rattle.termwiz_laws.proofs.lemmas.first_bytes.EncodedBytes.{IsSeveral, encode_forms}
use Rattle.termwiz_extended_grammar.specs.Readings.{ReadsMore}
use Rattle.termwiz_extended_events.specs.declared.types.Reading.{Reading}
use Rattle.termwiz_extended_events.specs.PortEvents.{pressed_key, kitty_bits, typed_key, told}
use Rattle.termwiz_extended_grammar.specs.ExtendedGrammar.{Means}
use Rattle.termwiz_kitty.proofs.lemmas.legacy.ReadAsOne.{IsReportText, ReadAs, read_as as read_as_one, no_escape_before, second_range}
use Rattle.termwiz_kitty.proofs.lemmas.legacy.ReadAsOne.ReadAs.{as_key, as_report, apart}
use Rattle.termwiz_kitty.proofs.lemmas.read_back.SequenceForms.{written}
use Rattle.termwiz_bindings.specs.Presses.{canonical, has_shift, without_shift, all_but_locks}
use Rattle.termwiz_binding_laws.specs.Twins.{is_on, twin_in}
use Rattle.termwiz_binding_laws.specs.EncodedPresses.{any_of_four, press_of_key, IsReadAsPress}
use Rattle.termwiz_binding_laws.proofs.lemmas.BeginKey.{small_number}
use Rattle.termwiz_binding_laws.proofs.lemmas.Readers.{Reader, dialect_of, IsReadBy, IsKeyReadBy, Knows, read_by_port}
use Rattle.termwiz_binding_laws.proofs.lemmas.Readers.Reader.{extended, of_port}
use Rattle.termwiz_binding_laws.proofs.lemmas.RowReports.{shape}
use Rattle.termwiz_binding_laws.proofs.lemmas.OtherCodes.{form_is, coded_report, code_means}
use Rattle.termwiz_binding_laws.proofs.lemmas.WideCharacters.{wide_press, wide_press_with, coded_bits, coded_press, wide_held, wide_twin_is, sent_alone, sent_by_code, sent_plainly}

-- what the port reads of the modifiers: ALT alone
abbrev read_bits : ℕ → ℕ
read_bits held = if holds held ALT then ALT else NONE

-- the modifiers of the presses
abbrev told_bits : ℕ → ℕ
told_bits bits' = bit_and bits' all_but_locks

abbrev twin_bits : Bool → Bool → ℕ → ℕ
twin_bits on control held = told_bits (kitty_bits (wide_held on control held))

bits_plain : (control : Bool) → map (λ held. told_bits (kitty_bits (read_bits held))) any_of_four ≡ map (twin_bits false control) any_of_four
bits_plain control = refl

bits_by_code : (control : Bool) → map (λ held. coded_bits control (told_bits (xterm_number held))) any_of_four
    ≡ map (twin_bits true control) any_of_four
bits_by_code true = refl
bits_by_code false = refl

no_bits_on : (control : Bool) → told_bits (kitty_bits NONE) ≡ twin_bits true control NONE
no_bits_on true = refl
no_bits_on false = refl

no_bits_off : (control : Bool) → told_bits (kitty_bits NONE) ≡ twin_bits false control NONE
no_bits_off control = refl

-- the bit of SHIFT
shift_told : map (λ held. has_shift (told_bits (xterm_number held))) any_of_four
    ≡ map (λ held. not (bit_and (xterm_number held) 1 == 0)) any_of_four
shift_told = refl

-- the same bits, if that isn't among them
abbrev if_none : ℕ → ℕ → ℕ
if_none held bits' = if bit_and (xterm_number held) 1 == 0 then bits' else 0

shift_missing : map (λ held. if_none held (without_shift (told_bits (xterm_number held)))) any_of_four
    ≡ map (λ held. if_none held (told_bits (xterm_number held))) any_of_four
shift_missing = refl

from_true : (b : Bool) (x y : ℕ) → b ≡ true → (if b then x else 0) ≡ (if b then y else 0) → x ≡ y
from_true true x y e h = h
from_true false x y e h = absurd (cc (e))

no_sides : map sideless any_of_four ≡ map (λ held. held) any_of_four
no_sides = refl

module _ (reader : Reader) (c held : ℕ) (modes : KeyCodeEncodeModes) (text : List ℕ) (scalar : IsScalar c) (high : 128 ≤ c)
    (here : Contains any_of_four held) (sends : enc (Char c) (bits held) modes ≡ Some text) where
  sides : sideless held ≡ held
  sides = same_on sideless (λ h. h) any_of_four held no_sides here

  -- the press of the twin
  twin_press : (on : Bool) → is_on modes ≡ on → press_of_key (twin_in (dialect_of reader) (Char c) held modes) ≡ Some (wide_press_with c (twin_bits on (is_control c) held))
  twin_press on e =
      ap press_of_key (wide_twin_is (dialect_of reader) c held modes high)
      ∙ wide_press c (kitty_bits (wide_held (is_on modes) (is_control c) held)) high
      ∙ ap (λ o. Some (wide_press_with c (twin_bits o (is_control c) held))) e

  -- an event of this press, which is the whole text
  read_as : (on : Bool) (t : List ℕ) → is_on modes ≡ on → enc (Char c) (bits held) modes ≡ Some t
      → IsReadBy reader t (wide_press_with c (twin_bits on (is_control c) held)) → IsKeyReadBy reader text (twin_in (dialect_of reader) (Char c) held modes)
  read_as on t e sent is =
      let same : t ≡ text = (let s : Some t ≡ Some text = sym sent ∙ sends in cc (s)) in (
        wide_press_with c (twin_bits on (is_control c) held),
        twin_press on e,
        subst (λ u. IsReadBy reader u (wide_press_with c (twin_bits on (is_control c) held))) same is,
      )

  -- the two texts are no reports, nor is what follows their ESC
  no_report : (reading : Reading) (t : List ℕ) → (t ≡ encode_utf8 c) ⊎ (t ≡ ESC ++ encode_utf8 c) → IsReportText reading t → ⊥
  no_report reading t (inl e) is = (let s = shape reading t is in no_escape_before c s.second s.rest scalar (sym e ∙ s.split))
  no_report reading t (inr e) is =
      let s = shape reading t is in
      let first = first_high c s.second s.rest high (cc (e, s.split)) in
      let range = second_range s.second s.is_second in omega (arith, first, range.1)

  none_behind : (reading : Reading) (t v : List ℕ) → (t ≡ encode_utf8 c) ⊎ (t ≡ ESC ++ encode_utf8 c) → t ≡ ESC ++ v → IsReportText reading v → ⊥
  none_behind reading t v (inl e) split is =
      let s = shape reading v is in no_escape_before c 27 (s.second ∷ s.rest) scalar (sym e ∙ split ∙ ap (λ u. 27 ∷ u) s.split)
  none_behind reading t v (inr e) split is =
      let s = shape reading v is in no_escape_before c s.second s.rest scalar (cc (e, split, s.split))

  -- and no reading decides their bytes
  several_typed : (reading : Reading) (u : List ℕ) → IsSeveral u
      → (typed_key Extended reading u (Char c) ≡ Char c) × (typed_key Extended reading (27 ∷ u) (Char c) ≡ Char c)
  several_typed reading [] s = absurd s
  several_typed reading (x ∷ []) s = absurd (s.2 refl)
  several_typed reading (x ∷ y ∷ []) s =
      let other : (x == 27) ≡ false = (let low = s.0 in grind (arith, nat_tests)) in (rw other refl, refl)
  several_typed reading (x ∷ y ∷ z ∷ u) s = (refl, refl)

  wide_typed : (reading : Reading) (t : List ℕ) → (t ≡ encode_utf8 c) ⊎ (t ≡ ESC ++ encode_utf8 c)
      → typed_key reading.dialect reading t (Char c) ≡ Char c
  wide_typed reading t form = go reading.dialect form (encode_forms c scalar)
    where
      go : (dialect : Dialect) → (t ≡ encode_utf8 c) ⊎ (t ≡ ESC ++ encode_utf8 c)
          → ((c < 128) × (encode_utf8 c ≡ c ∷ [])) ⊎ IsSeveral (encode_utf8 c) → typed_key dialect reading t (Char c) ≡ Char c
      go Termwiz either forms = refl
      go Extended either (inl one) = absurd (omega (arith, one.0))
      go Extended (inl e) (inr several) =
          subst (λ u. typed_key Extended reading u (Char c) ≡ Char c) (sym e) (several_typed reading (encode_utf8 c) several).0
      go Extended (inr e) (inr several) =
          subst (λ u. typed_key Extended reading u (Char c) ≡ Char c) (sym e) (several_typed reading (encode_utf8 c) several).1

  -- a key of the port
  by_port : (on : Bool) (t : List ℕ) (k : ℕ) → (t ≡ encode_utf8 c) ⊎ (t ≡ ESC ++ encode_utf8 c) → is_on modes ≡ on
      → enc (Char c) (bits held) modes ≡ Some t
      → port.Means t false (input.Key (key_with (Char c) k) ∷ []) [] → told_bits (kitty_bits k) ≡ twin_bits on (is_control c) held
      → IsKeyReadBy reader text (twin_in (dialect_of reader) (Char c) held modes)
  by_port on t k form e sent means same = read_as on t e sent (go reader)
    where
      press : canonical (pressed_key (key_with (Char c) k)) ≡ Some (wide_press_with c (twin_bits on (is_control c) held))
      press = wide_press c (kitty_bits k) high ∙ ap (λ n. Some (wide_press_with c n)) same

      as_one : (reading : Reading) → ReadAs reading t (key_with (Char c) k) false → IsReadAsPress reading t (wide_press_with c (twin_bits on (is_control c) held))
      as_one reading (as_key it) = (
        told reading t (input.Key (key_with (Char c) k)),
        it,
        ap (λ key. canonical (pressed_key (key_with key k))) (wide_typed reading t form) ∙ press,
      )
      as_one reading (as_report is it) = absurd (no_report reading t form is)
      as_one reading (apart v splits is) = absurd (none_behind reading t v form splits is)

      go : (r : Reader) → IsReadBy r t (wide_press_with c (twin_bits on (is_control c) held))
      go (extended reading first) = as_one reading (read_as_one reading t (key_with (Char c) k) false (record {
        flushed = means;
        means = means;
        closed = λ h. cc (h.more_comes);
        closed_after = λ v split h. cc (h.more_comes);
      }))
      go of_port = read_by_port t (key_with (Char c) k) (wide_press_with c (twin_bits on (is_control c) held)) means press

  plain_means : port.Means (encode_utf8 c) false (input.Key (key_with (Char c) NONE) ∷ []) []
  plain_means = char_means c scalar (omega arith) (λ e. omega arith)

  alone : held ≡ NONE → IsKeyReadBy reader text (twin_in (dialect_of reader) (Char c) held modes)
  alone none = go (is_on modes) refl
    where
      sent : enc (Char c) (bits held) modes ≡ Some (encode_utf8 c)
      sent = subst (λ h. enc (Char c) (bits h) modes ≡ Some (encode_utf8 c)) (sym none) (sent_alone c modes high)

      go : (b : Bool) → is_on modes ≡ b → IsKeyReadBy reader text (twin_in (dialect_of reader) (Char c) held modes)
      go true e = by_port true (encode_utf8 c) NONE (inl refl) e sent plain_means
          (subst (λ h. told_bits (kitty_bits NONE) ≡ twin_bits true (is_control c) h) (sym none) (no_bits_on (is_control c)))
      go false e = by_port false (encode_utf8 c) NONE (inl refl) e sent plain_means
          (subst (λ h. told_bits (kitty_bits NONE) ≡ twin_bits false (is_control c) h) (sym none) (no_bits_off (is_control c)))

  by_code : Knows reader (Char c) held modes → (held == 0) ≡ false → is_on modes ≡ true → IsKeyReadBy reader text (twin_in (dialect_of reader) (Char c) held modes)
  by_code known some on =
      read_as true (other_keys_form c held) on (sent_by_code c held modes high sides some on) (go reader known)
    where
      small : xterm_number held < 8
      small = small_number held here

      means : (reading : Reading) → ReadsMore reading → Means reading (other_keys_form c held) false
          (Key (coded_report c (xterm_number held)) ∷ []) []
      means reading reads =
          subst (λ t. Means reading t false (Key (coded_report c (xterm_number held)) ∷ []) [])
          (sym (form_is c held (omega (arith, small))))
          (subst (λ n. Means reading (written (50 ∷ 55 ∷ 59 ∷ (48 + (1 + xterm_number held)) ∷ 59 ∷ decimal c) 126) false
          (Key (coded_report c n) ∷ []) [])
          (let e : 1 + xterm_number held - 1 ≡ xterm_number held = omega arith in e)
          (code_means (1 + xterm_number held) c (omega arith) (omega (arith, small)) high scalar reading reads))

      go : (r : Reader) → Knows r (Char c) held modes → IsReadBy r (other_keys_form c held) (wide_press_with c (twin_bits true (is_control c) held))
      go (extended reading first) k = (
        Key (coded_report c (xterm_number held)),
        means reading first.reads,
        coded_press c (xterm_number held) high
            (same_on (λ h. has_shift (told_bits (xterm_number h))) (λ h. not (bit_and (xterm_number h) 1 == 0)) any_of_four held shift_told here)
            (λ e. from_true (bit_and (xterm_number held) 1 == 0) (without_shift (told_bits (xterm_number held)))
            (told_bits (xterm_number held)) e
            (same_on (λ h. if_none h (without_shift (told_bits (xterm_number h)))) (λ h. if_none h (told_bits (xterm_number h)))
            any_of_four held shift_missing here))
            ∙ ap (λ n. Some (wide_press_with c n))
            (same_on (λ h. coded_bits (is_control c) (told_bits (xterm_number h))) (twin_bits true (is_control c)) any_of_four held
            (bits_by_code (is_control c)) here),
      )
      go of_port k =
          let wide : nat_le 128 c ≡ true = grind (arith, nat_tests) in
          absurd (let never : (true && (true && not false)) ≡ false = (rw (wide, on, some) at k) in cc (never))

  plainly : (held == 0) ≡ false → is_on modes ≡ false → IsKeyReadBy reader text (twin_in (dialect_of reader) (Char c) held modes)
  plainly some off = go (holds held ALT) refl
    where
      sent : enc (Char c) (bits held) modes ≡ Some (escape_if_alt held ++ encode_utf8 c)
      sent = sent_plainly c held modes high sides some off

      same : told_bits (kitty_bits (read_bits held)) ≡ twin_bits false (is_control c) held
      same = same_on (λ h. told_bits (kitty_bits (read_bits h))) (twin_bits false (is_control c)) any_of_four held (bits_plain (is_control c)) here

      escaped : port.Means (ESC ++ encode_utf8 c) false (input.Key (key_with (Char c) ALT) ∷ []) []
      escaped =
          let back = further_keys_read_back (Char c) (bits ALT) modes
          (alt_beyond_ascii c modes (on_false modes.modify_other_keys off) scalar high) in
          let e : Some back.0 ≡ Some (ESC ++ encode_utf8 c) = sym back.1 ∙ sent_plainly c ALT modes high refl refl off in
          let t : back.0 ≡ ESC ++ encode_utf8 c = cc (e) in
          subst (λ u. port.Means u false (input.Key (key_with (Char c) ALT) ∷ []) []) t back.2

      go : (b : Bool) → holds held ALT ≡ b → IsKeyReadBy reader text (twin_in (dialect_of reader) (Char c) held modes)
      go true alt = by_port false (ESC ++ encode_utf8 c) ALT (inr refl) off
          (sent ∙ ap (λ (b : Bool). Some ((if b then ESC else []) ++ encode_utf8 c)) alt) escaped
          (sym (ap (λ (b : Bool). told_bits (kitty_bits (if b then ALT else NONE))) alt) ∙ same)
      go false none = by_port false (encode_utf8 c) NONE (inl refl) off
          (sent ∙ ap (λ (b : Bool). Some ((if b then ESC else []) ++ encode_utf8 c)) none) plain_means
          (sym (ap (λ (b : Bool). told_bits (kitty_bits (if b then ALT else NONE))) none) ∙ same)

  pub wide_is_read : Knows reader (Char c) held modes → IsKeyReadBy reader text (twin_in (dialect_of reader) (Char c) held modes)
  wide_is_read known = go (held == 0) refl (is_on modes) refl
    where
      go : (b : Bool) → (held == 0) ≡ b → (o : Bool) → is_on modes ≡ o → IsKeyReadBy reader text (twin_in (dialect_of reader) (Char c) held modes)
      go true e o on = alone (eqb-true held 0 e)
      go false e true on = by_code known e on
      go false e false off = plainly e off
