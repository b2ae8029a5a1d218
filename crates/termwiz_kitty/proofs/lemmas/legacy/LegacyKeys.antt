-- Texts from before the protocol are read back.
use Rattle.std.proofs.Common.{◌≡◌, ◌≢◌, ◌⊎◌, inl, inr, ℕ, ◌+◌, ◌<◌, ◌≤◌, Bool, true, false, not, zero, suc, List, [], ◌∷◌, ◌++◌, map, filter, refl, sym, ap, ◌∙◌, subst, arith, Option, Some, None, Contains, lit<, ◌==◌, ◌&&◌, ◌||◌, bit_and}
use Rattle.std.specs.Prelude.{if◌then◌else◌, option_map}
use Rattle.std.specs.Fmt.{digits}
use Rattle.std.specs.Char.{IsScalar, encode_utf8, is_control, is_ascii_lowercase, is_ascii_alphanumeric, is_ascii_punctuation}
use Rattle.std.proofs.lemmas.Bool.Decides.{nat_tests}
use Rattle.std.proofs.lemmas.List.Elements.{Contains-append_left, Contains-append_right}
use Rattle.termwiz_keys.specs.Encoding.{enc, key_text, char_text, plain_char_text, other_text}
use Rattle.termwiz_keys.specs.Introducers.{ESC}
use Rattle.termwiz_keys.specs.Keys.{key_with, ALT as port_alt}
use Rattle.termwiz_keys.specs.declared.types.KeyCode.{KeyCode}
use Rattle.termwiz_keys.specs.declared.types.KeyCode.TheVariants.{Char}
use Rattle.termwiz_keys.specs.declared.types.KeyEvent.{KeyEvent}
use Rattle.termwiz_keys.specs.declared.types.InputEvent.TheVariants as input
use Rattle.termwiz_grammar.specs.Grammar as port
use Rattle.termwiz_grammar.specs.Table.{numbers, written_out}
use Rattle.termwiz_grammar.specs.Listed.{IsSharedLetter}
use Rattle.termwiz_grammar.proofs.lemmas.lists.ListMembers.{pairs, in_map, in_pairs, in_filter, same_on}
use Rattle.termwiz_laws.specs.FurtherKeys.ReadsBackToo.{alt_beyond_ascii}
use Rattle.termwiz_laws.specs.KeyStreams.{Press, DoesReadBack, MayGoOn, NeedsFlush, keys_that_need_a_flush}
use Rattle.termwiz_laws.proofs.lemmas.further_keys.ComputedReadings as computed
use Rattle.termwiz_laws.proofs.lemmas.further_keys.ComputedReadings.{Held, AllRead, reads_back_in, enc_written_out, chars}
use Rattle.termwiz_laws.proofs.lemmas.further_keys.FurtherReadings.{further_keys_read_back}
use Rattle.termwiz_laws.proofs.lemmas.further_keys.SingleCharacters.{key_with_alt, held_with_alt, first_high}
use Rattle.termwiz_laws.proofs.lemmas.key_streams.FourKeys.{four_go_on, others_at_once}
use Rattle.termwiz_laws.proofs.lemmas.shared_texts.TwinKeys.{sent_means}
use Rattle.termwiz_extended_events.specs.declared.types.KeyReport.{KeyReport}
use Rattle.termwiz_extended_events.specs.declared.types.ReportedKey.TheVariants.{Named}
use Rattle.termwiz_extended_events.specs.declared.types.Dialect.{Dialect}
use Rattle.termwiz_extended_events.specs.declared.types.Dialect.TheVariants.{Extended, Termwiz}
use Rattle.termwiz_extended_events.specs.declared.types.Reading.{Reading}
use Rattle.termwiz_laws.proofs.lemmas.first_bytes.EncodedBytes.{IsSeveral, encode_forms}
use Rattle.termwiz_extended_events.specs.PortEvents.{pressed_key, kitty_bits, typed_key, told}
use Rattle.termwiz_extended_events.proofs.Examples.{written_out as events_written_out}
use Rattle.termwiz_extended_grammar.proofs.lemmas.forms.FormBytes.{form_shape}
use Rattle.termwiz_extended_events.specs.declared.types.Event.TheVariants.{Key}
use Rattle.termwiz_extended_grammar.specs.ExtendedGrammar.{Means}
use Rattle.termwiz_extended_grammar.specs.Readings.{is_asking}
use Rattle.termwiz_kitty.specs.declared.legacy.LegacyText.{LegacyText}
use Rattle.termwiz_kitty.specs.declared.legacy.LegacyText.TheVariants.{AfterEscape}
use Rattle.termwiz_kitty.specs.declared.telling.Telling.TheVariants.{Nothing, Typed, Legacy, Reported}
use Rattle.termwiz_kitty.specs.LegacyTexts.{ALT, CTRL, SHIFT_ALT, CTRL_ALT, is_text_key, with_shift, character_text, legacy_text}
use Rattle.termwiz_kitty.specs.Telling.{is_silent_release, is_silent_modifier, tells_all_keys, sends_control, is_release, types, without_locks, told_key, is_legacy_press, legacy_of, or_reported, telling}
use Rattle.termwiz_kitty.specs.KittyTexts.{legacy_bytes, kitty_text}
use Rattle.termwiz_kitty.specs.KittyLaws.{IsKey, IsScalarOrMissing, IsReadBack, keys_read_back, keys_that_wait, press_of, read_key, IsReadAs, LegacyReadBack, AltReadBack}
use Rattle.termwiz_kitty.specs.KittyLaws.IsReadBack.{listed, ctrl_letter}
use Rattle.termwiz_kitty.proofs.lemmas.PortKeys.{xterm_modes, held_that_wait, at_number}
use Rattle.termwiz_kitty.proofs.lemmas.read_back.SequencesMean.{told_is_key}
use Rattle.termwiz_kitty.proofs.lemmas.typed.TypedCharacters.{low_is_control}
use Rattle.termwiz_kitty.proofs.lemmas.typed.TypedTexts.{IsShown, IsShownOrMissing, with_shift_is}
use Rattle.termwiz_kitty.proofs.lemmas.legacy.ReadAsOne.{second_range, no_escape_before, IsRead, ReadAs, read_as}
use Rattle.termwiz_kitty.proofs.lemmas.legacy.ReadAsOne.ReadAs.{as_key, as_report, apart}
use Rattle.termwiz_kitty.proofs.lemmas.legacy.WaitingKeys.{text_waits, rest_waits}
use Rattle.termwiz_kitty.proofs.lemmas.legacy.ComputedReports.{AllTold, AllTyped, read_report, told_in, typed_in, told_is_read}

-- the key sends the text in xterm's encoding, with every mode off
abbrev Sends : KeyCode → ℕ → List ℕ → Type 0
Sends key held text = enc key (record { 0 = held }) xterm_modes ≡ Some text

-- the text is read as the key
abbrev Back : Reading → KeyCode → ℕ → List ℕ → Bool → Type 0
Back reading key held text more = IsReadAs reading text more (pressed_key (key_with (read_key reading key) held))

abbrev press : KeyCode → ℕ → Press
press key held = record { key = key; modifiers = record { 0 = held }; modes = xterm_modes }

-- what the port reads back needs no flush, where it doesn't begin a sequence
pub is_read : (reading : Reading) (key : KeyCode) (held : ℕ) (text : List ℕ) (more : Bool) → DoesReadBack (press key held) → Sends key held text
    → (more ≡ true → ¬ Contains held_that_wait (key, held)) → IsRead reading text (key_with key held) more
is_read reading key held text more back sends apart' = record {
  flushed = flushed;
  means = means more apart';
  closed = λ h. apart' h.more_comes (text_waits reading text k flushed h.some h.beginning (no_beginning h.more_comes));
  closed_after = λ v split h.
      apart' h.more_comes (rest_waits reading text v k flushed split h.some h.beginning (no_beginning h.more_comes));
}
  where
    k : KeyEvent
    k = key_with key held

    flushed : port.Means text false (input.Key k ∷ []) []
    flushed = sent_means (press key held) text back sends

    no_flush : (f : Bool) → f ≡ true → (f ≡ true → ¬ Contains held_that_wait (key, held)) → ¬ NeedsFlush (press key held)
    no_flush f e other four = other e (Contains-append_left keys_that_need_a_flush
        ((Char 80, port_alt) ∷ (Char 93, port_alt) ∷ (Char 95, port_alt) ∷ []) (key, held) four)

    no_beginning : more ≡ true → ¬ MayGoOn text
    no_beginning e on = no_flush more e apart' (four_go_on (press key held) text back sends on)

    means : (f : Bool) → (f ≡ true → ¬ Contains held_that_wait (key, held)) → port.Means text f (input.Key k ∷ []) []
    means false other = flushed
    means true other = others_at_once (press key held) text (back, no_flush true refl other) sends

-- by what was computed of a list of keys
by_list : (reading : Reading) (cases : List Held) (key : KeyCode) (held : ℕ) (text : List ℕ) (more : Bool) → AllRead xterm_modes cases
    → AllTold cases → AllTyped cases
    → Contains cases (key, held) → Sends key held text → (more ≡ true → ¬ Contains held_that_wait (key, held))
    → Back reading key held text more
by_list reading cases key held text more read told typed here sends apart' =
    let back = reads_back_in xterm_modes cases key (record { 0 = held }) read here in
    told_is_read reading text (key_with key held) (read_report reading (key, held)) more
    (read_as reading text (key_with key held) more (is_read reading key held text more back sends apart'))
    (ap (λ k. pressed_key (key_with k held)) (typed_in cases (key, held) reading text typed here sends))
    (told_in cases (key, held) reading (is_asking reading) text told here sends)

in_chars : (codes' held' : List ℕ) (c held : ℕ) → Contains codes' c → Contains held' held
    → Contains (pairs (chars codes') held') (Char c, held)
in_chars codes' held' c held a b = in_pairs (chars codes') held' (Char c) held (in_map (λ d. Char d) codes' c a) b

-- kitty's bits of Shift, Alt and Ctrl as the port's
abbrev port_bits : ℕ → ℕ
port_bits b =
    (if bit_and b 1 == 0 then 0 else 2) + (if bit_and b 2 == 0 then 0 else 4) + (if bit_and b 4 == 0 then 0 else 8)

abbrev in_port : KeyCode × ℕ → Held
in_port p = (p.0, port_bits p.1)

abbrev in_kitty : Held → KeyCode × ℕ
in_kitty p = (p.0, kitty_bits p.1)

waits_same : map in_kitty held_that_wait ≡ keys_that_wait
waits_same = refl

-- the keys that are read back as themselves
abbrev own_letters : List ℕ
own_letters = filter computed.own_letter (numbers 97 26)

abbrev own_keys : List (KeyCode × ℕ)
own_keys = keys_read_back ++ pairs (chars own_letters) (CTRL ∷ CTRL_ALT ∷ [])

own_letter_here : (c : ℕ) → is_ascii_lowercase c ≡ true → ¬ IsSharedLetter c → Contains own_letters c
own_letter_here c small own =
    let h : c ≢ 104 = λ e. own (0, lit< tt, sym e) in
    let i : c ≢ 105 = λ e. own (1, lit< tt, sym e) in
    let j : c ≢ 106 = λ e. own (2, lit< tt, sym e) in
    let m : c ≢ 109 = λ e. own (3, lit< tt, sym e) in
    let low : 97 ≤ c = grind (arith, nat_tests) in
    let high : c < 123 = grind (arith, nat_tests) in
    let kept : computed.own_letter c ≡ true = grind (arith, nat_tests) in
    in_filter computed.own_letter (numbers 97 26) c (at_number 97 26 c low high) kept

is_own_key : (key : KeyCode) (held : ℕ) → IsReadBack key held → Contains own_keys (key, held)
is_own_key k h (listed key held here) =
    Contains-append_left keys_read_back (pairs (chars own_letters) (CTRL ∷ CTRL_ALT ∷ [])) (key, held) here
is_own_key k h (ctrl_letter c held small own here) =
    Contains-append_right keys_read_back (pairs (chars own_letters) (CTRL ∷ CTRL_ALT ∷ [])) (Char c, held)
    (in_chars own_letters (CTRL ∷ CTRL_ALT ∷ []) c held (own_letter_here c small own) here)

abbrev sent_of : Option ℕ → KeyCode × ℕ → Option (List ℕ)
sent_of shifted p = option_map legacy_bytes (legacy_text (Named p.0) p.1 shifted)

abbrev enc_of : KeyCode × ℕ → Option (List ℕ)
enc_of p = enc p.0 (record { 0 = port_bits p.1 }) xterm_modes

own_keys_sent : (shifted : Option ℕ) → map (sent_of shifted) own_keys ≡ map enc_of own_keys
unfolding legacy_bytes legacy_text enc_written_out numbers
own_keys_sent shifted = refl

own_bits : map (λ (p : KeyCode × ℕ). kitty_bits (port_bits p.1)) own_keys ≡ map (λ p. p.1) own_keys
unfolding numbers
own_bits = refl

own_keys_read : AllRead xterm_modes (map in_port own_keys)
unfolding enc_written_out written_out numbers
own_keys_read = refl

own_keys_told : AllTold (map in_port own_keys)
unfolding enc_written_out events_written_out numbers digits
own_keys_told reading true = refl
own_keys_told reading false = refl

own_keys_typed : AllTyped (map in_port own_keys)
unfolding enc_written_out numbers
own_keys_typed reading = refl

-- what is sent as before the protocol is that text

-- the text that is told is the key's
told_text_is : (sent : Option LegacyText) (text : LegacyText) → or_reported sent ≡ Legacy text → sent ≡ Some text
told_text_is (Some other) text e = cc (e)
told_text_is None text e = cc (e)

by_rule : (a b c d t : Bool) (sent : Option LegacyText) (text : LegacyText) → (if a then Nothing else (if b then Nothing
    else (if c then Reported else (if d then Nothing else (if t then Typed else or_reported sent))))) ≡ Legacy text → sent ≡ Some text
by_rule true b c d t sent text e = cc (e)
by_rule false true c d t sent text e = cc (e)
by_rule false false true d t sent text e = cc (e)
by_rule false false false true t sent text e = cc (e)
by_rule false false false false true sent text e = cc (e)
by_rule false false false false false sent text e = told_text_is sent text e

of_press : (press' : Bool) (sent : Option LegacyText) (text : LegacyText) → (if press' then sent else None) ≡ Some text
    → sent ≡ Some text
of_press true sent text e = e
of_press false sent text e = cc (e)

legacy_is : (r : KeyReport) (flags : ℕ) (sent : LegacyText) → telling r flags ≡ Legacy sent
    → legacy_text (told_key r flags) (without_locks r.modifiers) r.shifted ≡ Some sent
unfolding telling
legacy_is r flags sent e =
    of_press (is_legacy_press r flags) (legacy_text (told_key r flags) (without_locks r.modifiers) r.shifted) sent
    (by_rule (is_silent_release r flags) (is_silent_modifier r flags) (tells_all_keys flags)
    (sends_control (told_key r flags) && is_release r.kind)
    (types (told_key r flags) r && not (is_release r.kind)) (legacy_of r flags) sent e)

written_as : (r : KeyReport) (flags : ℕ) (sent : LegacyText) → telling r flags ≡ Legacy sent
    → kitty_text r flags ≡ Some (legacy_bytes sent)
unfolding kitty_text
written_as r flags sent tells = rw tells refl

pub legacy_read_back : LegacyReadBack
legacy_read_back reading r key flags sent text more is named tells writes own apart' =
    subst (λ b. IsReadAs reading text more (press_of (read_key reading key) b)) bits
    (by_list reading (map in_port own_keys) key (port_bits held) text more own_keys_read own_keys_told own_keys_typed
    (in_map in_port own_keys (key, held) here) sends (λ e waits. apart' e (waiting waits)))
  where
    held : ℕ
    held = without_locks r.modifiers

    here : Contains own_keys (key, held)
    here = is_own_key key held own

    bits : kitty_bits (port_bits held) ≡ held
    bits = same_on (λ (p : KeyCode × ℕ). kitty_bits (port_bits p.1)) (λ p. p.1) own_keys (key, held) own_bits here

    legacy : legacy_text (Named key) held r.shifted ≡ Some sent
    legacy = subst (λ k. legacy_text k held r.shifted ≡ Some sent) named (legacy_is r flags sent tells)

    sends : Sends key (port_bits held) text
    sends = sym (same_on (sent_of r.shifted) enc_of own_keys (key, held) (own_keys_sent r.shifted) here)
        ∙ ap (option_map legacy_bytes) legacy ∙ sym (written_as r flags sent tells) ∙ writes

    waiting : Contains held_that_wait (key, port_bits held) → Contains keys_that_wait (key, held)
    waiting w = subst (λ b. Contains keys_that_wait (key, b)) bits
        (subst (λ l. Contains l (key, kitty_bits (port_bits held))) waits_same (in_map in_kitty held_that_wait (key, port_bits held) w))

-- characters after ESC

abbrev printable_with_alt : List Held
printable_with_alt = pairs (chars (numbers 32 95)) (port_alt ∷ [])

printable_sent : map (λ c. enc (Char c) (record { 0 = port_alt }) xterm_modes) (numbers 32 95)
    ≡ map (λ c. Some (27 ∷ encode_utf8 c)) (numbers 32 95)
unfolding enc_written_out numbers
printable_sent = refl

printable_read : AllRead xterm_modes printable_with_alt
unfolding enc_written_out written_out numbers
printable_read = refl

printable_told : AllTold printable_with_alt
unfolding enc_written_out events_written_out numbers digits
printable_told reading true = refl
printable_told reading false = refl

printable_typed : AllTyped printable_with_alt
unfolding enc_written_out numbers
printable_typed reading = refl

-- a character beyond ASCII
char_with_alt : (c : ℕ) → 128 ≤ c → Sends (Char c) port_alt (ESC ++ encode_utf8 c)
unfolding enc key_text char_text plain_char_text other_text
char_with_alt c high =
    let no_letter : is_ascii_alphanumeric c || is_ascii_punctuation c ≡ false = grind (arith, nat_tests) in
    rw (key_with_alt c (λ e. omega arith) (λ e. omega arith), held_with_alt c, no_letter)

-- ESC and several bytes are typed as they are
several_typed : (reading : Reading) (c : ℕ) (u : List ℕ) → IsSeveral u → typed_key Extended reading (27 ∷ u) (Char c) ≡ Char c
several_typed reading c [] s = refl
several_typed reading c (x ∷ []) s = absurd (s.2 refl)
several_typed reading c (x ∷ y ∷ u) s = refl

alt_back : (reading : Reading) (c : ℕ) (text : List ℕ) (f : Bool) → IsScalar c → 128 ≤ c → 27 ∷ encode_utf8 c ≡ text
    → ReadAs reading text (key_with (Char c) port_alt) f → Back reading (Char c) port_alt text f
alt_back reading c text f scalar high e (as_key means) =
    subst (λ k. Means reading text f (Key (pressed_key (key_with k port_alt)) ∷ []) []) (go reading.dialect (encode_forms c scalar)) means
  where
    go : (dialect : Dialect) → ((c < 128) × (encode_utf8 c ≡ c ∷ [])) ⊎ IsSeveral (encode_utf8 c) → typed_key dialect reading text (Char c) ≡ Char c
    go Termwiz forms = refl
    go Extended (inl one) = absurd (omega (arith, one.0))
    go Extended (inr several) = subst (λ t. typed_key Extended reading t (Char c) ≡ Char c) e (several_typed reading c (encode_utf8 c) several)
alt_back reading c text f scalar high e (as_report is means) =
    let shape = form_shape text is.is_extra.is_form in
    let first = first_high c shape.0 shape.1 high (cc (e, shape.2)) in
    let range = second_range shape.0 shape.4 in absurd (omega (arith, first, range.1))
alt_back reading c text f scalar high e (apart v splits is) =
    let shape = form_shape v is.is_extra.is_form in
    absurd (no_escape_before c shape.0 shape.1 scalar (cc (e, splits, shape.2)))

-- ESC and a character is that character with Alt
escaped_back : (reading : Reading) (c : ℕ) (more : Bool) → IsShown c → (more ≡ true → ¬ Contains held_that_wait (Char c, port_alt))
    → Back reading (Char c) port_alt (27 ∷ encode_utf8 c) more
escaped_back reading c more is apart' = go (below_or_not 32) (below_or_not 127) (below_or_not 128)
  where
    below_or_not : (n : ℕ) → (c < n) ⊎ (n ≤ c)
    below_or_not n = grind arith

    control : is_control c ≡ true → Back reading (Char c) port_alt (27 ∷ encode_utf8 c) more
    control e = absurd (let no = is.no_control in cc (e, no))

    go : (c < 32) ⊎ (32 ≤ c) → (c < 127) ⊎ (127 ≤ c) → (c < 128) ⊎ (128 ≤ c) → Back reading (Char c) port_alt (27 ∷ encode_utf8 c) more
    go (inl low) b d = control (low_is_control c low)
    go (inr low) (inl high) d =
        let here = at_number 32 95 c low (omega arith) in
        by_list reading printable_with_alt (Char c) port_alt (27 ∷ encode_utf8 c) more printable_read printable_told printable_typed
        (in_chars (numbers 32 95) (port_alt ∷ []) c port_alt here (0, lit< tt, refl))
        (same_on (λ c. enc (Char c) (record { 0 = port_alt }) xterm_modes) (λ c. Some (27 ∷ encode_utf8 c)) (numbers 32 95) c
        printable_sent here) apart'
    go (inr low) (inr past) (inl high) =
        let same : 127 ≡ c = omega arith in control (subst (λ n. is_control n ≡ true) same refl)
    go (inr low) (inr past) (inr high) =
        let back = further_keys_read_back (Char c) (record { 0 = port_alt }) xterm_modes
        (alt_beyond_ascii c xterm_modes refl is.scalar high) in
        alt_back reading c (27 ∷ encode_utf8 c) more is.scalar high refl
        (read_as reading (27 ∷ encode_utf8 c) (key_with (Char c) port_alt) more
        (is_read reading (Char c) port_alt (27 ∷ encode_utf8 c) more back (char_with_alt c high) apart'))

-- the character after ESC is one that is shown

text_key_shown : (c : ℕ) → is_text_key c ≡ true → IsScalar c → IsShown c
text_key_shown c text scalar = record { scalar = scalar; no_control = grind (arith, nat_tests) }

after_escape_is : (o : Option ℕ) (d : ℕ) → IsShownOrMissing o → option_map AfterEscape o ≡ Some (AfterEscape d) → IsShown d
after_escape_is None d is e = cc (e)
after_escape_is (Some c) d is e = (let same : c ≡ d = cc (e) in subst IsShown same is)

abbrev IsAltHeld : ℕ → Type 0
IsAltHeld held = Contains (ALT ∷ SHIFT_ALT ∷ []) held

with_alt_shown : (c d : ℕ) (shifted : Option ℕ) → IsScalar c → character_text c ALT shifted ≡ Some (AfterEscape d) → IsShown d
with_alt_shown c d shifted scalar = go (c == 32) (is_text_key c) refl
  where
    go : (a b : Bool) → is_text_key c ≡ b
        → (if a then Some (AfterEscape 32) else (if b then Some (AfterEscape c) else None)) ≡ Some (AfterEscape d)
        → IsShown d
    go true b text e = after_escape_is (Some 32) d (record { scalar = refl; no_control = refl }) e
    go false true text e = after_escape_is (Some c) d (text_key_shown c text scalar) e
    go false false text e = cc (e)

with_shift_shown : (c d : ℕ) (shifted : Option ℕ) → IsScalarOrMissing shifted
    → character_text c SHIFT_ALT shifted ≡ Some (AfterEscape d) → IsShown d
with_shift_shown c d shifted is = go (c == 32) (is_text_key c)
  where
    go : (a b : Bool)
        → (if a then Some (AfterEscape 32) else (if b then option_map AfterEscape (with_shift c shifted) else None)) ≡ Some (AfterEscape d)
        → IsShown d
    go true b e = after_escape_is (Some 32) d (record { scalar = refl; no_control = refl }) e
    go false true e = after_escape_is (with_shift c shifted) d (with_shift_is c shifted is) e
    go false false e = cc (e)

shown_behind : (c d held : ℕ) (shifted : Option ℕ) → IsScalar c → IsScalarOrMissing shifted → IsAltHeld held
    → character_text c held shifted ≡ Some (AfterEscape d) → IsShown d
shown_behind c d held shifted scalar is (zero, l, e) sent =
    with_alt_shown c d shifted scalar (subst (λ h. character_text c h shifted ≡ Some (AfterEscape d)) (sym e) sent)
shown_behind c d held shifted scalar is (suc zero, l, e) sent =
    with_shift_shown c d shifted is (subst (λ h. character_text c h shifted ≡ Some (AfterEscape d)) (sym e) sent)
shown_behind c d held shifted scalar is (suc (suc i), l, e) sent = absurd (omega arith)

character_sent : (c held : ℕ) (shifted : Option ℕ) (sent : Option LegacyText) → legacy_text (Named (Char c)) held shifted ≡ sent
    → character_text c held shifted ≡ sent
unfolding legacy_text
character_sent c held shifted sent e = e

escaped : (c : ℕ) → legacy_bytes (AfterEscape c) ≡ 27 ∷ encode_utf8 c
unfolding legacy_bytes
escaped c = refl

pub alt_read_back : AltReadBack
alt_read_back reading r c shown flags text more is named tells writes alt apart' =
    subst (λ t. IsReadAs reading t more (press_of (Char shown) ALT)) same
    (escaped_back reading shown more is_shown (λ e waits. apart' e
    (subst (λ l. Contains l (Char shown, ALT)) waits_same (in_map in_kitty held_that_wait (Char shown, port_alt) waits))))
  where
    held : ℕ
    held = without_locks r.modifiers

    scalar : IsScalar c
    scalar = subst IsKey named (told_is_key r flags is.key_is)

    is_shown : IsShown shown
    is_shown = shown_behind c shown held r.shifted scalar is.shifted_is alt
        (character_sent c held r.shifted (Some (AfterEscape shown))
        (subst (λ k. legacy_text k held r.shifted ≡ Some (AfterEscape shown)) named (legacy_is r flags (AfterEscape shown) tells)))

    same : 27 ∷ encode_utf8 shown ≡ text
    same =
        let whole : Some (legacy_bytes (AfterEscape shown)) ≡ Some text =
        sym (written_as r flags (AfterEscape shown) tells) ∙ writes in
        sym (escaped shown) ∙ cc (whole)
