-- The port's events as they are told.
use Rattle.std.proofs.Common.{◌≡◌, ◌≢◌, ◌⊎◌, inl, inr, ⊎_elim, ℕ, ◌+◌, ◌*◌, ◌<◌, ◌≤◌, ◌%◌, ◌==◌, ◌&&◌, Bool, true, false, List, [], ◌∷◌, ◌++◌, refl, sym, ap, ◌∙◌, subst, arith, nat_le, bit_or, Option, Some, None}
use Rattle.std.specs.Prelude.{if◌then◌else◌, option_and_then, unwrap_or}
use Rattle.std.specs.List.{list_all}
use Rattle.std.specs.Char.{encode_utf8}
use Rattle.std.proofs.lemmas.Bool.Decides.{nat_tests}
use Rattle.std.proofs.lemmas.Bool.{and_parts}
use Rattle.std.proofs.lemmas.List.Sums.{AllPass-from_list_all}
use Rattle.std.proofs.lemmas.List.Elements.{All-contains}
use Rattle.std.proofs.lemmas.Nat.{and_or_self}
use Rattle.termwiz_keymap.specs.Bytes.{Begins}
use Rattle.termwiz_keymap.proofs.lemmas.lists.CommonPrefixes.{append-some}
use Rattle.termwiz_keys.specs.Introducers.{ESC}
use Rattle.termwiz_keys.specs.Keys.{escape, plain, with_alt}
use Rattle.termwiz_keys.specs.declared.types.KeyEvent.{KeyEvent}
use Rattle.termwiz_keys.specs.declared.types.MouseEvent.{MouseEvent}
use Rattle.termwiz_keys.specs.declared.types.InputEvent.{InputEvent}
use Rattle.termwiz_keys.specs.declared.types.InputEvent.TheVariants as input
use Rattle.termwiz_base.specs.Mouse.{largest_code}
use Rattle.termwiz_grammar.specs.MouseReports.{value_of}
use Rattle.termwiz_grammar.specs.Table.{TableRow, rows, written_out}
use Rattle.termwiz_grammar.specs.Sequences.{IsSequence}
use Rattle.termwiz_grammar.specs.Sequences.Meaning.{Row, Report}
use Rattle.termwiz_grammar.specs.Grammar.{Item, Head, IsHead, IsKey, IsLongest, bytes_of, replacement}
use Rattle.termwiz_grammar.proofs.lemmas.table.SequenceFacts.{escape_is_sequence}
use Rattle.termwiz_grammar.specs.Grammar.Item.{key, char, broken, mouse, paste, lone_escape, alt}
use Rattle.termwiz_grammar.specs.Grammar.Head.{Sequence, Character, Broken}
use Rattle.termwiz_extended_events.specs.declared.types.Dialect.{Dialect}
use Rattle.termwiz_extended_events.specs.declared.types.Dialect.TheVariants.{Extended, Termwiz}
use Rattle.termwiz_extended_events.specs.declared.types.Event.{Event}
use Rattle.termwiz_extended_events.specs.declared.types.Event.TheVariants.{Key, Mouse}
use Rattle.termwiz_extended_events.specs.declared.types.Reading.{Reading}
use Rattle.termwiz_extended_events.specs.PortEvents.{told, typed_key, typed_byte, decided_key, is_side_button, kitty_bits, pressed_key, port_of}
use Rattle.termwiz_extended_events.specs.MouseReports.{code_of_fields, named_button, sgr_code, sgr_fields, sgr_report}
use Rattle.termwiz_extended_events.specs.Numbers.{few_digits, is_digits, number_within}
use Rattle.termwiz_extended_grammar.specs.Readings.{after_event}
use Rattle.termwiz_extended_grammar.specs.ExtendedLaws.{BeginsDecided}
use Rattle.termwiz_extended_grammar.proofs.lemmas.forms.PortLayouts.{Past, Layout, sequence_layout}
use Rattle.termwiz_extended_grammar.proofs.lemmas.forms.PortLayouts.Layout.{alone as one, paired, longer}
use Rattle.termwiz_extended_grammar.proofs.lemmas.forms.PortLayouts.Past.{lettered, with_dollar}
use Rattle.termwiz_extended_grammar.specs.ExtendedGrammar.{escape_event}

-- the Escape key is told as it is, by every reading
pub escape_told : (reading : Reading) → told reading ESC (input.Key escape) ≡ escape_event
escape_told reading = ap (λ k. Key (pressed_key (record escape { key = k }))) (go reading.dialect)
  where
    go : (dialect : Dialect) → typed_key dialect reading ESC escape.key ≡ escape.key
    go Extended = refl
    go Termwiz = refl

-- the modifiers of a key
abbrev held_by : Event → ℕ
held_by (Key report) = report.modifiers
held_by event = 0

alt_told : (held : ℕ) → 2 ≤ kitty_bits (bit_or held 4)
alt_told held = rw (and_or_self 4 held) (omega arith)

-- a key with ALT isn't the Escape key
pub alt_not_escape : (reading : Reading) (bytes : List ℕ) (k : KeyEvent) → escape_event ≡ told reading bytes (input.Key (with_alt k)) → ⊥
alt_not_escape reading bytes k e =
    let none : 0 ≡ kitty_bits (bit_or k.modifiers.0 4) = ap held_by e in omega (arith, none, alt_told k.modifiers.0)

-- no event of the port is a position, so it leaves the reading as it is
pub told_leaves : (reading : Reading) (bytes : List ℕ) (event : InputEvent) → after_event reading (told reading bytes event) ≡ reading
told_leaves reading bytes (input.Key k) = refl
told_leaves reading bytes (input.Mouse event) = refl
told_leaves reading bytes (input.PixelMouse event) = refl
told_leaves reading bytes (input.Resized c r) = refl
told_leaves reading bytes (input.Paste text) = refl
told_leaves reading bytes input.Wake = refl

-- the modifiers of the rows are told whole, with ALT too
abbrev is_told_whole : ℕ → Bool
is_told_whole held = nat_le (kitty_bits held) 15 && (2 * kitty_bits held == held)

rows_told : list_all (λ r. is_told_whole r.1.modifiers.0 && is_told_whole (bit_or r.1.modifiers.0 4)) rows ≡ true
unfolding written_out
rows_told = refl

row_told : (text : List ℕ) (k : KeyEvent) → IsSequence text (Row k)
    → (is_told_whole k.modifiers.0 ≡ true) × (is_told_whole (bit_or k.modifiers.0 4) ≡ true)
unfolding IsSequence
row_told text k is = and_parts (is_told_whole k.modifiers.0) (is_told_whole (bit_or k.modifiers.0 4))
    (All-contains (λ (r : TableRow). (is_told_whole r.1.modifiers.0 && is_told_whole (bit_or r.1.modifiers.0 4)) ≡ true) rows (text, k)
    (AllPass-from_list_all (λ (r : TableRow). is_told_whole r.1.modifiers.0 && is_told_whole (bit_or r.1.modifiers.0 4)) rows rows_told) is)

-- so the port's key is that of its report
told_key : (k : KeyEvent) → is_told_whole k.modifiers.0 ≡ true → port_of (Key (pressed_key k)) ≡ Some (input.Key k)
told_key k e =
    let both = and_parts (nat_le (kitty_bits k.modifiers.0) 15) (2 * kitty_bits k.modifiers.0 == k.modifiers.0) e in
    let few : nat_le (kitty_bits k.modifiers.0) 15 ≡ true = both.0 in
    let same : 2 * kitty_bits k.modifiers.0 ≡ k.modifiers.0 = grind (arith, nat_tests, both.1) in
    rw few (ap (λ n. Some (input.Key (record { key = k.key; modifiers = record { 0 = n } }))) same)

-- a key that no reading decides is told as it is
undecided_key : (reading : Reading) (bytes : List ℕ) (k : KeyEvent) → is_told_whole k.modifiers.0 ≡ true
    → (reading.dialect ≡ Termwiz) ⊎ (option_and_then (decided_key reading) (typed_byte bytes) ≡ None)
    → port_of (told reading bytes (input.Key k)) ≡ Some (input.Key k)
undecided_key reading bytes k whole undecided =
    ap (λ key. port_of (Key (pressed_key (record k { key = key })))) (go reading.dialect undecided) ∙ told_key k whole
  where
    go : (dialect : Dialect) → (dialect ≡ Termwiz) ⊎ (option_and_then (decided_key reading) (typed_byte bytes) ≡ None)
        → typed_key dialect reading bytes k.key ≡ k.key
    go Termwiz either = refl
    go Extended (inl only) = cc (only)
    go Extended (inr none) = rw none refl

pub decided_none : (reading : Reading) (b : ℕ) → b ≢ 8 → b ≢ 10 → b ≢ 127 → decided_key reading b ≡ None
decided_none reading b m n o =
    let first : (b == 8) ≡ false = grind (arith, nat_tests) in
    let second : (b == 127) ≡ false = grind (arith, nat_tests) in
    let third : (b == 10) ≡ false = grind (arith, nat_tests) in
    rw (first, second, third) refl

begun_none : (reading : Reading) (b : ℕ) (u : List ℕ) → ¬ BeginsDecided (b ∷ u) → decided_key reading b ≡ None
begun_none reading b u never =
    decided_none reading b (λ e. never (inl e)) (λ e. never (inr (inl e))) (λ e. never (inr (inr e)))

-- bytes of which none is decided
none_decided : (reading : Reading) (u bytes : List ℕ) → Begins bytes u → ¬ BeginsDecided u
    → ((b : ℕ) → bytes ≡ 27 ∷ b ∷ [] → decided_key reading b ≡ None) → option_and_then (decided_key reading) (typed_byte bytes) ≡ None
none_decided reading u [] b never after = refl
none_decided reading u (x ∷ []) b never after = begun_none reading x b.0 (subst (λ z. ¬ BeginsDecided z) b.1 never)
none_decided reading u (x ∷ y ∷ []) b never after = go (x == 27) refl
  where
    go : (is : Bool) → (x == 27) ≡ is → option_and_then (decided_key reading) (typed_byte (x ∷ y ∷ [])) ≡ None
    go true e = let same : x ≡ 27 = grind (arith, nat_tests) in rw e (after y (ap (λ z. z ∷ y ∷ []) same))
    go false e = rw e refl
none_decided reading u (x ∷ y ∷ z ∷ bytes) b never after = refl

-- a code that names a button of the port's names no side button
few_buttons : (code : ℕ) → code ≤ 95 → is_side_button (named_button code) ≡ false
few_buttons code few = go (nat_le 64 code) (code % 4 == 3) refl refl
  where
    low : code % 4 < 4
    low = omega arith

    go : (wheel third : Bool) → nat_le 64 code ≡ wheel → (code % 4 == 3) ≡ third → is_side_button (named_button code) ≡ false
    go true third e f = rw e (let few : nat_le 8 (4 + code % 4) ≡ false = grind (arith, nat_tests, low) in few)
    go false true e f = rw (e, f) refl
    go false false e f = rw (e, f) (let few : nat_le 8 (1 + code % 4) ≡ false = grind (arith, nat_tests, low) in few)

-- a number within a limit
number_limit : (digits : List ℕ) (n : ℕ) → number_within few_digits 0 largest_code digits ≡ Some n → n ≤ 95
unfolding number_within
number_limit digits n e = go (is_digits few_digits digits && nat_le 0 (value_of digits) && nat_le (value_of digits) largest_code) refl e
  where
    go : (b : Bool) → (is_digits few_digits digits && nat_le 0 (value_of digits) && nat_le (value_of digits) largest_code) ≡ b
        → (if b then Some (value_of digits) else None) ≡ Some n → n ≤ 95
    go true all h =
        let last : nat_le (value_of digits) largest_code ≡ true =
        (and_parts (is_digits few_digits digits && nat_le 0 (value_of digits)) (nat_le (value_of digits) largest_code) all).1 in
        let same : value_of digits ≡ n = cc (h) in
        grind (arith, nat_tests, last, same)
    go false all h = cc (h)

-- the code of a report of the SGR mode is one of the port's
small_code : (bytes : List ℕ) → sgr_code bytes ≤ 95
unfolding sgr_code
small_code bytes = by_fields (sgr_fields bytes)
  where
    within : (found : Option ℕ) (digits : List ℕ) → number_within few_digits 0 largest_code digits ≡ found → unwrap_or found 0 ≤ 95
    within None digits e = omega arith
    within (Some n) digits e = number_limit digits n e

    by_fields : (fs : List (List ℕ)) → code_of_fields fs ≤ 95
    by_fields [] = omega arith
    by_fields (code ∷ more) = within _ code refl

told_mouse : (bytes : List ℕ) (event : MouseEvent) → port_of (Mouse (sgr_report bytes event)) ≡ Some (input.Mouse event)
told_mouse bytes event = rw (few_buttons (sgr_code bytes) (small_code bytes)) refl

-- a sequence has something after its second byte
no_past : {r : List ℕ} → Past r → r ≡ [] → ⊥
no_past (lettered middle last e a l m n) none = append-some middle (last ∷ []) (λ k. cc (k)) (sym e ∙ none)
no_past (with_dollar digit e d) none = cc (e, none)

-- the port's item is told as an event that has the port's event
pub told_port : (reading : Reading) (u bytes : List ℕ) (event : InputEvent) (f : Bool) → Item u f bytes event → Begins bytes u
    → (reading.dialect ≡ Termwiz)
    ⊎ ((¬ BeginsDecided u) × ((v : List ℕ) → IsLongest u ESC (Row escape) → u ≡ ESC ++ v → ¬ BeginsDecided v))
    → port_of (told reading bytes event) ≡ Some event
told_port reading u bytes event f (key text k is ordinary alone) b either =
    undecided_key reading text k (row_told text k is.is_sequence).0 (⊎_elim inl (λ h. inr (none_decided reading u text b h.0 letter)) either)
  where
    letter : (x : ℕ) → text ≡ 27 ∷ x ∷ [] → decided_key reading x ≡ None
    letter x e = by_layout (sequence_layout text (Row k) is.is_sequence)
      where
        by_layout : Layout text → decided_key reading x ≡ None
        by_layout (one y h) = absurd (cc (e, h))
        by_layout (paired y h l) =
            let same : y ≡ x = cc (e, h) in
            decided_none reading x (λ q. omega (arith, same, l)) (λ q. omega (arith, same, l)) (λ q. omega (arith, same, l))
        by_layout (longer y r h second past) = absurd (no_past past (let gone : r ≡ [] = cc (e, h) in gone))
told_port reading u bytes event f (char c is) b either =
    undecided_key reading (encode_utf8 c) (plain c) refl (⊎_elim inl (λ h. inr (none_decided reading u (encode_utf8 c) b h.0 (λ x e.
    absurd (is.no_sequence ESC (Row escape) escape_is_sequence (x ∷ b.0, b.1 ∙ ap (λ z. z ++ b.0) e))))) either)
told_port reading u bytes event f (broken byte is) b either = undecided_key reading (byte ∷ []) (plain replacement) refl
    (⊎_elim inl (λ h. inr (none_decided reading u (byte ∷ []) b h.0 (λ x e. absurd (cc (e))))) either)
told_port reading u bytes event f (mouse text report is) b either = told_mouse text report
told_port reading u bytes event f (paste body begins first) b either = refl
told_port reading u bytes event f (lone_escape v h after is apart) b either =
    undecided_key reading ESC escape refl (inr refl)
told_port reading u bytes event f (alt v h k after is is_key) b either = undecided_key reading (ESC ++ bytes_of h) (with_alt k)
    (alt_whole h k v is is_key)
    (⊎_elim inl (λ (never : (¬ BeginsDecided u) × ((v : List ℕ) → IsLongest u ESC (Row escape) → u ≡ ESC ++ v → ¬ BeginsDecided v)).
    inr (none_decided reading u (ESC ++ bytes_of h) b never.0 (after_escape (never.1 v after.escape_head after.splits)))) either)
  where
    alt_whole : (h : Head) (k : KeyEvent) (v : List ℕ) → IsHead v h → IsKey h k → is_told_whole (bit_or k.modifiers.0 4) ≡ true
    alt_whole (Sequence text (Row row)) k v is (other, same) =
        subst (λ (j : KeyEvent). is_told_whole (bit_or j.modifiers.0 4) ≡ true) (sym same) (row_told text row is.is_sequence).1
    alt_whole (Sequence text (Report r)) k v is never = absurd never
    alt_whole (Character c) k v is same = subst (λ (j : KeyEvent). is_told_whole (bit_or j.modifiers.0 4) ≡ true) (sym same) refl
    alt_whole (Broken byte) k v is same = subst (λ (j : KeyEvent). is_told_whole (bit_or j.modifiers.0 4) ≡ true) (sym same) refl

    after_escape : ¬ BeginsDecided v → (x : ℕ) → ESC ++ bytes_of h ≡ 27 ∷ x ∷ [] → decided_key reading x ≡ None
    after_escape never x e =
        let single : bytes_of h ≡ x ∷ [] = cc (e) in
        let rest : v ≡ x ∷ b.0 = cc (after.splits, b.1, single) in
        begun_none reading x b.0 (subst (λ z. ¬ BeginsDecided z) rest never)
