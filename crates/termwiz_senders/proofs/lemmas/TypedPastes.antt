-- Without brackets a text made safe is typed, key by key.
use Rattle.std.proofs.Common.{◌≡◌, inl, inr, ⊎_elim, ℕ, ◌≤◌, Bool, true, false, Some, None, List, [], ◌∷◌, ◌++◌, length, refl, ap, subst, sym, arith, Contains, bytes_eq}
use Rattle.std.specs.Prelude.{◌==◌, option_and_then, All, encode_utf8_all}
use Rattle.std.specs.Char.{IsScalar, encode_utf8}
use Rattle.std.specs.Map.{lookup}
use Rattle.std.specs.Str.{all_scalars}
use Rattle.std.proofs.lemmas.Bool.{and_parts}
use Rattle.std.proofs.lemmas.Bool.Decides.{nat_tests}
use Rattle.std.proofs.lemmas.List.Elements.{All-head, All-tail}
use Rattle.std.proofs.lemmas.Slice.Eq.{bytes_eq-Decides}
use Rattle.std.proofs.lemmas.Map.Views.{Contains-from_lookup}
use Rattle.termwiz_keymap.specs.Bytes.{Begins}
use Rattle.termwiz_keys.specs.Keys.{NONE, key_with}
use Rattle.termwiz_keys.specs.declared.types.KeyCode.{KeyCode}
use Rattle.termwiz_keys.specs.declared.types.KeyCode.TheVariants.{Enter, Tab}
use Rattle.termwiz_keys.specs.declared.types.KeyEvent.{KeyEvent}
use Rattle.termwiz_keys.specs.declared.types.InputEvent.TheVariants.{Key}
use Rattle.termwiz_grammar.specs.Table.{rows, written_out, numbers}
use Rattle.termwiz_grammar.specs.Sequences.{Meaning, IsSequence}
use Rattle.termwiz_grammar.specs.Grammar.{IsOpen, Stands, Steps}
use Rattle.termwiz_grammar.specs.Grammar.Item.{key}
use Rattle.termwiz_grammar.proofs.lemmas.table.RowShape.{Bytes}
use Rattle.termwiz_grammar.proofs.lemmas.table.RowShape.Bytes.{one, more}
use Rattle.termwiz_grammar.proofs.lemmas.table.SequenceFacts.{sequence_bytes}
use Rattle.termwiz_grammar.proofs.lemmas.waiting.RestShape.{empty_is_rest}
use Rattle.termwiz_laws.proofs.lemmas.key_streams.NoFlush.{first_byte}
use Rattle.termwiz_laws.proofs.lemmas.plain_texts.CharactersInTurn.{text_character_stands}
use Rattle.termwiz_kitty.proofs.lemmas.typed.NoEscape.{IsOrdinary, has_no_extra, ordinary_no_escape}
use Rattle.termwiz_extended_events.specs.declared.types.Dialect.{Dialect}
use Rattle.termwiz_extended_events.specs.declared.types.Dialect.TheVariants.{Extended, Termwiz}
use Rattle.termwiz_extended_events.specs.declared.types.Event.TheVariants.{Key as KeyOf}
use Rattle.termwiz_extended_events.specs.declared.types.Reading.{Reading}
use Rattle.termwiz_extended_events.specs.PortEvents.{decided_key, pressed_key, told, typed_byte, typed_key}
use Rattle.termwiz_extended_grammar.specs.ExtendedGrammar as extended
use Rattle.termwiz_extended_grammar.specs.ExtendedGrammar.{IsUsual}
use Rattle.termwiz_extended_grammar.specs.ExtendedGrammar.Stands.{usual}
use Rattle.termwiz_extended_grammar.specs.Readings.{after_events}
use Rattle.termwiz_extended_grammar.proofs.lemmas.cuts.PortTold.{decided_none}
use Rattle.termwiz_extended_grammar.proofs.lemmas.items.ExtendedRests.{empty_is_rest as extended_empty}
use Rattle.termwiz_kitty.proofs.lemmas.typed.TypedCharacters.{text_character}
use Rattle.termwiz_senders.specs.Pastes.{HT, CR, characters, safe, safe_text}
use Rattle.termwiz_senders.specs.PasteLaws.{IsSafe, typing_key, typed_events, typed_reports, TypedPaste, TypedPasteExtended}
use Rattle.termwiz_senders.proofs.lemmas.SafeCharacters.{all_safe}
use Rattle.termwiz_senders.proofs.lemmas.SafePastes.{all_ordinary, safe_characters, safe_ordinary}

-- the rows of HT and CR
row_at : (b : ℕ) (k : KeyEvent) → lookup (bytes_eq (b ∷ [])) rows ≡ Some k → Contains rows (b ∷ [], k)
row_at b k e = Contains-from_lookup (λ (s t : List ℕ) (h : bytes_eq s t ≡ true). (bytes_eq-Decides s t).0 h) (b ∷ []) k rows e

tab_row : Contains rows (HT ∷ [], key_with Tab NONE)
unfolding written_out numbers
tab_row = row_at HT (key_with Tab NONE) refl

enter_row : Contains rows (CR ∷ [], key_with Enter NONE)
unfolding written_out numbers
enter_row = row_at CR (key_with Enter NONE) refl

-- a row of one such byte stands before any text
row_stands : (b : ℕ) (k : KeyEvent) (S : List ℕ) (f : Bool) → b ≤ 26 → Contains rows (b ∷ [], k) → Stands (b ∷ S) f (b ∷ []) (Key k)
unfolding IsSequence
row_stands b k S f low row = record {
  closed = λ opens. ⊎_elim (λ (e : b ≡ 27). omega arith) (λ (high : 128 ≤ b). omega arith) (first_byte b S opens.beginning);
  item = key (b ∷ []) k (record { is_sequence = row; begins = (S, refl); longest = longest }) (λ e. cc (e)) (λ e. absurd (let same : b ≡ 27 = cc (e) in omega arith));
}
  where
    longest : (other : List ℕ) (m : Meaning) → IsSequence other m → Begins other (b ∷ S) → length other ≤ 1
    longest other m is begins = go (sequence_bytes other m is)
      where
        go : Bytes other → length other ≤ 1
        go (one c l e) = omega (arith, ap length e)
        go (more s n e p) = absurd (let first : b ≡ 27 = cc (begins.1, e) in omega arith)

typed_stands : (c : ℕ) (S : List ℕ) (f : Bool) → IsScalar c → IsSafe c
    → Stands (encode_utf8 c ++ S) f (encode_utf8 c) (Key (key_with (typing_key c) NONE))
unfolding encode_utf8
typed_stands c S f scalar (inl tab) = rw tab (row_stands HT (key_with Tab NONE) S f (omega arith) tab_row)
typed_stands c S f scalar (inr (inl line_end)) = rw line_end (row_stands CR (key_with Enter NONE) S f (omega arith) enter_row)
typed_stands c S f scalar (inr (inr none)) =
    let no_return : (c == CR) ≡ false = grind (arith, nat_tests) in
    let no_tab : (c == HT) ≡ false = grind (arith, nat_tests) in
    rw (no_return, no_tab) (text_character_stands c S f (text_character c scalar none))

typed_steps : (cs : List ℕ) (f : Bool) → all_scalars cs ≡ true → All IsSafe cs → Steps (encode_utf8_all cs) f (typed_events cs) []
typed_steps [] f scalars are = refl
typed_steps (c ∷ cs) f scalars are =
    let both = and_parts _ (all_scalars cs) scalars in (
      encode_utf8 c,
      encode_utf8_all cs,
      typed_stands c (encode_utf8_all cs) f both.0 (All-head IsSafe c cs are),
      refl,
      typed_steps cs f both.1 (All-tail IsSafe c cs are),
    )

pub typed_paste : TypedPaste
unfolding safe_text
typed_paste text f = record {
  steps = typed_steps (safe (characters text)) f (safe_characters text) (all_safe (characters text));
  rest = empty_is_rest f;
}

-- no reading decides what is typed, so the extended parser tells the same key
none_decided : (reading : Reading) (bytes : List ℕ) → IsOrdinary bytes → option_and_then (decided_key reading) (typed_byte bytes) ≡ None
none_decided reading [] a = refl
none_decided reading (x ∷ []) a = decided_none reading x a.0.1.0 a.0.1.1 a.0.1.2
none_decided reading (x ∷ y ∷ []) a = let other : (x == 27) ≡ false = grind (arith, nat_tests, a.0.0) in rw other refl
none_decided reading (x ∷ y ∷ z ∷ bytes) a = refl

same_key : (reading : Reading) (bytes : List ℕ) (k : KeyCode) → IsOrdinary bytes → typed_key reading.dialect reading bytes k ≡ k
same_key reading bytes k a = go reading.dialect
  where
    go : (dialect : Dialect) → typed_key dialect reading bytes k ≡ k
    go Extended = rw (none_decided reading bytes a) refl
    go Termwiz = refl

key_told : (reading : Reading) (bytes : List ℕ) (k : KeyEvent) → IsOrdinary bytes → told reading bytes (Key k) ≡ KeyOf (pressed_key k)
key_told reading bytes k a = ap (λ key. KeyOf (pressed_key (record k { key = key }))) (same_key reading bytes k.key a)

ordinary_usual : (reading : Reading) (u : List ℕ) (f : Bool) → IsOrdinary u → ¬ IsOpen u f → IsUsual reading u f
ordinary_usual reading u f a closed =
    let none = has_no_extra reading u f (ordinary_no_escape u a) in
    record { none = none.none; closed = λ opens. closed (none.open_to_port opens) }

typed_steps_extended : (reading : Reading) (cs : List ℕ) (f : Bool) → all_scalars cs ≡ true → All IsSafe cs
    → extended.Steps reading (encode_utf8_all cs) f (typed_reports cs) []
typed_steps_extended reading [] f scalars are = refl
typed_steps_extended reading (c ∷ cs) f scalars are =
    let both = and_parts _ (all_scalars cs) scalars in
    let safe_one = All-head IsSafe c cs are in
    let key = key_with (typing_key c) NONE in
    let here = typed_stands c (encode_utf8_all cs) f both.0 safe_one in
    let a = all_ordinary (c ∷ cs) scalars are in (
      encode_utf8_all cs,
      subst (extended.Stands reading (encode_utf8_all (c ∷ cs)) f (encode_utf8_all cs))
          (key_told reading (encode_utf8 c) key (safe_ordinary c both.0 safe_one))
          (usual (encode_utf8 c) (encode_utf8_all cs) (Key key) here refl
          (ordinary_usual reading (encode_utf8_all (c ∷ cs)) f a here.closed)
          (λ v split. absurd ((subst IsOrdinary split a).0.0 refl))),
      typed_steps_extended reading cs f both.1 (All-tail IsSafe c cs are),
    )

pub typed_paste_extended : TypedPasteExtended
unfolding safe_text
typed_paste_extended reading text f = record {
  steps = typed_steps_extended reading (safe (characters text)) f (safe_characters text) (all_safe (characters text));
  rest = subst (λ r. extended.IsRest r [] f) (sym (reports_leave reading (safe (characters text)))) (extended_empty reading f);
}
  where
    reports_leave : (reading : Reading) (cs : List ℕ) → after_events reading (typed_reports cs) ≡ reading
    reports_leave reading [] = refl
    reports_leave reading (c ∷ cs) = reports_leave reading cs
