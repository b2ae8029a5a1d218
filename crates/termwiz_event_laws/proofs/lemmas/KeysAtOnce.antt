-- Keys that are typed are read at once, but for the seven texts that wait.
use Rattle.std.proofs.Common.{◌≡◌, ◌≢◌, ◌⊎◌, inl, inr, ⊎_elim, ℕ, zero, ◌<◌, ◌≤◌, true, false, List, [], ◌∷◌, ◌++◌, refl, sym, ap, ◌∙◌, subst, arith, append-nil, Contains, Some, None, lit<, codes}
use Rattle.std.specs.Prelude.{encode_utf8_all}
use Rattle.std.specs.Char.{IsScalar, encode_utf8}
use Rattle.std.specs.Str.{IsUtf8, all_scalars}
use Rattle.std.proofs.Math.Utf8.{low_scalar}
use Rattle.std.proofs.lemmas.Bool.{and_parts}
use Rattle.std.proofs.lemmas.Str.{encode_ascii}
use Rattle.termwiz_keymap.proofs.lemmas.lists.CommonPrefixes.{append-some}
use Rattle.termwiz_keys.specs.Encoding.{enc}
use Rattle.termwiz_keys.specs.Introducers.{ESC, CSI, SS3}
use Rattle.termwiz_keys.specs.Keys.{ALT, key_with, escape, with_alt}
use Rattle.termwiz_keys.specs.declared.types.KeyCode.TheVariants.{Char}
use Rattle.termwiz_keys.specs.declared.types.KeyEvent.{KeyEvent}
use Rattle.termwiz_keys.specs.declared.types.InputEvent.{InputEvent}
use Rattle.termwiz_grammar.specs.Grammar as port
use Rattle.termwiz_grammar.specs.Grammar.{Head, IsHead, IsCharacter, IsBroken}
use Rattle.termwiz_grammar.specs.Grammar.Head.{Sequence, Character, Broken}
use Rattle.termwiz_grammar.specs.Grammar.Item.{key, char, broken, mouse, paste, lone_escape, alt}
use Rattle.termwiz_grammar.specs.Sequences.{Meaning, IsSequence}
use Rattle.termwiz_grammar.specs.Sequences.Meaning.{Row, Report}
use Rattle.termwiz_grammar.specs.Table.{rows}
use Rattle.termwiz_grammar.proofs.lemmas.characters.CharacterPrefixes.{sequence_finished, unfinished_high}
use Rattle.termwiz_grammar.proofs.lemmas.mouse.OneReport.{report_plain}
use Rattle.termwiz_grammar.proofs.lemmas.table.RowShape.{Bytes, no_report_shape, row_once, row_shaped, three_beginnings}
use Rattle.termwiz_grammar.proofs.lemmas.table.RowShape.Bytes.{one, more}
use Rattle.termwiz_grammar.proofs.lemmas.table.SequenceFacts.{escape_is_sequence, sequence_bytes}
use Rattle.termwiz_grammar.proofs.lemmas.table.TableAsMap.{rows_in_order}
use Rattle.termwiz_laws.proofs.lemmas.first_bytes.EncodedBytes.{IsSeveral, encode_forms}
use Rattle.termwiz_laws.proofs.lemmas.further_keys.ComputedReadings.{enc_written_out}
use Rattle.termwiz_laws.proofs.lemmas.further_keys.SingleKey.{Plainly}
use Rattle.termwiz_laws.proofs.lemmas.further_keys.SingleKey.Plainly.{by_row as as_row, by_character as as_character, by_broken_byte}
use Rattle.termwiz_laws.proofs.lemmas.key_streams.NoFlush.{first_byte}
use Rattle.termwiz_laws.proofs.lemmas.plain_texts.CharactersInTurn.{text_character_stands}
use Rattle.termwiz_extended_events.specs.declared.types.Event.{Event}
use Rattle.termwiz_extended_events.specs.declared.types.Event.TheVariants.{Key as KeyOf}
use Rattle.termwiz_extended_events.specs.declared.types.KeyReport.{KeyReport}
use Rattle.termwiz_extended_events.specs.declared.types.KeyEventKind.TheVariants.{Press}
use Rattle.termwiz_extended_events.specs.declared.types.Reading.{Reading}
use Rattle.termwiz_extended_events.specs.declared.types.ReportedKey.TheVariants.{Named}
use Rattle.termwiz_extended_events.specs.PortEvents.{told}
use Rattle.termwiz_extended_grammar.specs.ExtendedGrammar.{BeginsExtended, BeginsKnown, IsOpen, IsUsual, Means, Stands, StartsExtended}
use Rattle.termwiz_extended_grammar.specs.ExtendedGrammar.Stands.{usual, extra, alt_key, lone_escape as lone, string}
use Rattle.termwiz_extended_grammar.proofs.lemmas.forms.FormBytes.{IsSecond, mark_shape}
use Rattle.termwiz_extended_grammar.proofs.lemmas.forms.ExtraFacts.{completed_mark, mark_from_unfinished, unfinished_reads}
use Rattle.termwiz_extended_grammar.proofs.lemmas.forms.PortLayouts.{Layout, Past, sequence_layout}
use Rattle.termwiz_extended_grammar.proofs.lemmas.forms.PortLayouts.Layout.{alone as single_byte, paired, longer}
use Rattle.termwiz_extended_grammar.proofs.lemmas.forms.PortLayouts.Past.{lettered, with_dollar}
use Rattle.termwiz_extended_grammar.proofs.lemmas.items.ExtendedItems.{starts_shape}
use Rattle.termwiz_extended_grammar.proofs.lemmas.items.ExtendedRests.{empty_is_rest}
use Rattle.termwiz_extended_grammar.proofs.lemmas.items.ExtraHeads.{four_beginnings}
use Rattle.termwiz_kitty.specs.KittyLaws.{IsKey, IsReport}
use Rattle.termwiz_kitty.proofs.lemmas.legacy.ReadAsOne.{no_escape_before, row_is, second_byte}
use Rattle.termwiz_senders.specs.KeyTexts.{IsReadAsKey, IsPlainKeyText, IsTypedText, no_modes, port_key, without_alt}
use Rattle.termwiz_senders.specs.KeyTexts.IsPlainKeyText.{by_sending, by_row, by_character}
use Rattle.termwiz_senders.specs.KeyTexts.IsTypedText.{alone, after_escape}
use Rattle.termwiz_senders.proofs.lemmas.ReadAlone.{means_once}
use Rattle.termwiz_senders.proofs.lemmas.RowsAlone.{told_key, usual_from, row_of, row_read}
use Rattle.termwiz_senders.proofs.lemmas.StringsAlone.{IsOfString, comes_of_string}
use Rattle.termwiz_event_laws.specs.EventLaws.{waiting_texts}
use Rattle.termwiz_event_laws.proofs.lemmas.TypedKeys.{plain_read, typed_read_back}
use Rattle.termwiz_event_laws.proofs.lemmas.KeysAfterEscape.{alt_row, starts_from_apart}
use Rattle.termwiz_event_laws.proofs.lemmas.KeysAlone.{starts_three, undecided_told}

-- The seven texts.
escape_waits : Contains waiting_texts ESC
escape_waits = (zero, lit< tt, refl)

escapes_wait : Contains waiting_texts (27 ∷ 27 ∷ [])
escapes_wait = (1, lit< tt, refl)

second_waits : (b : ℕ) → IsSecond b → Contains waiting_texts (27 ∷ b ∷ [])
second_waits b (inl e) = subst (λ c. Contains waiting_texts (27 ∷ c ∷ [])) (sym e) (2, lit< tt, refl)
second_waits b (inr (inl e)) = subst (λ c. Contains waiting_texts (27 ∷ c ∷ [])) (sym e) (3, lit< tt, refl)
second_waits b (inr (inr (inl e))) = subst (λ c. Contains waiting_texts (27 ∷ c ∷ [])) (sym e) (5, lit< tt, refl)
second_waits b (inr (inr (inr (inl e)))) = subst (λ c. Contains waiting_texts (27 ∷ c ∷ [])) (sym e) (4, lit< tt, refl)
second_waits b (inr (inr (inr (inr e)))) = subst (λ c. Contains waiting_texts (27 ∷ c ∷ [])) (sym e) (6, lit< tt, refl)

-- ESC, or ESC and the second byte of a mark
data IsFront (text : List ℕ) : Type 0 where
  escape_only : text ≡ ESC → IsFront text
  with_second : (b : ℕ) → IsSecond b → text ≡ 27 ∷ b ∷ [] → IsFront text

front_waits : (text : List ℕ) → IsFront text → Contains waiting_texts text
front_waits text (escape_only e) = subst (Contains waiting_texts) (sym e) escape_waits
front_waits text (with_second b is e) = subst (Contains waiting_texts) (sym e) (second_waits b is)

-- what properly begins one of the extended grammar's begins with ESC and such a byte
begins_mark : (reading : Reading) (u : List ℕ) → BeginsExtended reading u
    → (b : ℕ) × (r : List ℕ) × (tail : List ℕ) × (u ++ tail ≡ 27 ∷ b ∷ r) × IsSecond b
begins_mark reading u h =
    let mark = completed_mark u (mark_from_unfinished reading u h) in
    let shape = mark_shape (u ++ mark.0) mark.2 in
    (shape.0, shape.1, mark.0, shape.2, shape.4)

known_first : (reading : Reading) (y : ℕ) (v : List ℕ) → BeginsKnown reading (y ∷ v) → (y ≡ 27) ⊎ (128 ≤ y)
known_first reading y v (inl b) = first_byte y v b
known_first reading y v (inr x) = (let m = begins_mark reading (y ∷ v) x in inl (cc (m.3)))

no_past : {r : List ℕ} → Past r → r ≡ [] → ⊥
no_past (lettered middle last f a l m n) none = append-some middle (last ∷ []) (λ h. cc (h)) (sym f ∙ none)
no_past (with_dollar digit f d) none = cc (f, none)

-- A row that properly begins something known.
row_begins : (reading : Reading) (x : List ℕ) (k : KeyEvent) → IsSequence x (Row k) → x ≢ [] → BeginsKnown reading x → IsFront x
unfolding IsSequence
row_begins reading x k is some (inl (inr h)) =
    absurd (sequence_finished x x (Row k) is ([], sym (append-nil x)) some h)
row_begins reading x k is some (inr h) = ⊎_elim
    (λ (e : x ≡ ESC). escape_only e)
    (λ (rest : (x ≡ CSI) ⊎ ((x ≡ SS3) ⊎ (x ≡ ESC ++ codes "P"))). ⊎_elim
    (λ (e : x ≡ CSI). with_second 91 (inl refl) e)
    (λ (last : (x ≡ SS3) ⊎ (x ≡ ESC ++ codes "P")). ⊎_elim
    (λ (e : x ≡ SS3). with_second 79 (inr (inl refl)) e)
    (λ (e : x ≡ ESC ++ codes "P"). with_second 80 (inr (inr (inr (inl refl)))) e)
    last)
    rest)
    ((four_beginnings reading x (Row k) (unfinished_reads reading x h) is).0 h)
row_begins reading x k is some (inl (inl h)) = go h.meaning h.is_sequence
  where
    by_layout : (rest : List ℕ) → x ++ h.tail ≡ 27 ∷ 91 ∷ 60 ∷ rest → Layout x → IsFront x
    by_layout rest f (single_byte b e) = escape_only (e ∙ ap (λ c. c ∷ []) (cc (e, f)))
    by_layout rest f (paired b e l) = let same : b ≡ 91 = cc (e, f) in with_second 91 (inl refl) (e ∙ ap (λ c. 27 ∷ c ∷ []) same)
    by_layout rest f (longer b [] e second past) = absurd (no_past past refl)
    by_layout rest f (longer b (y ∷ r) e second past) =
        let whole : x ≡ 27 ∷ 91 ∷ 60 ∷ r = cc (e, f) in
        absurd (no_report_shape r (row_shaped (27 ∷ 91 ∷ 60 ∷ r) k (subst (λ t. Contains rows (t, k)) whole is)).shape)

    go : (m : Meaning) → IsSequence (x ++ h.tail) m → IsFront x
    go (Row j) s = ⊎_elim
        (λ (e : x ≡ ESC). escape_only e)
        (λ (rest : (x ≡ CSI) ⊎ (x ≡ SS3)). ⊎_elim
        (λ (e : x ≡ CSI). with_second 91 (inl refl) e) (λ (e : x ≡ SS3). with_second 79 (inr (inl refl)) e) rest)
        ((three_beginnings x).0 (k, j, h.tail, is, h.longer, s))
    go (Report m) s = let shape = report_plain (x ++ h.tail) m s in by_layout shape.0 shape.1 (sequence_layout x (Row k) is)

-- A character that begins no sequence properly begins nothing.
char_no_escape : (c : ℕ) (r : List ℕ) → IsCharacter (encode_utf8 c) c → encode_utf8 c ≡ 27 ∷ r → ⊥
char_no_escape c r is e = is.no_sequence ESC (Row escape) escape_is_sequence (r, e)

low_or_high : (b : ℕ) → (b < 128) ⊎ (128 ≤ b)
low_or_high b = grind arith

char_begins : (reading : Reading) (c : ℕ) → IsCharacter (encode_utf8 c) c → BeginsKnown reading (encode_utf8 c) → ⊥
char_begins reading c is begins = ⊎_elim low high (encode_forms c is.scalar)
  where
    low : (c < 128) × (encode_utf8 c ≡ c ∷ []) → ⊥
    low first = ⊎_elim
        (λ (e : c ≡ 27). char_no_escape c [] is (first.1 ∙ ap (λ b. b ∷ []) e))
        (λ (h : 128 ≤ c). omega (arith, first.0, h))
        (known_first reading c [] (subst (BeginsKnown reading) first.1 begins))

    high : IsSeveral (encode_utf8 c) → ⊥
    high several = ⊎_elim
        (λ (l : c < 128). is_low l)
        (λ (h : 128 ≤ c). by_kind h begins)
        (low_or_high c)
      where
        is_low : c < 128 → ⊥
        is_low l = (let s = subst IsSeveral (encode_ascii c l) several in s.2 refl)

        by_kind : 128 ≤ c → BeginsKnown reading (encode_utf8 c) → ⊥
        by_kind h (inl b) =
            let stands = text_character_stands c [] true (is.scalar, inr (omega (arith, h)), (λ e. omega (arith, h, e))) in
            stands.closed (subst (λ t. port.IsOpen t true) (sym (append-nil (encode_utf8 c)))
            (record { more_comes = refl; some = λ none. (let s = subst IsSeveral none several in s); beginning = b }))
        by_kind h (inr x) = by_first (encode_utf8 c) refl several (begins_mark reading (encode_utf8 c) x)
          where
            by_first : (u : List ℕ) → encode_utf8 c ≡ u → IsSeveral u
                → (b : ℕ) × (r : List ℕ) × (tail : List ℕ) × (encode_utf8 c ++ tail ≡ 27 ∷ b ∷ r) × IsSecond b → ⊥
            by_first [] e s m = s
            by_first (y ∷ v) e s m = let same : y ≡ 27 = cc (e, m.3) in omega (arith, same, s.0)

-- A byte from 128 on is no text.
single_utf8 : (b : ℕ) → 128 ≤ b → IsUtf8 (b ∷ []) → ⊥
single_utf8 b high ([], (scalars, e)) = cc (e)
single_utf8 b high (c ∷ cs, (scalars, e)) = ⊎_elim
    (λ (first : (c < 128) × (encode_utf8 c ≡ c ∷ [])). let same : c ≡ b = cc (e, first.1) in omega (arith, first.0, high, same))
    (λ (several : IsSeveral (encode_utf8 c)). go (encode_utf8 c) refl several)
    (encode_forms c (and_parts _ (all_scalars cs) scalars).0)
  where
    go : (u : List ℕ) → encode_utf8 c ≡ u → IsSeveral u → ⊥
    go [] f s = s
    go (x ∷ []) f s = s.2 refl
    go (x ∷ y ∷ u) f s = cc (e, f)

pair_utf8 : (b : ℕ) → 128 ≤ b → IsUtf8 (27 ∷ b ∷ []) → ⊥
pair_utf8 b high ([], (scalars, e)) = cc (e)
pair_utf8 b high (c ∷ cs, (scalars, e)) = ⊎_elim
    (λ (first : (c < 128) × (encode_utf8 c ≡ c ∷ [])).
    single_utf8 b high (cs, ((and_parts _ (all_scalars cs) scalars).1, (let rest : encode_utf8_all cs ≡ b ∷ [] = cc (e, first.1) in rest))))
    (λ (several : IsSeveral (encode_utf8 c)). go (encode_utf8 c) refl several)
    (encode_forms c (and_parts _ (all_scalars cs) scalars).0)
  where
    go : (u : List ℕ) → encode_utf8 c ≡ u → IsSeveral u → ⊥
    go [] f s = s
    go (x ∷ u) f s = let same : x ≡ 27 = cc (e, f) in omega (arith, same, s.0)

-- The texts of a key without an ESC before it.
character_scalar : (r : KeyReport) (c : ℕ) → IsKey r.key → r.key ≡ Named (Char c) → IsScalar c
character_scalar r c is e = subst IsKey e is

row_bytes : (x : List ℕ) (k : KeyEvent) → Contains rows (x, k) → Bytes x
row_bytes x k row = sequence_bytes x (Row k) (row_is x k row)

no_single : (reading : Reading) (r : KeyReport) (b : ℕ) → IsKey r.key → 128 ≤ b → IsPlainKeyText reading r (b ∷ []) → ⊥
no_single reading r b is high (by_sending text) = single_utf8 b high text.is_text
no_single reading r b is high (by_character none text) = ⊎_elim
    (λ (first : (text.character < 128) × (encode_utf8 text.character ≡ text.character ∷ [])).
    let same : b ≡ text.character = cc (text.bytes_are, first.1) in omega (arith, first.0, high, same))
    (λ (several : IsSeveral (encode_utf8 text.character)). (let s = subst IsSeveral (sym text.bytes_are) several in s.2 refl))
    (encode_forms text.character (character_scalar r text.character is text.key_is))
no_single reading r b is high (by_row none never text) =
    go (row_bytes (b ∷ []) text.key ((rows_in_order.exactly (b ∷ []) text.key).1 (text.place, text.here)))
  where
    go : Bytes (b ∷ []) → ⊥
    go (one c l e) = ⊎_elim
        (λ (low : c < 28). let same : b ≡ c = cc (e) in omega (arith, low, high, same))
        (λ (last : c ≡ 127). let same : b ≡ c = cc (e) in omega (arith, last, high, same)) l
    go (more t some e all) = some (cc (e))

-- the second byte of such a text behind an ESC
no_pair : (reading : Reading) (r : KeyReport) (b : ℕ) → IsKey r.key → 128 ≤ b → IsPlainKeyText reading r (27 ∷ b ∷ []) → ⊥
no_pair reading r b is high (by_sending text) = pair_utf8 b high text.is_text
no_pair reading r b is high (by_character none text) =
    no_escape_before text.character b [] (character_scalar r text.character is text.key_is) (sym text.bytes_are)
no_pair reading r b is high (by_row none never text) =
    go (row_bytes (27 ∷ b ∷ []) text.key ((rows_in_order.exactly (27 ∷ b ∷ []) text.key).1 (text.place, text.here)))
  where
    go : Bytes (27 ∷ b ∷ []) → ⊥
    go (one c l e) = cc (e)
    go (more [] some e all) = some refl
    go (more (x ∷ t) some e all) = (let same : x ≡ b = cc (e) in omega (arith, same, high, all.0))

-- Two ESC before such a second byte are written for no key.
pair_key : (b : ℕ) (i : KeyEvent) → IsSequence (27 ∷ b ∷ []) (Row i) → (65 ≤ b) × (b ≤ 91) × (i ≡ key_with (Char b) ALT)
pair_key b i is = go (sequence_layout (27 ∷ b ∷ []) (Row i) is)
  where
    go : Layout (27 ∷ b ∷ []) → (65 ≤ b) × (b ≤ 91) × (i ≡ key_with (Char b) ALT)
    go (single_byte c e) = absurd (cc (e))
    go (paired c e l) =
        let same : c ≡ b = cc (e) in
        let low : 65 ≤ b = subst (λ n. 65 ≤ n) same l.0 in
        let top : b ≤ 91 = subst (λ n. n ≤ 91) same l.1 in
        (low, top, row_once (27 ∷ b ∷ []) i (key_with (Char b) ALT) (row_of (27 ∷ b ∷ []) i is) (alt_row b low top))
    go (longer c r e second past) = absurd (no_past past (let gone : r ≡ [] = cc (e) in gone))

sent_pair : (b : ℕ) → IsSecond b → 65 ≤ b → b ≤ 91 → enc (Char b) (record { 0 = 4 }) no_modes ≡ Some (27 ∷ b ∷ [])
unfolding enc_written_out
sent_pair b (inl e) low top = subst (λ c. enc (Char c) (record { 0 = 4 }) no_modes ≡ Some (27 ∷ c ∷ [])) (sym e) refl
sent_pair b (inr (inl e)) low top = subst (λ c. enc (Char c) (record { 0 = 4 }) no_modes ≡ Some (27 ∷ c ∷ [])) (sym e) refl
sent_pair b (inr (inr (inl e))) low top = absurd (omega (arith, e, top))
sent_pair b (inr (inr (inr (inl e)))) low top = subst (λ c. enc (Char c) (record { 0 = 4 }) no_modes ≡ Some (27 ∷ c ∷ [])) (sym e) refl
sent_pair b (inr (inr (inr (inr e)))) low top = absurd (omega (arith, e, top))

no_triple : (reading : Reading) (r : KeyReport) (b : ℕ) (i : KeyEvent) → IsKey r.key → IsSecond b → IsSequence (27 ∷ b ∷ []) (Row i)
    → told_key reading (27 ∷ 27 ∷ b ∷ []) (with_alt i) ≡ r → IsTypedText reading r (27 ∷ 27 ∷ b ∷ []) → ⊥
no_triple reading r b i is second row same text = go text
  where
    k : KeyEvent
    k = key_with (Char b) ALT

    its : (65 ≤ b) × (b ≤ 91) × (i ≡ k)
    its = pair_key b i row

    report : told_key reading (27 ∷ 27 ∷ b ∷ []) k ≡ r
    report = ap (λ j. told_key reading (27 ∷ 27 ∷ b ∷ []) (with_alt j)) (sym its.2) ∙ same

    whole : record { key = Named (Char b); modifiers = 2; kind = Press; shifted = None; base = None; text = [] } ≡ r
    whole = sym (undecided_told reading (27 ∷ 27 ∷ b ∷ []) k refl) ∙ report

    sent : (j : KeyEvent) → port_key r ≡ Some j → enc j.key j.modifiers no_modes ≡ Some (27 ∷ 27 ∷ b ∷ []) → ⊥
    sent j e f =
        let found : Some k ≡ Some j = ap port_key whole ∙ e in
        let one : k ≡ j = cc (found) in
        let both : Some (27 ∷ b ∷ []) ≡ Some (27 ∷ 27 ∷ b ∷ []) =
        sym (sent_pair b second its.0 its.1) ∙ ap (λ j. enc j.key j.modifiers no_modes) one ∙ f in
        cc (both)

    read : IsReadAsKey reading (told_key reading (27 ∷ b ∷ []) i) (27 ∷ b ∷ [])
    read = row_read reading (27 ∷ b ∷ []) i row (λ h. cc (h)) (usual_from reading (27 ∷ b ∷ []) (starts_three reading 27 b))

    plain_text : IsPlainKeyText reading r (27 ∷ 27 ∷ b ∷ []) → ⊥
    plain_text (by_sending t) = sent t.key t.key_is t.sent
    plain_text (by_character none t) =
        no_escape_before t.character 27 (b ∷ []) (character_scalar r t.character is t.key_is) (sym t.bytes_are)
    plain_text (by_row none never t) =
        by_bytes (row_bytes (27 ∷ 27 ∷ b ∷ []) t.key ((rows_in_order.exactly (27 ∷ 27 ∷ b ∷ []) t.key).1 (t.place, t.here)))
      where
        by_bytes : Bytes (27 ∷ 27 ∷ b ∷ []) → ⊥
        by_bytes (one c l e) = cc (e)
        by_bytes (more [] some e all) = some refl
        by_bytes (more (x ∷ u) some e all) = (let two : x ≡ 27 = cc (e) in omega (arith, two, all.0))

    go : IsTypedText reading r (27 ∷ 27 ∷ b ∷ []) → ⊥
    go (alone p) = plain_text p
    go (after_escape none t) =
        let inner : 27 ∷ b ∷ [] ≡ t.text = cc (t.bytes_are) in
        let other : IsReadAsKey reading (without_alt r) (27 ∷ b ∷ []) =
        subst (IsReadAsKey reading (without_alt r)) (sym inner) (plain_read reading (without_alt r) t.text t.is_text) in
        let once : KeyOf (told_key reading (27 ∷ b ∷ []) i) ≡ KeyOf (without_alt r) =
        means_once reading (27 ∷ b ∷ []) false (KeyOf (told_key reading (27 ∷ b ∷ []) i)) (KeyOf (without_alt r)) read other in
        let reports : told_key reading (27 ∷ b ∷ []) i ≡ without_alt r = cc (once) in
        let first : told_key reading (27 ∷ b ∷ []) i ≡ told_key reading (27 ∷ b ∷ []) k = ap (told_key reading (27 ∷ b ∷ [])) its.2 in
        let held : 2 ≡ 0 =
        ap (λ (q : KeyReport). q.modifiers) (sym first ∙ reports ∙ ap without_alt (sym whole)) in
        omega (arith, held)

-- What a key that is typed is read as with more to come.
module _ (reading : Reading) (r : KeyReport) (is_key : IsKey r.key) (bytes : List ℕ) (text : IsTypedText reading r bytes)
    (waits : ¬ Contains waiting_texts bytes) where
  abbrev AtOnce : Type 0
  AtOnce = Means reading bytes true (KeyOf r ∷ []) []

  not_open : (u : List ℕ) → ¬ BeginsKnown reading u → ¬ IsOpen reading u true
  not_open u never h = never h.beginning

  usual_more : (u : List ℕ) → IsUsual reading u false → ¬ BeginsKnown reading u → IsUsual reading u true
  usual_more u here never = record { none = here.none; closed = not_open u never }

  closed_port : (u : List ℕ) → ¬ BeginsKnown reading u → ¬ port.IsOpen u true
  closed_port u never h = never (inl h.beginning)

  -- an item that is the whole text
  whole_item : (b : List ℕ) (event : InputEvent) → port.Item bytes true b event → told reading b event ≡ KeyOf r → bytes ≡ b
      → ¬ BeginsKnown reading bytes → ((v : List ℕ) → bytes ≡ ESC ++ v → v ≢ [] → ¬ BeginsKnown reading v) → IsUsual reading bytes false
      → ((v : List ℕ) → bytes ≡ ESC ++ v → IsUsual reading v false) → AtOnce
  whole_item b event item e all never behind here after = record {
    steps = (
      [],
      subst (Stands reading bytes true []) e
          (usual b [] event (record { closed = closed_port bytes never; item = item }) (all ∙ sym (append-nil b)) (usual_more bytes here never)
          (λ v split. record { none = (after v split).none; closed = λ h. behind v split h.some h.beginning })),
      refl,
    );
    rest = empty_is_rest reading true;
  }

  -- what is behind the ESC of a row, or of a character, begins nothing
  row_behind : (x v : List ℕ) (k : KeyEvent) → IsSequence x (Row k) → x ≡ ESC ++ v → v ≢ [] → ¬ BeginsKnown reading v
  row_behind x [] k is e some begins = some refl
  row_behind x (y ∷ v) k is e some begins = go (sequence_bytes x (Row k) is)
    where
      plain_first : Bytes x → (32 ≤ y) × (y < 127)
      plain_first (one c l f) = absurd (cc (e, f))
      plain_first (more [] n f all) = absurd (n refl)
      plain_first (more (z ∷ t) n f all) = let same : z ≡ y = cc (e, f) in subst (λ n. (32 ≤ n) × (n < 127)) same all.0

      go : Bytes x → ⊥
      go shape =
          let range = plain_first shape in
          ⊎_elim (λ (c : y ≡ 27). omega (arith, c, range.0)) (λ (h : 128 ≤ y). omega (arith, h, range.1)) (known_first reading y v begins)

  -- what begins something with an ESC first has one of the five bytes second
  second_known : (w : List ℕ) → w ≢ [] → BeginsKnown reading (27 ∷ w) → (b : ℕ) × (u : List ℕ) × (w ≡ b ∷ u) × IsSecond b
  second_known [] some begins = absurd (some refl)
  second_known (b ∷ u) some (inl (inl h)) = (b, u, refl, go (sequence_layout (27 ∷ b ∷ (u ++ h.tail)) h.meaning h.is_sequence))
    where
      go : Layout (27 ∷ b ∷ (u ++ h.tail)) → IsSecond b
      go (single_byte c e) = absurd (cc (e))
      go (paired c e l) = absurd (append-some u h.tail h.longer (cc (e)))
      go (longer c t e second past) =
          let same : c ≡ b = cc (e) in ⊎_elim (λ (m : c ≡ 91). inl (sym same ∙ m)) (λ (m : c ≡ 79). inr (inl (sym same ∙ m))) second
  second_known (b ∷ u) some (inl (inr h)) = absurd (omega (arith, (unfinished_high (27 ∷ b ∷ u) (λ e. cc (e)) h).0))
  second_known (b ∷ u) some (inr x) =
      let m = begins_mark reading (27 ∷ b ∷ u) x in
      (b, u, refl, subst IsSecond (let same : m.0 ≡ b = cc (m.3) in same) m.4)

  head_plainly : (v : List ℕ) (h : Head) (j : KeyEvent) → IsHead v h → port.IsKey h j → Plainly (port.bytes_of h) j
  head_plainly v (Sequence x (Row i)) j is near = as_row (subst (λ k. Contains rows (x, k)) (sym near.1) (row_of x i is.is_sequence))
  head_plainly v (Sequence x (Report m)) j is near = absurd near
  head_plainly v (Character c) j is near = as_character c is.scalar refl near
  head_plainly v (Broken b) j is near = by_broken_byte b refl near

  high_byte : (b : ℕ) → IsBroken (b ∷ []) b → 128 ≤ b
  high_byte b is = ⊎_elim
      (λ (low : b < 128). absurd (is.unspelled b (low_scalar b (omega arith)) ([], sym (ap (λ t. t ++ []) (encode_ascii b low)))))
      (λ (high : 128 ≤ b). high) (low_or_high b)

  no_broken : (b : ℕ) → bytes ≡ b ∷ [] → 128 ≤ b → ⊥
  no_broken b e high = go text
    where
      go : IsTypedText reading r bytes → ⊥
      go (alone p) = no_single reading r b is_key high (subst (IsPlainKeyText reading r) e p)
      go (after_escape none t) = let same : b ≡ 27 = cc (e, t.bytes_are) in omega (arith, same, high)

  no_broken_pair : (b : ℕ) → bytes ≡ 27 ∷ b ∷ [] → 128 ≤ b → ⊥
  no_broken_pair b e high = go text
    where
      go : IsTypedText reading r bytes → ⊥
      go (alone p) = no_pair reading r b is_key high (subst (IsPlainKeyText reading r) e p)
      go (after_escape none t) =
          let inner : t.text ≡ b ∷ [] = cc (e, t.bytes_are) in
          no_single reading (without_alt r) b is_key high (subst (IsPlainKeyText reading (without_alt r)) inner t.is_text)

  -- behind an ESC a head that is a key begins nothing, but for the texts that wait
  head_begins : (v : List ℕ) (h : Head) (j : KeyEvent) → IsHead v h → port.IsKey h j → v ≡ port.bytes_of h → bytes ≡ ESC ++ port.bytes_of h
      → told_key reading bytes (with_alt j) ≡ r → port.bytes_of h ≢ [] → ¬ BeginsKnown reading (port.bytes_of h)
  head_begins v (Sequence x (Row i)) j is near e all same some begins = go (row_begins reading x i is.is_sequence some begins)
    where
      go : IsFront x → ⊥
      go (escape_only f) = waits (subst (Contains waiting_texts) (sym (all ∙ ap (λ z. 27 ∷ z) f)) escapes_wait)
      go (with_second b second f) =
          let whole : bytes ≡ 27 ∷ 27 ∷ b ∷ [] = all ∙ ap (λ z. 27 ∷ z) f in
          no_triple reading r b i is_key second (subst (λ t. IsSequence t (Row i)) f is.is_sequence)
          (ap (λ k. told_key reading (27 ∷ 27 ∷ b ∷ []) (with_alt k)) (sym near.1)
          ∙ ap (λ t. told_key reading t (with_alt j)) (sym whole) ∙ same)
          (subst (IsTypedText reading r) whole text)
  head_begins v (Sequence x (Report m)) j is near e all same some begins = near
  head_begins v (Character c) j is near e all same some begins = char_begins reading c (subst (λ u. IsCharacter u c) e is) begins
  head_begins v (Broken b) j is near e all same some begins = no_broken_pair b all (high_byte b (subst (λ u. IsBroken u b) e is))

  of_item : (b : List ℕ) (event : InputEvent) → port.Item bytes false b event → told reading b event ≡ KeyOf r → bytes ≡ b
      → IsUsual reading bytes false → ((v : List ℕ) → bytes ≡ ESC ++ v → IsUsual reading v false) → AtOnce
  of_item b event (key x i is other single) e all here after = whole_item x event (key x i is other single) e all
      (λ begins. waits (front_waits bytes (row_begins reading bytes i row (λ none. no_bytes (sequence_bytes bytes (Row i) row) none) begins)))
      (λ v split. row_behind bytes v i row split) here after
    where
      row : IsSequence bytes (Row i)
      row = subst (λ t. IsSequence t (Row i)) (sym all) is.is_sequence

      no_bytes : Bytes bytes → bytes ≡ [] → ⊥
      no_bytes (one c l f) none = cc (f, none)
      no_bytes (more t n f a) none = cc (f, none)
  of_item b event (char c is) e all here after = whole_item (encode_utf8 c) event (char c is) e all
      (λ begins. char_begins reading c whole (subst (BeginsKnown reading) all begins))
      (λ v split some begins. char_no_escape c v whole (sym all ∙ split)) here after
    where
      whole : IsCharacter (encode_utf8 c) c
      whole = subst (λ u. IsCharacter u c) all is
  of_item b event (broken x is) e all here after = absurd (no_broken x all (high_byte x (subst (λ u. IsBroken u x) all is)))
  of_item b event (mouse x report is) e all here after = absurd (cc (e))
  of_item b event (paste body begins first) e all here after = absurd (cc (e))
  of_item b event (lone_escape v h after_it is apart) e all here after = absurd (after_it.some (cc (after_it.splits, all)))
  of_item b event (alt v h j after_it is near) e all here after =
      whole_item (ESC ++ port.bytes_of h) event (alt v h j (record {
        escape_head = after_it.escape_head;
        splits = after_it.splits;
        some = after_it.some;
        closed = λ opens. behind (inl (subst port.IsBeginning whole opens.beginning));
      }) is near) e all in_front (λ w split some begins. behind (subst (BeginsKnown reading) (cc (sym split ∙ all)) begins)) here after
    where
      whole : v ≡ port.bytes_of h
      whole = cc (sym after_it.splits ∙ all)

      some : port.bytes_of h ≢ []
      some none = after_it.some (whole ∙ none)

      same : told_key reading (ESC ++ port.bytes_of h) (with_alt j) ≡ r
      same = cc (e)

      behind : BeginsKnown reading (port.bytes_of h) → ⊥
      behind begins = head_begins v h j is near whole all (ap (λ t. told_key reading t (with_alt j)) all ∙ same) some begins

      in_front : BeginsKnown reading bytes → ⊥
      in_front begins =
          let second = second_known (port.bytes_of h) some (subst (BeginsKnown reading) all begins) in by_rest second.0 second.1 second.2 second.3
        where
          by_rest : (x : ℕ) (u : List ℕ) → port.bytes_of h ≡ x ∷ u → IsSecond x → ⊥
          by_rest x [] f second = waits (subst (Contains waiting_texts) (sym (all ∙ ap (λ z. 27 ∷ z) f)) (second_waits x second))
          by_rest x (y ∷ u) f second = second_byte x (y ∷ u) (port.bytes_of h) j second (λ n. cc (n)) f (head_plainly v h j is near)

  by_stands : (left : List ℕ) (event : Event) → Stands reading bytes false left event → event ≡ KeyOf r → left ≡ [] → AtOnce
  by_stands left event (extra t l d is split) e none = record {
    steps = ([], subst (λ d. Stands reading bytes true [] d) e (extra t [] d is (split ∙ ap (λ z. t ++ z) none)), refl);
    rest = empty_is_rest reading true;
  }
  by_stands left event (alt_key t l d is bare split) e none = record {
    steps = ([], subst (λ d. Stands reading bytes true [] d) e (alt_key t [] d is bare (split ∙ ap (λ z. ESC ++ (t ++ z)) none)), refl);
    rest = empty_is_rest reading true;
  }
  by_stands left event (lone l split apart) e none =
      absurd (let s = starts_shape reading [] (subst (λ u. StartsExtended reading u) none (starts_from_apart reading left apart)) in cc (s.2))
  by_stands left event (string kind head own after l d reads is comes) e none =
      absurd (subst IsOfString e (comes_of_string kind head own after l false d comes))
  by_stands left event (usual b l d stands split here after) e none =
      of_item b d stands.item e (split ∙ ap (λ z. b ++ z) none ∙ append-nil b) here after

  pub at_once : AtOnce
  at_once = let read = typed_read_back reading r bytes text in by_stands read.steps.0 (KeyOf r) read.steps.1 refl read.steps.2

pub typed_at_once : (reading : Reading) (r : KeyReport) → IsReport r → (bytes : List ℕ) → IsTypedText reading r bytes
    → ¬ Contains waiting_texts bytes → Means reading bytes true (KeyOf r ∷ []) []
typed_at_once reading r is bytes text waits = at_once reading r is.key_is bytes text waits
