-- A character that is the whole text is read as its key, and so is a row. So each such key has a text.
use Rattle.std.proofs.Common.{◌≡◌, ◌≢◌, ◌⊎◌, ⊎_elim, ℕ, zero, suc, ◌<◌, Bool, true, false, List, [], ◌∷◌, ◌++◌, refl, sym, ap, ◌∙◌, subst, arith, append_assoc, append-nil, bytes_eq, Some, None}
use Rattle.std.specs.Prelude.{◌==◌, option_and_then}
use Rattle.std.specs.Map.{lookup}
use Rattle.std.specs.Char.{IsScalar, encode_utf8}
use Rattle.std.proofs.lemmas.Bool.Decides.{nat_tests}
use Rattle.std.proofs.lemmas.Map.Views.{Contains-from_lookup}
use Rattle.std.proofs.lemmas.Slice.Eq.{bytes_eq-Decides}
use Rattle.termwiz_keymap.specs.Bytes.{Begins}
use Rattle.termwiz_keymap.proofs.lemmas.lists.CommonPrefixes.{append-some}
use Rattle.termwiz_keys.specs.Introducers.{ESC, START}
use Rattle.termwiz_keys.specs.Keys.{NONE, key_with, plain}
use Rattle.termwiz_keys.specs.declared.types.KeyCode.{KeyCode}
use Rattle.termwiz_keys.specs.declared.types.KeyCode.TheVariants.{Backspace, Char, Enter}
use Rattle.termwiz_keys.specs.declared.types.KeyEvent.{KeyEvent}
use Rattle.termwiz_grammar.specs.Grammar.{IsCharacter, IsBroken, replacement}
use Rattle.termwiz_grammar.specs.Grammar.Item.{char}
use Rattle.termwiz_grammar.specs.RowsInOrder.{IsRowAt}
use Rattle.termwiz_grammar.specs.Sequences.{IsSequence}
use Rattle.termwiz_grammar.specs.Sequences.Meaning.{Row}
use Rattle.termwiz_grammar.specs.Table.{rows, written_out, numbers}
use Rattle.termwiz_grammar.proofs.lemmas.table.TableAsMap.{rows_in_order}
use Rattle.termwiz_laws.proofs.lemmas.first_bytes.EncodedBytes.{IsSeveral, encode_forms}
use Rattle.termwiz_laws.proofs.lemmas.first_bytes.NoSequence.{none_begins}
use Rattle.termwiz_extended_events.specs.declared.types.KeyReport.{KeyReport}
use Rattle.termwiz_extended_events.specs.declared.types.Dialect.{Dialect}
use Rattle.termwiz_extended_events.specs.declared.types.Dialect.TheVariants.{Extended, Termwiz}
use Rattle.termwiz_extended_events.specs.declared.types.Reading.{Reading}
use Rattle.termwiz_extended_events.specs.declared.types.ReportedKey.TheVariants.{Named}
use Rattle.termwiz_extended_events.specs.PortEvents.{decided_key, pressed_key, typed_byte, typed_key, with_key}
use Rattle.termwiz_extended_grammar.specs.ExtendedGrammar.{StartsExtended, IsUsual}
use Rattle.termwiz_extended_grammar.proofs.lemmas.cuts.PortTold.{decided_none}
use Rattle.termwiz_extended_grammar.proofs.lemmas.forms.FormBytes.{mark_shape}
use Rattle.termwiz_extended_grammar.proofs.lemmas.forms.ExtraFacts.{starts_mark}
use Rattle.termwiz_extended_grammar.proofs.lemmas.forms.PortLayouts.{Layout, Past, sequence_layout}
use Rattle.termwiz_extended_grammar.proofs.lemmas.forms.PortLayouts.Layout.{alone as single_byte, paired, longer}
use Rattle.termwiz_extended_grammar.proofs.lemmas.forms.PortLayouts.Past.{lettered, with_dollar}
use Rattle.termwiz_extended_grammar.proofs.lemmas.items.ExtendedItems.{starts_shape, starts_longer}
use Rattle.termwiz_kitty.proofs.lemmas.legacy.ReadAsOne.{second_range, no_escape_before, row_is}
use Rattle.termwiz_senders.specs.KeyTexts.{IsReadAsKey, HasRow, IsSentText, IsPlainKeyText}
use Rattle.termwiz_senders.specs.KeyTexts.IsPlainKeyText.{by_sending, by_row, by_character}
use Rattle.termwiz_senders.proofs.lemmas.RowsAlone.{told_key, usual_from, empty_usual, whole_read, row_of, row_read}

-- the key has a text without an ESC before it
abbrev pub HasPlain : Reading → KeyReport → Type 0
HasPlain reading r = ((bytes : List ℕ) → ¬ IsPlainKeyText reading r bytes) → ⊥

-- what begins an extra sequence or an opening has three bytes at least
pub starts_three : (reading : Reading) (x y : ℕ) → StartsExtended reading (x ∷ y ∷ []) → ⊥
starts_three reading x y h =
    let m = starts_mark reading (x ∷ y ∷ []) h in
    let s = mark_shape m.0 m.2 in
    let whole : x ∷ y ∷ [] ≡ 27 ∷ s.0 ∷ (s.1 ++ m.1) = m.3 ∙ ap (λ z. z ++ m.1) s.2 in
    no_rest s.1 m.1 s.3 (cc (whole))
  where
    no_rest : (r t : List ℕ) → r ≢ [] → [] ≡ r ++ t → ⊥
    no_rest [] t some e = some refl
    no_rest (z ∷ r) t some e = cc (e)

pub usual_alone : (reading : Reading) (u left : List ℕ) (f : Bool) → IsUsual reading (u ++ left) f → IsUsual reading u false
usual_alone reading u left f is = usual_from reading u (λ h. is.none (starts_longer reading u left h))

-- after an ESC no extra sequence begins with such a byte
pub usual_behind : (reading : Reading) (b : ℕ) (u : List ℕ) → (b < 79) ⊎ (95 < b) → IsUsual reading (27 ∷ b ∷ u) false
usual_behind reading b u away = usual_from reading (27 ∷ b ∷ u)
    (λ h. let s = starts_shape reading (27 ∷ b ∷ u) h in let same : b ≡ s.0 = cc (s.2) in omega (arith, second_range s.0 s.3, away))

-- A character.
begins_whole : (t u left : List ℕ) → Begins t u → Begins t (u ++ left)
begins_whole t u left (rest, e) = (rest ++ left, ap (λ z. z ++ left) e ∙ append_assoc t rest left)

pub character_alone : (u left : List ℕ) (c : ℕ) → IsCharacter u c → u ≡ encode_utf8 c ++ left → IsCharacter (encode_utf8 c) c
character_alone u left c is e = record {
  no_sequence = λ t m s b. is.no_sequence t m s (subst (Begins t) (sym e) (begins_whole t (encode_utf8 c) left b));
  scalar = is.scalar;
  begins = ([], sym (append-nil (encode_utf8 c)));
}

-- its encoding begins with no ESC, unless it is the whole
no_escape : (c : ℕ) → IsScalar c → (b : ℕ) (r : List ℕ) → encode_utf8 c ≡ 27 ∷ b ∷ r → ⊥
no_escape c scalar b r e = no_escape_before c b r scalar e

pub character_usual : (reading : Reading) (c : ℕ) → IsScalar c → IsUsual reading (encode_utf8 c) false
character_usual reading c scalar = usual_from reading (encode_utf8 c)
    (λ h. let s = starts_shape reading (encode_utf8 c) h in no_escape c scalar s.0 s.1 s.2)

character_behind : (reading : Reading) (c : ℕ) (v : List ℕ) → IsScalar c → encode_utf8 c ≡ ESC ++ v → IsUsual reading v false
character_behind reading c [] scalar e = empty_usual reading
character_behind reading c (b ∷ v) scalar e = absurd (no_escape c scalar b v e)

pub character_read : (reading : Reading) (c : ℕ) → IsCharacter (encode_utf8 c) c
    → IsReadAsKey reading (told_key reading (encode_utf8 c) (plain c)) (encode_utf8 c)
character_read reading c is =
    whole_read reading (encode_utf8 c) (plain c) (char c is) (character_usual reading c is.scalar)
    (λ v e. character_behind reading c v is.scalar e)

-- what stands for a broken byte
pub replacement_is : IsCharacter (encode_utf8 replacement) replacement
unfolding encode_utf8
replacement_is = record {
  no_sequence = λ t m s b. none_begins 0xEF (0xBF ∷ 0xBD ∷ []) t m (λ h. omega (arith, h)) s b;
  scalar = refl;
  begins = ([], refl);
}

-- The rows of the bytes that a reading decides.
pub row_at : (text : List ℕ) (k : KeyEvent) → lookup (bytes_eq text) rows ≡ Some k → IsSequence text (Row k)
row_at text k e = row_is text k (Contains-from_lookup (λ (s t : List ℕ) (h : bytes_eq s t ≡ true). (bytes_eq-Decides s t).0 h) text k rows e)

backspace_row : IsSequence (8 ∷ []) (Row (key_with Backspace NONE))
unfolding written_out numbers
backspace_row = row_at (8 ∷ []) (key_with Backspace NONE) refl

delete_row : IsSequence (127 ∷ []) (Row (key_with Backspace NONE))
unfolding written_out numbers
delete_row = row_at (127 ∷ []) (key_with Backspace NONE) refl

feed_row : IsSequence (10 ∷ []) (Row (key_with Enter NONE))
unfolding written_out numbers
feed_row = row_at (10 ∷ []) (key_with Enter NONE) refl

same_told : (reading : Reading) (text : List ℕ) (k : KeyEvent) → typed_key reading.dialect reading text k.key ≡ k.key
    → told_key reading text k ≡ pressed_key k
same_told reading text k e = ap (λ c. pressed_key (with_key k c)) e

undecided : (reading : Reading) (text : List ℕ) (k : KeyCode) → option_and_then (decided_key reading) (typed_byte text) ≡ None
    → typed_key reading.dialect reading text k ≡ k
undecided reading text k none = go reading.dialect
  where
    go : (d : Dialect) → typed_key d reading text k ≡ k
    go Termwiz = refl
    go Extended = rw none refl

pub undecided_told : (reading : Reading) (text : List ℕ) (k : KeyEvent) → option_and_then (decided_key reading) (typed_byte text) ≡ None
    → told_key reading text k ≡ pressed_key k
undecided_told reading text k none = same_told reading text k (undecided reading text k.key none)

-- a row of two bytes has none of these bytes, and a longer one is told as it is
pub pair_undecided : (reading : Reading) (text : List ℕ) (k : KeyEvent) → IsSequence text (Row k) → (b : ℕ) → text ≡ 27 ∷ b ∷ []
    → decided_key reading b ≡ None
pair_undecided reading text k is b e = go (sequence_layout text (Row k) is)
  where
    no_past : {r : List ℕ} → Past r → r ≡ [] → ⊥
    no_past (lettered middle last f a l m n) none = append-some middle (last ∷ []) (λ h. cc (h)) (sym f ∙ none)
    no_past (with_dollar digit f d) none = cc (f, none)

    go : Layout text → decided_key reading b ≡ None
    go (single_byte c f) = absurd (cc (e, f))
    go (paired c f l) =
        let same : c ≡ b = cc (e, f) in
        decided_none reading b (λ q. omega (arith, same, l, q)) (λ q. omega (arith, same, l, q)) (λ q. omega (arith, same, l, q))
    go (longer c r f second past) = absurd (no_past past (let gone : r ≡ [] = cc (e, f) in gone))

-- a character that begins no row isn't decided
pub character_undecided : (reading : Reading) (c : ℕ) → IsCharacter (encode_utf8 c) c
    → option_and_then (decided_key reading) (typed_byte (encode_utf8 c)) ≡ None
character_undecided reading c is = ⊎_elim
    (λ (first : (c < 128) × (encode_utf8 c ≡ c ∷ [])).
    ap (λ t. option_and_then (decided_key reading) (typed_byte t)) first.1
    ∙ decided_none reading c (other 8 _ first.1 backspace_row) (other 10 _ first.1 feed_row) (other 127 _ first.1 delete_row))
    (λ (many : IsSeveral (encode_utf8 c)). several (encode_utf8 c) many)
    (encode_forms c is.scalar)
  where
    other : (b : ℕ) (k : KeyEvent) → encode_utf8 c ≡ c ∷ [] → IsSequence (b ∷ []) (Row k) → c ≢ b
    other b k e row same = is.no_sequence (b ∷ []) (Row k) row ([], e ∙ ap (λ x. x ∷ []) same)

    several : (u : List ℕ) → IsSeveral u → option_and_then (decided_key reading) (typed_byte u) ≡ None
    several [] many = refl
    several (x ∷ []) many = absurd (many.2 refl)
    several (x ∷ y ∷ []) many = let high : (x == 27) ≡ false = grind (arith, nat_tests, many.0) in rw high refl
    several (x ∷ y ∷ z ∷ u) many = refl

-- nor is a byte that counts as one
pub broken_undecided : (reading : Reading) (b : ℕ) (v : List ℕ) → IsBroken v b
    → option_and_then (decided_key reading) (typed_byte (b ∷ [])) ≡ None
broken_undecided reading b v is = decided_none reading b (other 8 _ backspace_row) (other 10 _ feed_row) (other 127 _ delete_row)
  where
    other : (m : ℕ) (k : KeyEvent) → IsSequence (m ∷ []) (Row k) → b ≢ m
    other m k row same = is.no_sequence (m ∷ []) (Row k) row (is.begins.0, is.begins.1 ∙ ap (λ x. x ∷ is.begins.0) same)

-- Where a key has no plain text, it has no row and is no character.
module _ (reading : Reading) (r : KeyReport) (refused : (bytes : List ℕ) → ¬ IsPlainKeyText reading r bytes) where
  not_sent : (sent : List ℕ) → ¬ IsSentText reading r sent
  not_sent sent is = refused sent (by_sending is)

  none_below : (n place : ℕ) (bytes : List ℕ) (k : KeyEvent) → place < n → IsRowAt place bytes k → ¬ IsReadAsKey reading r bytes
  none_below zero place bytes k below here read = omega (arith, below)
  none_below (suc n) place bytes k below here read =
      refused bytes (by_row not_sent (λ own is. refused own (by_character not_sent is)) (record {
        place = place;
        key = k;
        here = here;
        read = read;
        first = λ before other its earlier at. none_below n before other its (omega (arith, earlier, below)) at;
      }))

  pub no_row : ¬ HasRow reading r
  no_row (bytes, is) =
      let at = (rows_in_order.exactly bytes is.key).0 is.row in none_below (suc at.0) at.0 bytes is.key (omega arith) at.1 is.read

  pub no_character : (c : ℕ) → r.key ≡ Named (Char c) → ¬ IsReadAsKey reading r (encode_utf8 c)
  no_character c e read = refused (encode_utf8 c)
      (by_character not_sent (record { character = c; key_is = e; bytes_are = refl; read = read }))

-- So a row's key and a character have one.
pub row_plain : (reading : Reading) (text : List ℕ) (k : KeyEvent) → IsSequence text (Row k) → text ≢ START → IsUsual reading text false
    → HasPlain reading (told_key reading text k)
row_plain reading text k is other here refused = no_row reading (told_key reading text k) refused
    (text, record { key = k; row = row_of text k is; read = row_read reading text k is other here })

pub character_plain : (reading : Reading) (c : ℕ) → IsCharacter (encode_utf8 c) c → HasPlain reading (pressed_key (plain c))
character_plain reading c is refused =
    let same = undecided_told reading (encode_utf8 c) (plain c) (character_undecided reading c is) in
    no_character reading (pressed_key (plain c)) refused c refl
    (subst (λ r. IsReadAsKey reading r (encode_utf8 c)) same (character_read reading c is))
