-- What whole texts mean without more to come: the text of a row, ESC and the text of a key, and a character.
use Rattle.std.proofs.Common.{◌∙◌, ◌≡◌, ◌≢◌, ℕ, ◌<◌, ◌≤◌, false, List, [], ◌∷◌, ◌++◌, length, refl, sym, ap, subst, append-nil, arith, Contains, ◌⊎◌, ⊎_elim, true, ◌&&◌, ◌||◌, ◌==◌, nat_lt, get_or, encode_utf8}
use Rattle.std.specs.Char.{IsScalar}
use Rattle.std.proofs.lemmas.Bool.{and_parts}
use Rattle.std.proofs.lemmas.Bool.Decides.{nat_tests}
use Rattle.std.proofs.lemmas.Str.{encode_same, encode_ascii}
use Rattle.termwiz_keys.specs.declared.types.KeyEvent.{KeyEvent}
use Rattle.termwiz_keys.specs.declared.types.InputEvent.TheVariants.{Key}
use Rattle.termwiz_keymap.specs.Bytes.{Begins}
use Rattle.termwiz_keys.specs.Introducers.{START, ESC}
use Rattle.termwiz_keys.specs.Keys.{plain, with_alt, escape}
use Rattle.termwiz_grammar.specs.Table.{rows}
use Rattle.termwiz_grammar.specs.Sequences.{Meaning, IsSequence}
use Rattle.termwiz_grammar.specs.Sequences.Meaning.{Row, Report}
use Rattle.termwiz_grammar.specs.Grammar.{IsLongest, IsOpen, Means, Head, IsHead, IsKey, bytes_of}
use Rattle.termwiz_grammar.specs.Grammar.Head.{Character}
use Rattle.termwiz_grammar.specs.Grammar.Item.{key, char, alt}
use Rattle.termwiz_grammar.proofs.lemmas.table.ComputedTests.{ends_well}
use Rattle.termwiz_grammar.proofs.lemmas.mouse.OneReport.{report_plain}
use Rattle.termwiz_grammar.proofs.lemmas.table.RowShape.{Bytes, row_shaped}
use Rattle.termwiz_grammar.proofs.lemmas.table.RowShape.Bytes.{one, more}
use Rattle.termwiz_grammar.proofs.lemmas.table.SequenceFacts.{sequence_bytes, escape_is_sequence}
use Rattle.termwiz_grammar.proofs.lemmas.items.OneHead.{longest_whole}
use Rattle.termwiz_grammar.proofs.lemmas.waiting.RestShape.{empty_is_rest}

never_open : (u : List ℕ) → IsOpen u false → ⊥
never_open u h = cc (h.more_comes)

-- a row's text, but START, means its key
pub row_means : (q : List ℕ) (k : KeyEvent) → Contains rows (q, k) → q ≢ START → Means q false (Key k ∷ []) []
unfolding IsSequence
row_means q k row other = record {
  steps = (
    q,
    [],
    record { closed = never_open q; item = key q k (longest_whole q (Row k) row) other (λ e. e) },
    sym (append-nil q),
    refl,
  );
  rest = empty_is_rest false;
}

-- the byte after the ESC of a longer sequence is A to Z or [
sequence_second : (x : ℕ) (t : List ℕ) (m : Meaning) → IsSequence (27 ∷ x ∷ t) m → (64 < x) × (x < 92)
unfolding IsSequence
sequence_second x [] (Row k) a =
    let e : (27 == 27) && (nat_lt 64 x && nat_lt x 92) ≡ true = (row_shaped (27 ∷ x ∷ []) k a).shape in
    (grind (arith, nat_tests), grind (arith, nat_tests))
sequence_second x (y ∷ t) (Row k) a =
    let e = and_parts ((x == 91) || (x == 79)) (ends_well (y ∷ t)) (row_shaped (27 ∷ x ∷ y ∷ t) k a).shape in
    let f : (x == 91) || (x == 79) ≡ true = e.0 in
    (grind (arith, nat_tests), grind (arith, nat_tests))
sequence_second x t (Report r) a =
    let f = report_plain (27 ∷ x ∷ t) r a in
    let same : x ≡ 91 = ap (λ l. get_or l 1 0) f.1 in
    (omega arith, omega arith)

-- ESC before any other byte is the head
pub escape_alone : (x : ℕ) (t : List ℕ) → (x ≤ 64) ⊎ (92 ≤ x) → IsLongest (27 ∷ x ∷ t) ESC (Row escape)
escape_alone x t apart = record {
  is_sequence = escape_is_sequence;
  begins = (x ∷ t, refl);
  longest = λ other n k b. at_most other n k b;
}
  where
    at_most : (other : List ℕ) (n : Meaning) → IsSequence other n → Begins other (27 ∷ x ∷ t) → length other ≤ 1
    at_most [] n k b = omega arith
    at_most (y ∷ []) n k b = omega arith
    at_most (y ∷ z ∷ s) n k b =
        let first : y ≡ 27 = cc (b.1) in
        let second : z ≡ x = cc (b.1) in
        let range = sequence_second x s n
        (subst (λ c. IsSequence (27 ∷ c ∷ s) n) second (subst (λ c. IsSequence (c ∷ z ∷ s) n) first k)) in
        absurd (omega arith)

-- ESC and then the bytes of a key mean that key with Alt
pub alt_means : (x : ℕ) (t : List ℕ) (h : Head) (k : KeyEvent) → (x ≤ 64) ⊎ (92 ≤ x) → IsHead (x ∷ t) h → IsKey h k
    → bytes_of h ≡ x ∷ t
    → Means (27 ∷ x ∷ t) false (Key (with_alt k) ∷ []) []
alt_means x t h k apart is near whole = record {
  steps = (
    ESC ++ bytes_of h,
    [],
    record {
      closed = never_open (27 ∷ x ∷ t);
      item = alt (x ∷ t) h k (record {
        escape_head = escape_alone x t apart;
        splits = refl;
        some = λ e. cc (e);
        closed = never_open (x ∷ t);
      }) is near;
    },
    ap (λ z. 27 ∷ z) (sym whole ∙ sym (append-nil (bytes_of h))),
    refl,
  );
  rest = empty_is_rest false;
}

-- a byte below 128 that a character's encoding begins with is the character
small_first : (c x : ℕ) (rest : List ℕ) → x < 128 → encode_utf8 c ≡ x ∷ rest → c ≡ x
small_first c x rest small e =
    (encode_same c x [] rest (append-nil (encode_utf8 c) ∙ e ∙ ap (λ z. z ++ rest) (sym (encode_ascii x small)))).0

-- a character that isn't a control is a head
pub char_head : (c : ℕ) → IsScalar c → 28 ≤ c → c ≢ 127 → IsHead (encode_utf8 c) (Character c)
char_head c scalar low other = record {
  no_sequence = λ text m k b. none text b (sequence_bytes text m k);
  scalar = scalar;
  begins = ([], sym (append-nil (encode_utf8 c)));
}
  where
    none : (text : List ℕ) → Begins text (encode_utf8 c) → Bytes text → ⊥
    none text b (one y l f) =
        let small : y < 128 = omega (arith, l) in
        let same : c ≡ y = small_first c y b.0 small (b.1 ∙ ap (λ z. z ++ b.0) f) in
        ⊎_elim (λ (a : y < 28). omega arith) (λ (a : y ≡ 127). other (same ∙ a)) l
    none text b (more s n f p) =
        let same : c ≡ 27 = small_first c 27 (s ++ b.0) (omega arith) (b.1 ∙ ap (λ z. z ++ b.0) f) in omega arith

pub char_means : (c : ℕ) → IsScalar c → 28 ≤ c → c ≢ 127 → Means (encode_utf8 c) false (Key (plain c) ∷ []) []
char_means c scalar low other = record {
  steps = (
    encode_utf8 c,
    [],
    record { closed = never_open (encode_utf8 c); item = char c (char_head c scalar low other) },
    sym (append-nil (encode_utf8 c)),
    refl,
  );
  rest = empty_is_rest false;
}
