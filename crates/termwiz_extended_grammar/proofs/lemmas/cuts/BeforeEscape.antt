-- An ESC ends what comes before it as a flush does: no sequence of the port and no character goes on into it.
use Rattle.std.proofs.Common.{◌≡◌, ◌≢◌, ⊎_elim, ℕ, Bool, false, List, [], ◌∷◌, ◌++◌, length, refl, sym, ap, ◌∙◌, subst, append_assoc, arith, encode_utf8, length-append}
use Rattle.std.specs.Char.{IsScalar}
use Rattle.std.specs.List.{AllByRecursion}
use Rattle.termwiz_keys.specs.declared.types.InputEvent.{InputEvent}
use Rattle.termwiz_keymap.specs.Bytes.{Begins}
use Rattle.termwiz_keys.specs.Introducers.{ESC, START, END}
use Rattle.termwiz_keys.specs.Keys.{escape}
use Rattle.termwiz_grammar.specs.Sequences.{Meaning, IsSequence}
use Rattle.termwiz_grammar.specs.Sequences.Meaning.{Row, Report}
use Rattle.termwiz_grammar.specs.Grammar.{Head, IsHead, IsLongest, IsUnfinishedSequence, IsUnfinishedCharacter, IsOpen, IsAfterEscape, Item, Stands}
use Rattle.termwiz_grammar.specs.Grammar.Head.{Sequence, Character, Broken}
use Rattle.termwiz_grammar.specs.Grammar.Item.{key, char, broken, mouse, paste, lone_escape, alt}
use Rattle.termwiz_keymap.proofs.lemmas.lists.CommonPrefixes.{Overlaps, overlap, append-some_left, Begins-append, true_at_end}
use Rattle.termwiz_keymap.proofs.lemmas.lists.CommonPrefixes.Overlaps.{within, past}
use Rattle.termwiz_grammar.proofs.lemmas.characters.CharacterPrefixes.{IsHigh, parted_high}
use Rattle.termwiz_grammar.proofs.lemmas.items.ItemStable.{item_some, item_begins}
use Rattle.termwiz_grammar.proofs.lemmas.mouse.OneReport.{IsPlain}
use Rattle.termwiz_grammar.proofs.lemmas.table.RowShape.{Bytes}
use Rattle.termwiz_grammar.proofs.lemmas.table.RowShape.Bytes.{one, more}
use Rattle.termwiz_grammar.proofs.lemmas.table.SequenceFacts.{sequence_bytes}

-- a sequence has no ESC after its first byte
pub escape_comes_first : (u t : List ℕ) (m : Meaning) → u ≢ [] → IsSequence (u ++ 27 ∷ t) m → ⊥
escape_comes_first [] t m some is = some refl
escape_comes_first (x ∷ u) t m some is = go (sequence_bytes (x ∷ u ++ 27 ∷ t) m is)
  where
    go : Bytes (x ∷ u ++ 27 ∷ t) → ⊥
    go (one b l e) = omega (arith, ap length e, length-append u (27 ∷ t))
    go (more s n e p) =
        let rest : s ≡ u ++ 27 ∷ t = cc (e) in
        let low : IsPlain 27 = (true_at_end IsPlain u (27 ∷ t) (subst (AllByRecursion IsPlain) rest p)).0 in
        omega (arith, low.0)

-- nor has a character that takes several bytes
pub no_escape_within : (u t : List ℕ) (c : ℕ) → u ≢ [] → IsScalar c → encode_utf8 c ≡ u ++ 27 ∷ t → ⊥
no_escape_within u t c some scalar spells =
    let high : IsHigh 27 =
    (true_at_end IsHigh u (27 ∷ t) (parted_high c u (27 ∷ t) scalar some (λ e. cc (e)) spells)).0 in
    omega (arith, high.0)

sequence_before : (u r other : List ℕ) (m : Meaning) → u ≢ [] → IsSequence other m → Begins other (u ++ 27 ∷ r) → Begins other u
sequence_before u r other m some is b = go (overlap other b.0 u (27 ∷ r) b.1)
  where
    go : Overlaps other b.0 u (27 ∷ r) → Begins other u
    go (within t e f) = (t, e)
    go (past [] n e f) = absurd (n refl)
    go (past (x ∷ t) n e f) =
        let first : x ≡ 27 = cc (f) in
        absurd (escape_comes_first u t m some
        (subst (λ z. IsSequence (u ++ z ∷ t) m) first (subst (λ z. IsSequence z m) e is)))

character_before : (u r : List ℕ) (c : ℕ) → u ≢ [] → IsScalar c → Begins (encode_utf8 c) (u ++ 27 ∷ r) → Begins (encode_utf8 c) u
character_before u r c some scalar b = go (overlap (encode_utf8 c) b.0 u (27 ∷ r) b.1)
  where
    go : Overlaps (encode_utf8 c) b.0 u (27 ∷ r) → Begins (encode_utf8 c) u
    go (within t e f) = (t, e)
    go (past [] n e f) = absurd (n refl)
    go (past (x ∷ t) n e f) =
        let first : x ≡ 27 = cc (f) in
        absurd (no_escape_within u t c some scalar (e ∙ ap (λ z. u ++ z ∷ t) first))

longest_before : (u r text : List ℕ) (m : Meaning) → u ≢ [] → IsLongest u text m → IsLongest (u ++ 27 ∷ r) text m
longest_before u r text m some is = record {
  is_sequence = is.is_sequence;
  begins = Begins-append text u (27 ∷ r) is.begins;
  longest = λ other n k b. is.longest other n k (sequence_before u r other n some k b);
}

head_before : (u r : List ℕ) (h : Head) → u ≢ [] → IsHead u h → IsHead (u ++ 27 ∷ r) h
head_before u r (Sequence text m) some is = longest_before u r text m some is
head_before u r (Character c) some is = record {
  no_sequence = λ other n k b. is.no_sequence other n k (sequence_before u r other n some k b);
  scalar = is.scalar;
  begins = Begins-append (encode_utf8 c) u (27 ∷ r) is.begins;
}
head_before u r (Broken byte) some is = record {
  no_sequence = λ other n k b. is.no_sequence other n k (sequence_before u r other n some k b);
  unspelled = λ c scalar b. is.unspelled c scalar (character_before u r c some scalar b);
  begins = Begins-append (byte ∷ []) u (27 ∷ r) is.begins;
}

-- so no text before an ESC is open
pub closed_before : (u r : List ℕ) (f : Bool) → u ≢ [] → IsOpen (u ++ 27 ∷ r) f → ⊥
closed_before u r f some opens = ⊎_elim
    (λ (h : IsUnfinishedSequence (u ++ 27 ∷ r)). escape_comes_first u (r ++ h.tail) h.meaning some
    (subst (λ x. IsSequence x h.meaning) (append_assoc u (27 ∷ r) h.tail) h.is_sequence))
    (λ (h : IsUnfinishedCharacter (u ++ 27 ∷ r)). no_escape_within u (r ++ h.tail) h.char some h.scalar
    (h.spells ∙ append_assoc u (27 ∷ r) h.tail))
    opens.beginning

after_escape_before : (u v r : List ℕ) (f : Bool) → u ≢ [] → IsAfterEscape u v false
    → IsAfterEscape (u ++ 27 ∷ r) (v ++ 27 ∷ r) f
after_escape_before u v r f some is = record {
  escape_head = longest_before u r ESC (Row escape) some is.escape_head;
  splits = ap (λ x. x ++ 27 ∷ r) is.splits;
  some = append-some_left v (27 ∷ r) is.some;
  closed = closed_before v r f is.some;
}

item_before : (u r bytes : List ℕ) (event : InputEvent) (f : Bool) → u ≢ [] → (u ≡ ESC → ⊥) → Item u false bytes event
    → Item (u ++ 27 ∷ r) f bytes event
item_before u r bytes event f some more' (key text k is usual alone) =
    key text k (longest_before u r text (Row k) some is) usual (λ e. absurd (more' (alone e)))
item_before u r bytes event f some more' (char c is) = char c (head_before u r (Character c) some is)
item_before u r bytes event f some more' (broken byte is) = broken byte (head_before u r (Broken byte) some is)
item_before u r bytes event f some more' (mouse text report is) =
    mouse text report (longest_before u r text (Report report) some is)
item_before u r bytes event f some more' (paste body b first) =
    paste body (Begins-append (START ++ body ++ END) u (27 ∷ r) b) first
item_before u r bytes event f some more' (lone_escape v h after is apart) =
    lone_escape (v ++ 27 ∷ r) h (after_escape_before u v r f some after) (head_before v r h after.some is) apart
item_before u r bytes event f some more' (alt v h k after is is_key) =
    alt (v ++ 27 ∷ r) h k (after_escape_before u v r f some after) (head_before v r h after.some is) is_key

-- what a flush reads of a text other than ESC is read of it before an ESC
pub stands_before : (u r bytes : List ℕ) (event : InputEvent) (f : Bool) → (u ≡ ESC → ⊥) → Stands u false bytes event
    → Stands (u ++ 27 ∷ r) f bytes event
stands_before u r bytes event f more' stands =
    let b = item_begins u bytes event false stands.item in
    let some : u ≢ [] =
    λ none. append-some_left bytes b.0 (item_some u bytes event false stands.item) (sym b.1 ∙ none) in
    record { closed = closed_before u r f some; item = item_before u r bytes event f some more' stands.item }
