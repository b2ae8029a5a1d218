-- A text that means one key when it is flushed, and that may go on, is that of one of four keys, or a broken byte.
use Rattle.std.proofs.Common.{◌≡◌, ◌≢◌, ◌∙◌, ◌⊎◌, inl, inr, ⊎_elim, ℕ, suc, ◌≤◌, true, false, List, [], ◌∷◌, ◌++◌, length, refl, sym, ap, ap₂, subst, arith, append-nil, get_or, ◌==◌, ◌||◌}
use Rattle.std.specs.List.{AllByRecursion}
use Rattle.std.specs.Char.{encode_utf8}
use Rattle.std.proofs.lemmas.List.{append_cancel_left}
use Rattle.std.proofs.lemmas.Str.{encode_same}
use Rattle.std.proofs.lemmas.Bool.{and_parts}
use Rattle.std.proofs.lemmas.Bool.Decides.{nat_tests}
use Rattle.termwiz_keymap.proofs.lemmas.lists.CommonPrefixes.{append-some, true_at_front}
use Rattle.termwiz_keys.specs.declared.types.KeyEvent.{KeyEvent}
use Rattle.termwiz_keys.specs.declared.types.InputEvent.TheVariants.{Key}
use Rattle.termwiz_keys.specs.Introducers.{ESC, CSI, SS3}
use Rattle.termwiz_keys.specs.Keys.{escape, plain, with_alt}
use Rattle.termwiz_grammar.specs.Sequences.{Meaning, IsSequence}
use Rattle.termwiz_grammar.specs.Sequences.Meaning.{Row, Report}
use Rattle.termwiz_grammar.specs.Grammar.{Head, IsHead, IsKey, IsLongest, IsUnfinishedCharacter, IsBeginning, replacement, bytes_of, Item, Steps, Means}
use Rattle.termwiz_grammar.specs.Grammar.Head.{Sequence, Character, Broken}
use Rattle.termwiz_grammar.proofs.lemmas.table.ComputedTests.{ends_well}
use Rattle.termwiz_grammar.proofs.lemmas.table.RowShape.{Bytes, row_shaped, begins_another, no_report_shape}
use Rattle.termwiz_grammar.proofs.lemmas.table.RowShape.Bytes.{one, more}
use Rattle.termwiz_grammar.proofs.lemmas.table.SequenceFacts.{sequence_bytes, escape_is_sequence}
use Rattle.termwiz_grammar.proofs.lemmas.mouse.OneReport.{IsPlain, report_plain}
use Rattle.termwiz_grammar.proofs.lemmas.characters.CharacterPrefixes.{IsHigh, sequence_low, unfinished_high}
use Rattle.termwiz_grammar.proofs.lemmas.items.OneHead.{head_once}
use Rattle.termwiz_grammar.proofs.lemmas.items.OneItem.{RowGives, Gives, reads}
use Rattle.termwiz_grammar.proofs.lemmas.items.OneItem.RowGives.{its_key, its_paste, apart, joined}
use Rattle.termwiz_grammar.proofs.lemmas.read_back.WholeTexts.{escape_alone}
use Rattle.termwiz_grammar.specs.Laws.{IsHeldEscape}
use Rattle.termwiz_laws.specs.KeyStreams.{MayGoOn}
use Rattle.termwiz_laws.proofs.lemmas.flushes.PlainItems.{plain_head}
use Rattle.termwiz_laws.proofs.lemmas.key_streams.NoFlush.{first_byte, escape_before}

-- a row that properly begins a sequence is ESC, ESC [ or ESC O
pub row_begins : (s t : List ℕ) (k : KeyEvent) (m : Meaning) → IsSequence s (Row k) → IsSequence (s ++ t) m → t ≢ []
    → (s ≡ ESC) ⊎ (s ≡ CSI) ⊎ (s ≡ SS3)
unfolding IsSequence
row_begins s t k (Row j) a b n =
    begins_another s t (row_shaped s k a).shape (row_shaped (s ++ t) j b).shape (row_shaped (s ++ t) j b).sequence n
row_begins [] t k (Report r) a b n = absurd (cc ((row_shaped [] k a).shape))
row_begins (x ∷ []) t k (Report r) a b n =
    let first : x ≡ 27 = ap (λ l. get_or l 0 0) (report_plain (x ∷ t) r b).1 in inl (ap (λ z. z ∷ []) first)
row_begins (x ∷ y ∷ []) t k (Report r) a b n =
    let first : x ≡ 27 = ap (λ l. get_or l 0 0) (report_plain (x ∷ y ∷ t) r b).1 in
    let second : y ≡ 91 = ap (λ l. get_or l 1 0) (report_plain (x ∷ y ∷ t) r b).1 in
    inr (inl (ap₂ (λ u v. u ∷ v ∷ []) first second))
row_begins (x ∷ y ∷ z ∷ s) t k (Report r) a b n =
    let all = report_plain (x ∷ y ∷ z ∷ s ++ t) r b in
    let first : x ≡ 27 = ap (λ l. get_or l 0 0) all.1 in
    let second : y ≡ 91 = ap (λ l. get_or l 1 0) all.1 in
    let third : z ≡ 60 = ap (λ l. get_or l 2 0) all.1 in
    let here : IsSequence (27 ∷ 91 ∷ 60 ∷ s) (Row k) =
    subst (λ c. IsSequence (27 ∷ 91 ∷ c ∷ s) (Row k)) third (subst (λ c. IsSequence (27 ∷ c ∷ z ∷ s) (Row k)) second
    (subst (λ c. IsSequence (c ∷ y ∷ z ∷ s) (Row k)) first a)) in
    absurd (no_report_shape s (row_shaped (27 ∷ 91 ∷ 60 ∷ s) k here).shape)

-- a sequence of three bytes or more begins ESC [ or ESC O
pub second_of_three : (y z : ℕ) (t : List ℕ) (m : Meaning) → IsSequence (27 ∷ y ∷ z ∷ t) m → (y ≡ 91) ⊎ (y ≡ 79)
unfolding IsSequence
second_of_three y z t (Row k) a =
    let e = and_parts ((y == 91) || (y == 79)) (ends_well (z ∷ t)) (row_shaped (27 ∷ y ∷ z ∷ t) k a).shape in
    let f : (y == 91) || (y == 79) ≡ true = e.0 in
    grind (arith, nat_tests)
second_of_three y z t (Report r) a = inl (ap (λ l. get_or l 1 0) (report_plain (27 ∷ y ∷ z ∷ t) r a).1)

-- what a text can be that means one key and may go on
pub data OneKey (text : List ℕ) (k : KeyEvent) : Type 0 where
  itself : (text ≡ ESC) ⊎ (text ≡ CSI) ⊎ (text ≡ SS3) → OneKey text k
  after_escape : (s : List ℕ) (j : KeyEvent) → IsSequence s (Row j) → (s ≡ ESC) ⊎ (s ≡ CSI) ⊎ (s ≡ SS3)
      → k ≡ with_alt j → OneKey text k
  broken_byte : k ≡ plain replacement → length text ≡ 1 → OneKey text k
  broken_after_escape : k ≡ with_alt (plain replacement) → length text ≡ 2 → OneKey text k

-- ESC and one byte, which begin a longer sequence
two_bytes : (p tail : List ℕ) (m : Meaning) → IsSequence (27 ∷ p ++ tail) m → tail ≢ [] → length p ≡ 1
    → (27 ∷ p ≡ ESC) ⊎ (27 ∷ p ≡ CSI) ⊎ (27 ∷ p ≡ SS3)
two_bytes [] tail m is longer l = absurd (omega (arith, l))
two_bytes (y ∷ []) [] m is longer l = absurd (longer refl)
two_bytes (y ∷ []) (z ∷ t) m is longer l = ⊎_elim
    (λ (e : y ≡ 91). inr (inl (ap (λ b. 27 ∷ b ∷ []) e)))
    (λ (e : y ≡ 79). inr (inr (ap (λ b. 27 ∷ b ∷ []) e)))
    (second_of_three y z t m is)
two_bytes (y ∷ z ∷ p) tail m is longer l = absurd (omega (arith, l))

head_after : (p v : List ℕ) (h : Head) → AllByRecursion IsPlain p → 27 ∷ p ≡ ESC ++ v → v ≢ [] → IsHead v h
    → length (bytes_of h) ≡ 1
head_after [] v h plain split some is = absurd (some (cc (split)))
head_after (y ∷ p) v h plain split some is =
    plain_head y p h plain.0 (subst (λ z. IsHead z h) (let e : v ≡ y ∷ p = cc (split) in e) is)

-- the beginning of a sequence, as one item
sequence_item : (p tail : List ℕ) (k : KeyEvent) (m : Meaning) → tail ≢ [] → IsSequence (27 ∷ p ++ tail) m
    → AllByRecursion IsPlain p → Item (27 ∷ p) false (27 ∷ p) (Key k)
    → OneKey (27 ∷ p) k
sequence_item p tail k m longer whole plain item =
    (let g = reads (27 ∷ p) (27 ∷ p) (Key k) false item in go g.0 g.1 g.2)
  where
    row : (s : List ℕ) (j : KeyEvent) → IsLongest (27 ∷ p) s (Row j) → RowGives (27 ∷ p) false s j (27 ∷ p) (Key k)
        → OneKey (27 ∷ p) k
    row s j is (its_key usual only all gives) =
        itself (row_begins (27 ∷ p) tail j m (subst (λ z. IsSequence z (Row j)) (sym all) is.is_sequence) whole longer)
    row s j is (its_paste at body rest split first all gives) = absurd (cc (gives))
    row s j is (apart at v h split some closed head far all gives) = itself (inl all)
    row s j is (joined at v h i split some closed head near all gives) =
        let short : length (bytes_of h) ≡ 1 = head_after p v h plain split some head in
        itself (two_bytes p tail m whole longer (omega (arith, ap length all, short)))

    go : (h : Head) → IsHead (27 ∷ p) h → Gives (27 ∷ p) false h (27 ∷ p) (Key k) → OneKey (27 ∷ p) k
    go (Sequence s (Row j)) is gives = row s j is gives
    go (Sequence s (Report r)) is gives = absurd (cc (gives.1))
    go (Character c) is gives = absurd (is.no_sequence ESC (Row escape) escape_is_sequence (p, refl))
    go (Broken b) is gives = absurd (is.no_sequence ESC (Row escape) escape_is_sequence (p, refl))

sequence_alone : (x : ℕ) (p tail : List ℕ) (k : KeyEvent) (m : Meaning) → tail ≢ [] → IsSequence (x ∷ p ++ tail) m
    → Bytes (x ∷ p ++ tail) → Item (x ∷ p) false (x ∷ p) (Key k)
    → OneKey (x ∷ p) k
sequence_alone x p tail k m longer whole (one b l e) item = absurd (append-some p tail longer (cc (e)))
sequence_alone x p tail k m longer whole (more t n e a) item =
    let first : x ≡ 27 = cc (e) in
    let rest : t ≡ p ++ tail = cc (e) in
    subst (λ z. OneKey (z ∷ p) k) (sym first)
    (sequence_item p tail k m longer (subst (λ z. IsSequence (z ∷ p ++ tail) m) first whole)
    (true_at_front IsPlain p tail (subst (AllByRecursion IsPlain) rest a))
    (subst (λ z. Item (z ∷ p) false (z ∷ p) (Key k)) first item))

-- a character isn't the beginning of another one
no_longer_character : (c : ℕ) (u : List ℕ) (h : IsUnfinishedCharacter u) → encode_utf8 c ≡ u → ⊥
no_longer_character c u h spells =
    let e : encode_utf8 h.char ++ [] ≡ encode_utf8 c ++ h.tail =
    append-nil (encode_utf8 h.char) ∙ h.spells ∙ ap (λ z. z ++ h.tail) (sym spells) in
    h.longer (sym (encode_same h.char c [] h.tail e).1)

high_bytes : (x : ℕ) (p : List ℕ) → IsUnfinishedCharacter (x ∷ p) → AllByRecursion IsHigh (x ∷ p)
high_bytes x p u = unfinished_high (x ∷ p) (λ h. cc (h)) u

-- the beginning of a character, as one item
character_alone : (x : ℕ) (p : List ℕ) (k : KeyEvent) → IsUnfinishedCharacter (x ∷ p)
    → Item (x ∷ p) false (x ∷ p) (Key k)
    → OneKey (x ∷ p) k
character_alone x p k u item = (let g = reads (x ∷ p) (x ∷ p) (Key k) false item in go g.0 g.1 g.2)
  where
    go : (h : Head) → IsHead (x ∷ p) h → Gives (x ∷ p) false h (x ∷ p) (Key k) → OneKey (x ∷ p) k
    go (Sequence s m) is gives = absurd (sequence_low s (x ∷ p) m is.is_sequence (high_bytes x p u) is.begins)
    go (Character c) is gives = absurd (no_longer_character c (x ∷ p) u (sym gives.0))
    go (Broken b) is gives =
        broken_byte (let e : Key k ≡ Key (plain replacement) = gives.1 in cc (e)) (ap length gives.0)

-- either one after an ESC, as one item
after_one_escape : (x : ℕ) (p : List ℕ) (k : KeyEvent) → IsBeginning (x ∷ p)
    → Item (27 ∷ x ∷ p) false (27 ∷ x ∷ p) (Key k)
    → OneKey (27 ∷ x ∷ p) k
after_one_escape x p k beginning item =
    (let g = reads (27 ∷ x ∷ p) (27 ∷ x ∷ p) (Key k) false item in
    let same : g.0 ≡ Sequence ESC (Row escape) =
    head_once (27 ∷ x ∷ p) g.0 (Sequence ESC (Row escape)) g.1 (escape_alone x p (escape_before x p beginning)) in
    row (subst (λ h. Gives (27 ∷ x ∷ p) false h (27 ∷ x ∷ p) (Key k)) same g.2))
  where
    by_head : (h : Head) (j : KeyEvent) → IsHead (x ∷ p) h → IsKey h j → bytes_of h ≡ x ∷ p → k ≡ with_alt j
        → IsBeginning (x ∷ p) → OneKey (27 ∷ x ∷ p) k
    by_head (Sequence s (Row i)) j is near all gives (inl u) =
        after_escape s i is.is_sequence (row_begins s u.tail i u.meaning is.is_sequence
        (subst (λ z. IsSequence (z ++ u.tail) u.meaning) (sym all) u.is_sequence) u.longer)
        (gives ∙ ap with_alt near.1)
    by_head (Sequence s (Row i)) j is near all gives (inr u) =
        absurd (sequence_low s (x ∷ p) (Row i) is.is_sequence (high_bytes x p u) is.begins)
    by_head (Sequence s (Report r)) j is near all gives b = absurd near
    by_head (Character c) j is near all gives (inl u) =
        absurd (⊎_elim
        (λ (e : x ≡ 27). is.no_sequence ESC (Row escape) escape_is_sequence (p, ap (λ z. z ∷ p) e))
        (λ (h : 128 ≤ x). no_high_sequence (sequence_bytes (x ∷ p ++ u.tail) u.meaning u.is_sequence) h)
        (first_byte x p (inl u)))
      where
        no_high_sequence : Bytes (x ∷ p ++ u.tail) → 128 ≤ x → ⊥
        no_high_sequence (one b l e) h = (let same : x ≡ b = cc (e) in omega (arith, l))
        no_high_sequence (more t n e a) h = (let same : x ≡ 27 = cc (e) in omega arith)
    by_head (Character c) j is near all gives (inr u) = absurd (no_longer_character c (x ∷ p) u all)
    by_head (Broken b) j is near all gives either =
        broken_after_escape (gives ∙ ap with_alt near) (ap (λ z. suc (length z)) (sym all))

    row : RowGives (27 ∷ x ∷ p) false ESC escape (27 ∷ x ∷ p) (Key k) → OneKey (27 ∷ x ∷ p) k
    row (its_key usual only all gives) = absurd (cc (all))
    row (its_paste at body rest split first all gives) = absurd (cc)
    row (apart at v h split some closed is far all gives) = absurd (cc (all))
    row (joined at v h j split some closed is near all gives) =
        let same : v ≡ x ∷ p = cc (split) in
        by_head h j (subst (λ z. IsHead z h) same is) near (append_cancel_left ESC (bytes_of h) (x ∷ p) (sym all))
        (let e : Key k ≡ Key (with_alt j) = gives in cc (e)) beginning

alone_or_after : (held front text : List ℕ) (k : KeyEvent) → IsHeldEscape held → front ≢ [] → text ≡ held ++ front
    → IsBeginning front → Item text false text (Key k)
    → OneKey text k
alone_or_after held [] text k is some e b item = absurd (some refl)
alone_or_after held (x ∷ p) text k (inl none) some e b item =
    let same : text ≡ x ∷ p = e ∙ ap (λ z. z ++ x ∷ p) none in
    subst (λ t. OneKey t k) (sym same) (go b (subst (λ t. Item t false t (Key k)) same item))
  where
    go : IsBeginning (x ∷ p) → Item (x ∷ p) false (x ∷ p) (Key k) → OneKey (x ∷ p) k
    go (inl u) it = sequence_alone x p u.tail k u.meaning u.longer u.is_sequence
        (sequence_bytes (x ∷ p ++ u.tail) u.meaning u.is_sequence) it
    go (inr u) it = character_alone x p k u it
alone_or_after held (x ∷ p) text k (inr held_one) some e b item =
    let same : text ≡ 27 ∷ x ∷ p = e ∙ ap (λ z. z ++ x ∷ p) held_one in
    subst (λ t. OneKey t k) (sym same) (after_one_escape x p k b (subst (λ t. Item t false t (Key k)) same item))

pub one_key : (text : List ℕ) (k : KeyEvent) → Means text false (Key k ∷ []) [] → MayGoOn text → OneKey text k
one_key text k means on = go means.steps
  where
    go : Steps text false (Key k ∷ []) [] → OneKey text k
    go (bytes, rest, stands, splits, none) =
        let all : bytes ≡ text = sym (splits ∙ ap (λ r. bytes ++ r) none ∙ append-nil bytes) in
        alone_or_after on.held on.bytes text k on.is_held on.some on.splits on.beginning
        (subst (λ z. Item text false z (Key k)) all stands.item)
