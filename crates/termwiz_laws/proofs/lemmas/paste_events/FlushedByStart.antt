-- START ends what comes before it as a flush does: no sequence and no character goes on into it.
use Rattle.std.proofs.Common.{◌≡◌, ◌≢◌, ⊎_elim, ℕ, Bool, false, List, [], ◌∷◌, ◌++◌, length, refl, sym, ap, ◌∙◌, subst, append_assoc, arith, encode_utf8, length-append}
use Rattle.std.specs.Char.{IsScalar}
use Rattle.std.specs.List.{AllByRecursion}
use Rattle.termwiz_keys.specs.declared.types.InputEvent.{InputEvent}
use Rattle.termwiz_keys.specs.declared.types.InputEvent.TheVariants.{Key}
use Rattle.termwiz_keys.specs.declared.types.KeyEvent.{KeyEvent}
use Rattle.termwiz_keymap.specs.Bytes.{Begins}
use Rattle.termwiz_keys.specs.Introducers.{ESC, START, END}
use Rattle.termwiz_keys.specs.Keys.{escape}
use Rattle.termwiz_grammar.specs.Sequences.{Meaning, IsSequence}
use Rattle.termwiz_grammar.specs.Sequences.Meaning.{Row, Report}
use Rattle.termwiz_grammar.specs.Grammar.{Head, IsHead, IsLongest, IsUnfinishedSequence, IsUnfinishedCharacter, IsOpen, IsAfterEscape, Item, Stands, Steps}
use Rattle.termwiz_grammar.specs.Grammar.Head.{Sequence, Character, Broken}
use Rattle.termwiz_grammar.specs.Grammar.Item.{key, char, broken, mouse, paste, lone_escape, alt}
use Rattle.termwiz_keymap.proofs.lemmas.lists.CommonPrefixes.{Overlaps, overlap, append-some, append-some_left, Begins-append, true_at_end}
use Rattle.termwiz_keymap.proofs.lemmas.lists.CommonPrefixes.Overlaps.{within, past}
use Rattle.termwiz_grammar.proofs.lemmas.characters.CharacterPrefixes.{IsHigh, parted_high, sequence_finished}
use Rattle.termwiz_grammar.proofs.lemmas.items.ItemStable.{item_some, item_begins}
use Rattle.termwiz_grammar.proofs.lemmas.items.OneItem.{start_head}
use Rattle.termwiz_grammar.proofs.lemmas.lists.Decidable.{same_or_not}
use Rattle.termwiz_grammar.proofs.lemmas.mouse.OneReport.{IsPlain}
use Rattle.termwiz_grammar.proofs.lemmas.table.RowShape.{Bytes}
use Rattle.termwiz_grammar.proofs.lemmas.table.RowShape.Bytes.{one, more}
use Rattle.termwiz_grammar.proofs.lemmas.table.SequenceFacts.{sequence_bytes, sequence_once, escape_is_sequence, start, start_is_sequence, start_ends}

-- a sequence has no ESC after its first byte
escape_comes_first : (u t : List ℕ) (m : Meaning) → u ≢ [] → IsSequence (u ++ 27 ∷ t) m → ⊥
escape_comes_first [] t m some is = some refl
escape_comes_first (x ∷ u) t m some is = go (sequence_bytes (x ∷ u ++ 27 ∷ t) m is)
  where
    go : Bytes (x ∷ u ++ 27 ∷ t) → ⊥
    go (one b l e) = omega (arith, ap length e, length-append u (27 ∷ t))
    go (more s n e p) =
        let rest : s ≡ u ++ 27 ∷ t = cc (e) in
        let low : IsPlain 27 = (true_at_end IsPlain u (27 ∷ t) (subst (AllByRecursion IsPlain) rest p)).0 in
        omega (arith, low.0)

-- nor has a character that takes several bytes
no_escape_within : (u t : List ℕ) (c : ℕ) → u ≢ [] → IsScalar c → encode_utf8 c ≡ u ++ 27 ∷ t → ⊥
no_escape_within u t c some scalar spells =
    let high : IsHigh 27 =
    (true_at_end IsHigh u (27 ∷ t) (parted_high c u (27 ∷ t) scalar some (λ e. cc (e)) spells)).0 in
    omega (arith, high.0)

-- the first byte of a text that START begins
first_of_start : (s t r : List ℕ) (x : ℕ) → Begins START s → s ≡ x ∷ t ++ r → x ≡ 27
first_of_start s t r x b e = cc (b.1, e)

sequence_before : (u s other : List ℕ) (m : Meaning) → u ≢ [] → Begins START s → IsSequence other m
    → Begins other (u ++ s) → Begins other u
sequence_before u s other m some at is b = go (overlap other b.0 u s b.1)
  where
    go : Overlaps other b.0 u s → Begins other u
    go (within t e f) = (t, e)
    go (past [] n e f) = absurd (n refl)
    go (past (x ∷ t) n e f) =
        let first : x ≡ 27 = first_of_start s t b.0 x at f in
        absurd (escape_comes_first u t m some
        (subst (λ z. IsSequence (u ++ z ∷ t) m) first (subst (λ z. IsSequence z m) e is)))

character_before : (u s : List ℕ) (c : ℕ) → u ≢ [] → Begins START s → IsScalar c → Begins (encode_utf8 c) (u ++ s)
    → Begins (encode_utf8 c) u
character_before u s c some at scalar b = go (overlap (encode_utf8 c) b.0 u s b.1)
  where
    go : Overlaps (encode_utf8 c) b.0 u s → Begins (encode_utf8 c) u
    go (within t e f) = (t, e)
    go (past [] n e f) = absurd (n refl)
    go (past (x ∷ t) n e f) =
        let first : x ≡ 27 = first_of_start s t b.0 x at f in
        absurd (no_escape_within u t c some scalar (e ∙ ap (λ z. u ++ z ∷ t) first))

longest_before : (u s text : List ℕ) (m : Meaning) → u ≢ [] → Begins START s → IsLongest u text m
    → IsLongest (u ++ s) text m
longest_before u s text m some at is = record {
  is_sequence = is.is_sequence;
  begins = Begins-append text u s is.begins;
  longest = λ other n k b. is.longest other n k (sequence_before u s other n some at k b);
}

head_before : (u s : List ℕ) (h : Head) → u ≢ [] → Begins START s → IsHead u h → IsHead (u ++ s) h
head_before u s (Sequence text m) some at is = longest_before u s text m some at is
head_before u s (Character c) some at is = record {
  no_sequence = λ other n k b. is.no_sequence other n k (sequence_before u s other n some at k b);
  scalar = is.scalar;
  begins = Begins-append (encode_utf8 c) u s is.begins;
}
head_before u s (Broken byte) some at is = record {
  no_sequence = λ other n k b. is.no_sequence other n k (sequence_before u s other n some at k b);
  unspelled = λ c scalar b. is.unspelled c scalar (character_before u s c some at scalar b);
  begins = Begins-append (byte ∷ []) u s is.begins;
}

-- so no text before START is open
closed_before : (u s : List ℕ) (f : Bool) → u ≢ [] → Begins START s → IsOpen (u ++ s) f → ⊥
closed_before u s f some (rest, e) opens = ⊎_elim
    (λ (h : IsUnfinishedSequence (u ++ s)).
    escape_comes_first u (91 ∷ 50 ∷ 48 ∷ 48 ∷ 126 ∷ rest ++ h.tail) h.meaning some
    (subst (λ x. IsSequence x h.meaning) (whole h.tail) h.is_sequence))
    (λ (h : IsUnfinishedCharacter (u ++ s)).
    no_escape_within u (91 ∷ 50 ∷ 48 ∷ 48 ∷ 126 ∷ rest ++ h.tail) h.char some h.scalar
    (h.spells ∙ whole h.tail))
    opens.beginning
  where
    whole : (tail : List ℕ) → (u ++ s) ++ tail ≡ u ++ 27 ∷ (91 ∷ 50 ∷ 48 ∷ 48 ∷ 126 ∷ rest ++ tail)
    whole tail = append_assoc u s tail ∙ ap (λ z. u ++ (z ++ tail)) e

-- nor is START
pub start_closed : (s : List ℕ) (f : Bool) → Begins START s → IsOpen s f → ⊥
start_closed s f (rest, e) opens = ⊎_elim
    (λ (h : IsUnfinishedSequence s). append-some rest h.tail h.longer
    (start_ends (rest ++ h.tail) h.meaning (subst (λ x. IsSequence (x ++ h.tail) h.meaning) e h.is_sequence)))
    (λ (h : IsUnfinishedCharacter s). sequence_finished START s (Row start) start_is_sequence (rest, e)
    (λ none. cc (none, e)) h)
    opens.beginning

start_some : (s : List ℕ) → Begins START s → s ≢ []
start_some s (rest, e) none = cc (none, e)

after_escape_before : (u v s : List ℕ) (f : Bool) → u ≢ [] → Begins START s → IsAfterEscape u v false
    → IsAfterEscape (u ++ s) (v ++ s) f
after_escape_before u v s f some at is = record {
  escape_head = longest_before u s ESC (Row escape) some at is.escape_head;
  splits = ap (λ x. x ++ s) is.splits;
  some = append-some_left v s is.some;
  closed = closed_before v s f is.some at;
}

-- an ESC that a flush makes the Escape key is alone before START
escape_before : (u s text : List ℕ) (k : KeyEvent) (f : Bool) → Begins START s → IsLongest u text (Row k) → text ≡ ESC
    → u ≡ ESC → Item (u ++ s) f text (Key k)
escape_before u s text k f at is same alone =
    let row : Row k ≡ Row escape =
    sequence_once ESC (Row k) (Row escape) (subst (λ x. IsSequence x (Row k)) same is.is_sequence) escape_is_sequence in
    let its : k ≡ escape = cc (row) in
    let here : IsLongest ESC ESC (Row escape) =
    subst (λ x. IsLongest ESC ESC (Row x)) its
    (subst (λ x. IsLongest ESC x (Row k)) same (subst (λ x. IsLongest x text (Row k)) alone is)) in
    let item : Item (ESC ++ s) f ESC (Key escape) = lone_escape s (Sequence START (Row start)) (record {
      escape_head = longest_before ESC s ESC (Row escape) (λ e. cc (e)) at here;
      splits = refl;
      some = start_some s at;
      closed = start_closed s f at;
    }) (start_head s at) refl in
    subst (λ x. Item (u ++ s) f text (Key x)) (sym its)
    (subst (λ x. Item (u ++ s) f x (Key escape)) (sym same) (subst (λ x. Item (x ++ s) f ESC (Key escape)) (sym alone) item))

item_before : (u s bytes : List ℕ) (event : InputEvent) (f : Bool) → u ≢ [] → Begins START s → Item u false bytes event
    → Item (u ++ s) f bytes event
item_before u s bytes event f some at (key text k is usual alone) = ⊎_elim
    (λ (e : text ≡ ESC). escape_before u s text k f at is e (alone e))
    (λ (other : text ≡ ESC → ⊥). key text k (longest_before u s text (Row k) some at is) usual (λ e. absurd (other e)))
    (same_or_not text ESC)
item_before u s bytes event f some at (char c is) = char c (head_before u s (Character c) some at is)
item_before u s bytes event f some at (broken byte is) = broken byte (head_before u s (Broken byte) some at is)
item_before u s bytes event f some at (mouse text report is) =
    mouse text report (longest_before u s text (Report report) some at is)
item_before u s bytes event f some at (paste body b first) =
    paste body (Begins-append (START ++ body ++ END) u s b) first
item_before u s bytes event f some at (lone_escape v h after is apart) =
    lone_escape (v ++ s) h (after_escape_before u v s f some at after) (head_before v s h after.some at is) apart
item_before u s bytes event f some at (alt v h k after is is_key) =
    alt (v ++ s) h k (after_escape_before u v s f some at after) (head_before v s h after.some at is) is_key

stands_before : (u s bytes : List ℕ) (event : InputEvent) (f : Bool) → Begins START s → Stands u false bytes event
    → Stands (u ++ s) f bytes event
stands_before u s bytes event f at stands =
    let b = item_begins u bytes event false stands.item in
    let some : u ≢ [] =
    λ none. append-some_left bytes b.0 (item_some u bytes event false stands.item) (sym b.1 ∙ none) in
    record { closed = closed_before u s f some at; item = item_before u s bytes event f some at stands.item }

-- what a flush reads of a text is what is read of it before START
pub steps_before : (E : List InputEvent) (T s W : List ℕ) (f : Bool) → Begins START s → Steps T false E W
    → Steps (T ++ s) f E (W ++ s)
steps_before [] T s W f at h = ap (λ x. x ++ s) h
steps_before (e ∷ E) T s W f at (bytes, rest, stands, splits, steps) = (
  bytes,
  rest ++ s,
  stands_before T s bytes e f at stands,
  ap (λ x. x ++ s) splits ∙ append_assoc bytes rest s,
  steps_before E rest s W f at steps,
)
