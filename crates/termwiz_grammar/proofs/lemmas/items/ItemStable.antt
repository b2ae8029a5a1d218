-- An item that stands at a text with more to come stands there whatever comes.
use Rattle.std.proofs.Common.{◌≡◌, ◌≢◌, inl, inr, ⊎_elim, ℕ, Bool, true, List, [], ◌∷◌, ◌++◌, length, refl, sym, ap, ◌∙◌, subst, append_assoc, arith, encode_utf8}
use Rattle.std.specs.Char.{IsScalar}
use Rattle.std.proofs.lemmas.Str.{length-encode, len_utf8_bounds}
use Rattle.termwiz_keymap.specs.Bytes.{Begins}
use Rattle.termwiz_keys.specs.Introducers.{ESC, START, END}
use Rattle.termwiz_keys.specs.declared.types.InputEvent.{InputEvent}
use Rattle.termwiz_keys.specs.Keys.{escape}
use Rattle.termwiz_grammar.specs.Sequences.{Meaning, IsSequence}
use Rattle.termwiz_grammar.specs.Sequences.Meaning.{Row, Report}
use Rattle.termwiz_grammar.specs.Grammar.{IsLongest, IsCharacter, IsBroken, IsUnfinishedSequence, IsUnfinishedCharacter, IsOpen, IsAfterEscape, Head, IsHead, bytes_of, Item, Stands}
use Rattle.termwiz_grammar.specs.Grammar.Head.{Sequence, Character, Broken}
use Rattle.termwiz_grammar.specs.Grammar.Item.{key, char, broken, mouse, paste, lone_escape, alt}
use Rattle.termwiz_keymap.proofs.lemmas.lists.CommonPrefixes.{Overlaps, overlap, append-some, append-some_left, Begins-append}
use Rattle.termwiz_keymap.proofs.lemmas.lists.CommonPrefixes.Overlaps.{within, past}
use Rattle.termwiz_grammar.proofs.lemmas.table.SequenceFacts.{sequence_some, start, start_is_sequence}

-- no sequence goes on after a text that isn't open
not_past : (u t : List ℕ) (m : Meaning) → u ≢ [] → ¬ IsOpen u true → t ≢ [] → IsSequence (u ++ t) m → ⊥
not_past u t m some closed longer is_sequence =
    closed (record {
      more_comes = refl;
      some = some;
      beginning = inl (record { tail = t; longer = longer; meaning = m; is_sequence = is_sequence });
    })

-- so a sequence that begins the longer text begins the shorter one
pub begins_shorter : (u s other : List ℕ) (m : Meaning) → u ≢ [] → ¬ IsOpen u true → IsSequence other m
    → Begins other (u ++ s) → Begins other u
begins_shorter u s other m some closed is_sequence b = go (overlap other b.0 u s b.1)
  where
    go : Overlaps other b.0 u s → Begins other u
    go (within t e f) = (t, e)
    go (past t longer e f) = absurd (not_past u t m some closed longer (subst (λ x. IsSequence x m) e is_sequence))

pub longest_stays : (u s text : List ℕ) (m : Meaning) → u ≢ [] → ¬ IsOpen u true → IsLongest u text m
    → IsLongest (u ++ s) text m
longest_stays u s text m some closed is = record {
  is_sequence = is.is_sequence;
  begins = Begins-append text u s is.begins;
  longest =
      λ other n is_sequence b. is.longest other n is_sequence (begins_shorter u s other n some closed is_sequence b);
}

pub character_stays : (u s : List ℕ) (c : ℕ) → u ≢ [] → ¬ IsOpen u true → IsCharacter u c → IsCharacter (u ++ s) c
character_stays u s c some closed is = record {
  no_sequence = λ other n is_sequence b. is.no_sequence other n is_sequence
      (begins_shorter u s other n some closed is_sequence b);
  scalar = is.scalar;
  begins = Begins-append (encode_utf8 c) u s is.begins;
}

-- nor does a character go on after it
char_not_past : (u t : List ℕ) (c : ℕ) → u ≢ [] → ¬ IsOpen u true → t ≢ [] → IsScalar c → encode_utf8 c ≡ u ++ t → ⊥
char_not_past u t c some closed longer scalar spells =
    closed (record {
      more_comes = refl;
      some = some;
      beginning = inr (record { tail = t; longer = longer; char = c; scalar = scalar; spells = spells });
    })

char_begins_shorter : (u s : List ℕ) (c : ℕ) → u ≢ [] → ¬ IsOpen u true → IsScalar c → Begins (encode_utf8 c) (u ++ s)
    → Begins (encode_utf8 c) u
char_begins_shorter u s c some closed scalar b = go (overlap (encode_utf8 c) b.0 u s b.1)
  where
    go : Overlaps (encode_utf8 c) b.0 u s → Begins (encode_utf8 c) u
    go (within t e f) = (t, e)
    go (past t longer e f) = absurd (char_not_past u t c some closed longer scalar e)

pub broken_stays : (u s : List ℕ) (byte : ℕ) → u ≢ [] → ¬ IsOpen u true → IsBroken u byte → IsBroken (u ++ s) byte
broken_stays u s byte some closed is = record {
  no_sequence = λ other n is_sequence h. is.no_sequence other n is_sequence
      (begins_shorter u s other n some closed is_sequence h);
  unspelled = λ c scalar h. is.unspelled c scalar (char_begins_shorter u s c some closed scalar h);
  begins = Begins-append (byte ∷ []) u s is.begins;
}

pub head_stays : (u s : List ℕ) (h : Head) → u ≢ [] → ¬ IsOpen u true → IsHead u h → IsHead (u ++ s) h
head_stays u s (Sequence text m) some closed is = longest_stays u s text m some closed is
head_stays u s (Character c) some closed is = character_stays u s c some closed is
head_stays u s (Broken byte) some closed is = broken_stays u s byte some closed is

pub closed_stays : (u s : List ℕ) (f : Bool) → u ≢ [] → ¬ IsOpen u true → ¬ IsOpen (u ++ s) f
closed_stays u s f some closed open' = ⊎_elim
    (λ (h : IsUnfinishedSequence (u ++ s)). not_past u (s ++ h.tail) h.meaning some closed
    (append-some s h.tail h.longer)
    (subst (λ x. IsSequence x h.meaning) (append_assoc u s h.tail) h.is_sequence))
    (λ (h : IsUnfinishedCharacter (u ++ s)). char_not_past u (s ++ h.tail) h.char some closed
    (append-some s h.tail h.longer) h.scalar
    (h.spells ∙ append_assoc u s h.tail))
    open'.beginning

after_escape_stays : (u v s : List ℕ) (f : Bool) → u ≢ [] → ¬ IsOpen u true → IsAfterEscape u v true
    → IsAfterEscape (u ++ s) (v ++ s) f
after_escape_stays u v s f some closed is = record {
  escape_head = longest_stays u s ESC (Row escape) some closed is.escape_head;
  splits = ap (λ x. x ++ s) is.splits;
  some = append-some_left v s is.some;
  closed = closed_stays v s f is.some is.closed;
}

-- ESC alone is open, since START begins with it
pub escape_open : (u : List ℕ) → u ≡ ESC → IsOpen u true
escape_open u e = record {
  more_comes = refl;
  some = λ h. cc;
  beginning = inl (record {
    tail = 91 ∷ 50 ∷ 48 ∷ 48 ∷ 126 ∷ [];
    longer = λ h. cc;
    meaning = Row start;
    is_sequence = subst (λ x. IsSequence (x ++ 91 ∷ 50 ∷ 48 ∷ 48 ∷ 126 ∷ []) (Row start)) (sym e) start_is_sequence;
  });
}

item_stays : (u s bytes : List ℕ) (event : InputEvent) (f : Bool) → u ≢ [] → ¬ IsOpen u true → Item u true bytes event
    → Item (u ++ s) f bytes event
item_stays u s bytes event f some closed (key text k is plain alone) =
    key text k (longest_stays u s text (Row k) some closed is) plain (λ e. absurd (closed (escape_open u (alone e))))
item_stays u s bytes event f some closed (char c is) = char c (character_stays u s c some closed is)
item_stays u s bytes event f some closed (broken byte is) = broken byte (broken_stays u s byte some closed is)
item_stays u s bytes event f some closed (mouse text report is) =
    mouse text report (longest_stays u s text (Report report) some closed is)
item_stays u s bytes event f some closed (paste body b first) =
    paste body (Begins-append (START ++ body ++ END) u s b) first
item_stays u s bytes event f some closed (lone_escape v h after is apart) =
    lone_escape (v ++ s) h (after_escape_stays u v s f some closed after)
    (head_stays v s h after.some after.closed is) apart
item_stays u s bytes event f some closed (alt v h k after is is_key) =
    alt (v ++ s) h k (after_escape_stays u v s f some closed after) (head_stays v s h after.some after.closed is) is_key

pub encode_some : (c : ℕ) → encode_utf8 c ≢ []
encode_some c e = absurd (omega (arith, length-encode c, len_utf8_bounds c, ap length e))

-- an item's bytes aren't empty
pub item_some : (u bytes : List ℕ) (event : InputEvent) (f : Bool) → Item u f bytes event → bytes ≢ []
item_some u bytes event f (key text k is plain alone) = sequence_some text (Row k) is.is_sequence
item_some u bytes event f (char c is) = encode_some c
item_some u bytes event f (broken byte is) = λ h. cc
item_some u bytes event f (mouse text report is) = sequence_some text (Report report) is.is_sequence
item_some u bytes event f (paste body b first) = λ h. cc
item_some u bytes event f (lone_escape v h after is apart) = λ h. cc
item_some u bytes event f (alt v h k after is is_key) = λ h. cc

pub head_begins : (u : List ℕ) (h : Head) → IsHead u h → Begins (bytes_of h) u
head_begins u (Sequence text m) is = is.begins
head_begins u (Character c) is = is.begins
head_begins u (Broken byte) is = is.begins

pub item_begins : (u bytes : List ℕ) (event : InputEvent) (f : Bool) → Item u f bytes event → Begins bytes u
item_begins u bytes event f (key text k is plain alone) = is.begins
item_begins u bytes event f (char c is) = is.begins
item_begins u bytes event f (broken byte is) = is.begins
item_begins u bytes event f (mouse text report is) = is.begins
item_begins u bytes event f (paste body b first) = b
item_begins u bytes event f (lone_escape v h after is apart) = (v, after.splits)
item_begins u bytes event f (alt v h k after is is_key) =
    let b = head_begins v h is in
    (b.0, after.splits ∙ ap (λ x. ESC ++ x) b.1)

nonempty_from_begins : (bytes u : List ℕ) → bytes ≢ [] → Begins bytes u → u ≢ []
nonempty_from_begins bytes u n b = λ h. append-some_left bytes b.0 n (sym b.1 ∙ h)

pub stands_stays : (u s bytes : List ℕ) (event : InputEvent) (f : Bool) → Stands u true bytes event
    → Stands (u ++ s) f bytes event
stands_stays u s bytes event f stands =
    let some : u ≢ [] = nonempty_from_begins bytes u (item_some u bytes event true stands.item)
    (item_begins u bytes event true stands.item) in
    record {
      closed = closed_stays u s f some stands.closed;
      item = item_stays u s bytes event f some stands.closed stands.item;
    }
