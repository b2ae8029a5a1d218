-- Which bytes are broken, and before which texts.
use Rattle.std.proofs.Common.{◌≡◌, ◌⊎◌, inl, inr, ⊎_elim, ℕ, ◌<◌, ◌≤◌, Bool, false, None, List, [], ◌∷◌, ◌++◌, refl, sym, ap, ◌∙◌, append-nil, arith, encode_utf8}
use Rattle.std.specs.Char.{IsScalar}
use Rattle.std.specs.Str.Lossy.{utf8_error_len}
use Rattle.std.proofs.lemmas.Bool.Decides.{nat_tests}
use Rattle.std.proofs.lemmas.Str.{encode_ascii}
use Rattle.bstr.specs.Utf8.{decoded}
use Rattle.termwiz_keymap.specs.Bytes.{Begins}
use Rattle.termwiz_grammar.specs.Grammar.{IsBroken, IsOpen, IsUnfinishedSequence, IsUnfinishedCharacter}
use Rattle.termwiz_keymap.proofs.lemmas.lists.CommonPrefixes.{append-some_left}
use Rattle.termwiz_grammar.proofs.lemmas.characters.EndsWithinCharacter.{unfinished_from}
use Rattle.termwiz_laws.specs.BrokenBytes.{IsBrokenBefore, BeginsNoCharacter, AlwaysBroken, OnlyTheseAlwaysBroken, BrokenBeforeOther, BrokenBeforeNew, FirstByteAlone}
use Rattle.termwiz_laws.proofs.lemmas.first_bytes.EncodedBytes.{several_from, spelled_from}
use Rattle.termwiz_laws.proofs.lemmas.first_bytes.NoSequence.{BeginsSequence, none_begins, none_unfinished}

pub high_begins_none : (byte : ℕ) → 0x80 ≤ byte → BeginsSequence byte → ⊥
high_begins_none byte high begins = ⊎_elim
    (λ (low : (0 < byte) × (byte < 28)). omega (arith, low.1)) (λ (last : byte ≡ 127). omega arith) begins

-- A byte from 0x80 on is broken before S if no encoding that begins with it begins the text or goes on after it.
pub broken_before : (byte : ℕ) (S : List ℕ) (f : Bool) → 0x80 ≤ byte
    → ((c : ℕ) → IsScalar c → ¬ Begins (encode_utf8 c) (byte ∷ S))
    → (IsOpen (byte ∷ S) f → ¬ IsUnfinishedCharacter (byte ∷ S))
    → IsBrokenBefore byte S f
broken_before byte S f high unspelled finished = (
  record {
    no_sequence = λ text m k begins. none_begins byte S text m (high_begins_none byte high) k begins;
    unspelled = unspelled;
    begins = (S, refl);
  },
  λ opens. ⊎_elim
      (λ (h : IsUnfinishedSequence (byte ∷ S)). none_unfinished byte S (high_begins_none byte high) h)
      (λ (h : IsUnfinishedCharacter (byte ∷ S)). finished opens h)
      opens.beginning,
)

no_first_byte : (c byte : ℕ) (t : List ℕ) → IsScalar c → BeginsNoCharacter byte → encode_utf8 c ≡ byte ∷ t → ⊥
no_first_byte c byte t scalar none e = ⊎_elim
    (λ (low : (0x80 ≤ byte) × (byte < 0xC2)).
    let it = several_from c byte t scalar low.0 e in omega (arith, low.1, it.0))
    (λ (high : 0xF4 < byte). let it = several_from c byte t scalar (omega arith) e in omega (arith, it.1))
    none

pub no_character_high : (byte : ℕ) → BeginsNoCharacter byte → 0x80 ≤ byte
no_character_high byte none = ⊎_elim (λ (low : (0x80 ≤ byte) × (byte < 0xC2)). low.0) (λ (high : 0xF4 < byte). omega arith) none

pub always_broken : AlwaysBroken
always_broken byte S f none = broken_before byte S f (no_character_high byte none)
    (λ c scalar b. let it = spelled_from c byte S b in no_first_byte c byte it.after scalar none it.spells)
    (λ opens h. no_first_byte h.char byte (S ++ h.tail) h.scalar none h.spells)

pub broken_high : (byte : ℕ) (S : List ℕ) → IsBroken (byte ∷ S) byte → 0x80 ≤ byte
broken_high byte S is = ⊎_elim
    (λ (low : byte < 0x80). absurd (is.unspelled byte (search (arith)) (S, ap (λ t. t ++ S) (sym (encode_ascii byte low)))))
    (λ (high : 0x80 ≤ byte). high)
    (below_or_not byte 0x80)
  where
    below_or_not : (a b : ℕ) → (a < b) ⊎ (b ≤ a)
    below_or_not a b = grind arith

-- the other bytes from 0x80 on begin characters
undecoded : (byte : ℕ) → 0xC2 ≤ byte → byte ≤ 0xF4 → (decoded (byte ∷ [])).char ≡ None
undecoded byte low high = grind (arith, nat_tests)

unended : (byte : ℕ) → 0xC2 ≤ byte → byte ≤ 0xF4 → utf8_error_len (byte ∷ []) ≡ None
unfolding utf8_error_len
unended byte low high = grind (arith, nat_tests)

begins_some : (byte : ℕ) → 0xC2 ≤ byte → byte ≤ 0xF4 → IsUnfinishedCharacter (byte ∷ [])
begins_some byte low high =
    unfinished_from (byte ∷ []) (λ e. cc (e)) (undecoded byte low high) (unended byte low high)

first_of_some : (byte : ℕ) → 0xC2 ≤ byte → byte ≤ 0xF4 → ((S : List ℕ) → IsBroken (byte ∷ S) byte) → ⊥
first_of_some byte low high broken =
    let h = begins_some byte low high in
    (broken h.tail).unspelled h.char h.scalar ([], sym h.spells ∙ sym (append-nil (encode_utf8 h.char)))

three_ways : (byte : ℕ) → 0x80 ≤ byte → (byte < 0xC2) ⊎ ((0xC2 ≤ byte) × (byte ≤ 0xF4)) ⊎ (0xF4 < byte)
three_ways byte high = grind arith

pub only_these : OnlyTheseAlwaysBroken
only_these byte broken =
    let high = broken_high byte [] (broken []) in
    ⊎_elim (λ (low : byte < 0xC2). inl (high, low))
    (λ (other : ((0xC2 ≤ byte) × (byte ≤ 0xF4)) ⊎ (0xF4 < byte)). ⊎_elim
    (λ (some : (0xC2 ≤ byte) × (byte ≤ 0xF4)). absurd (first_of_some byte some.0 some.1 broken))
    (λ (past : 0xF4 < byte). inr past)
    other)
    (three_ways byte high)

pub before_other : BrokenBeforeOther
before_other byte next S f high never = broken_before byte (next ∷ S) f high
    (λ c scalar b. let it = spelled_from c byte (next ∷ S) b in go c scalar it.after it.rest it.spells it.splits)
    (λ opens h. never h.char (S ++ h.tail) h.scalar h.spells)
  where
    go : (c : ℕ) → IsScalar c → (t r : List ℕ) → encode_utf8 c ≡ byte ∷ t → next ∷ S ≡ t ++ r → ⊥
    go c scalar [] r e f = (several_from c byte [] scalar high e).2 refl
    go c scalar (y ∷ t) r e f =
        let same : y ≡ next = cc (f) in never c t scalar (e ∙ ap (λ z. byte ∷ z ∷ t) same)

pub before_new : BrokenBeforeNew
before_new byte next S f high other =
    before_other byte next S f high (λ c tail scalar e. other (several_from c byte (next ∷ tail) scalar high e).3.0)

-- an encoding of several bytes begins no single byte
one_byte_unspelled : (byte c : ℕ) → 0x80 ≤ byte → IsScalar c → Begins (encode_utf8 c) (byte ∷ []) → ⊥
one_byte_unspelled byte c high scalar b =
    let it = spelled_from c byte [] b in
    append-some_left it.after it.rest (several_from c byte it.after scalar high it.spells).2 (sym it.splits)

pub first_byte_alone : FirstByteAlone
first_byte_alone byte low high =
    let above : 0x80 ≤ byte = omega arith in (
      (broken_before byte [] false above (λ c scalar b. one_byte_unspelled byte c above scalar b)
          (λ opens h. cc (opens.more_comes))).0,
      record {
        steps = refl;
        rest = λ bytes event stands. stands.closed (record {
          more_comes = refl;
          some = λ e. cc (e);
          beginning = inr (begins_some byte low high);
        });
      },
    )
