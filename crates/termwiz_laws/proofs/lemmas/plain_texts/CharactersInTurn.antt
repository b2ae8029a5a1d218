-- Characters with which no sequence begins are items, one after another.
use Rattle.std.proofs.Common.{◌≡◌, ◌⊎◌, inl, inr, ⊎_elim, ℕ, ◌<◌, ◌≤◌, Bool, false, List, [], ◌∷◌, ◌++◌, refl, sym, ap, ◌∙◌, subst, append_assoc, append-nil, arith, encode_utf8}
use Rattle.std.specs.Prelude.{encode_utf8_all, All}
use Rattle.std.proofs.lemmas.List.Elements.{All-head, All-tail}
use Rattle.std.proofs.lemmas.Str.{encode_same, encode_ascii}
use Rattle.termwiz_keys.specs.Keys.{plain}
use Rattle.termwiz_keys.specs.declared.types.InputEvent.{InputEvent}
use Rattle.termwiz_keys.specs.declared.types.InputEvent.TheVariants.{Key}
use Rattle.termwiz_keymap.specs.Bytes.{Begins}
use Rattle.termwiz_grammar.specs.Grammar.{IsUnfinishedSequence, IsUnfinishedCharacter, Stands, Steps, Means}
use Rattle.termwiz_grammar.specs.Grammar.Item.{char}
use Rattle.termwiz_grammar.specs.Pauses.{joined}
use Rattle.termwiz_keymap.proofs.lemmas.lists.CommonPrefixes.{append-some}
use Rattle.termwiz_grammar.proofs.lemmas.cuts.ChunkInvariance.{cut_independent, steps_join}
use Rattle.termwiz_grammar.proofs.lemmas.items.OneItem.{read_of, steps_once}
use Rattle.termwiz_grammar.proofs.lemmas.read_back.WholeTexts.{row_means}
use Rattle.termwiz_grammar.proofs.lemmas.waiting.RestShape.{empty_is_rest}
use Rattle.termwiz_laws.specs.PlainTexts.{IsTextCharacter, keys_of, PlainTextAlone, PlainTextInStream, PlainTextInReads, TextCharacters}
use Rattle.termwiz_laws.proofs.lemmas.first_bytes.EncodedBytes.{IsSeveral, encode_forms}
use Rattle.termwiz_laws.proofs.lemmas.first_bytes.NoSequence.{BeginsSequence, none_begins, none_unfinished}
use Rattle.termwiz_laws.proofs.lemmas.many_reads.JoinedReads.{reads_are_one_text}
use Rattle.termwiz_laws.proofs.lemmas.plain_texts.ControlRows.{other_key}

-- the first byte of an encoding, with which no sequence begins
record FirstByte (c : ℕ) : Type 0 where
  first : ℕ
  after : List ℕ
  spells : encode_utf8 c ≡ first ∷ after
  other : BeginsSequence first → ⊥

not_beginning : (c : ℕ) → IsTextCharacter c → BeginsSequence c → ⊥
not_beginning c is begins = ⊎_elim
    (λ (low : (0 < c) × (c < 28)). ⊎_elim (λ (none : c ≡ 0). omega (arith, low.0)) (λ (high : 28 ≤ c). omega (arith, low.1)) is.1)
    (λ (last : c ≡ 127). is.2 last)
    begins

several_first : (c : ℕ) (u : List ℕ) → encode_utf8 c ≡ u → IsSeveral u → FirstByte c
several_first c [] e several = absurd several
several_first c (x ∷ u) e several = record {
  first = x;
  after = u;
  spells = e;
  other = λ begins. ⊎_elim (λ (low : (0 < x) × (x < 28)). omega (arith, low.1, several.0))
      (λ (last : x ≡ 127). omega (arith, several.0)) begins;
}

first_byte_of : (c : ℕ) → IsTextCharacter c → FirstByte c
first_byte_of c is = ⊎_elim
    (λ (one : (c < 128) × (encode_utf8 c ≡ c ∷ [])).
    let it : FirstByte c = record { first = c; after = []; spells = one.1; other = not_beginning c is } in it)
    (λ (several : IsSeveral (encode_utf8 c)). several_first c (encode_utf8 c) refl several)
    (encode_forms c is.0)

-- a character's encoding properly begins no other's
encoding_ends : (c : ℕ) (S : List ℕ) → IsUnfinishedCharacter (encode_utf8 c ++ S) → ⊥
encoding_ends c S h =
    let both : encode_utf8 h.char ++ [] ≡ encode_utf8 c ++ (S ++ h.tail) =
    append-nil (encode_utf8 h.char) ∙ h.spells ∙ append_assoc (encode_utf8 c) S h.tail in
    append-some S h.tail h.longer (sym (encode_same h.char c [] (S ++ h.tail) both).1)

pub text_character_stands : (c : ℕ) (S : List ℕ) (f : Bool) → IsTextCharacter c
    → Stands (encode_utf8 c ++ S) f (encode_utf8 c) (Key (plain c))
text_character_stands c S f is =
    let b = first_byte_of c is in
    let whole : encode_utf8 c ++ S ≡ b.first ∷ b.after ++ S = ap (λ x. x ++ S) b.spells in
    record {
      closed = λ opens. ⊎_elim
          (λ (h : IsUnfinishedSequence (encode_utf8 c ++ S)). none_unfinished b.first (b.after ++ S) b.other
          (subst IsUnfinishedSequence whole h))
          (λ (h : IsUnfinishedCharacter (encode_utf8 c ++ S)). encoding_ends c S h)
          opens.beginning;
      item = char c (record {
        no_sequence = λ text m k begins. none_begins b.first (b.after ++ S) text m b.other k
            (subst (λ x. Begins text x) whole begins);
        scalar = is.0;
        begins = (S, refl);
      });
    }

pub text_steps : (chars S : List ℕ) (f : Bool) → All IsTextCharacter chars
    → Steps (encode_utf8_all chars ++ S) f (keys_of chars) S
text_steps [] S f are = refl
text_steps (c ∷ chars) S f are =
    let after : List ℕ = encode_utf8_all chars ++ S in
    let whole : (encode_utf8 c ++ encode_utf8_all chars) ++ S ≡ encode_utf8 c ++ after =
    append_assoc (encode_utf8 c) (encode_utf8_all chars) S in (
      encode_utf8 c,
      after,
      subst (λ x. Stands x f (encode_utf8 c) (Key (plain c))) (sym whole)
          (text_character_stands c after f (All-head IsTextCharacter c chars are)),
      whole,
      text_steps chars S f (All-tail IsTextCharacter c chars are),
    )

text_then : (chars S W : List ℕ) (D : List InputEvent) (f : Bool) → All IsTextCharacter chars → Means S f D W
    → Means (encode_utf8_all chars ++ S) f (keys_of chars ++ D) W
text_then chars S W D f are m = record {
  steps = steps_join (keys_of chars) D (encode_utf8_all chars ++ S) S W f (text_steps chars S f are) m.steps;
  rest = m.rest;
}

pub plain_text_alone : PlainTextAlone
plain_text_alone chars f are =
    subst (λ x. Means (encode_utf8_all chars) f x []) (append-nil (keys_of chars))
    (subst (λ x. Means x f (keys_of chars ++ []) []) (append-nil (encode_utf8_all chars))
    (text_then chars [] [] [] f are (record { steps = refl; rest = empty_is_rest f })))

pub plain_text_in_stream : PlainTextInStream
plain_text_in_stream T chars S W E D f are before after =
    subst (λ x. Means x f (E ++ keys_of chars ++ D) W) (sym (append_assoc T (encode_utf8_all chars) S))
    (subst (λ x. Means (T ++ (encode_utf8_all chars ++ S)) f x W) (sym (append_assoc E (keys_of chars) D))
    (cut_independent T (encode_utf8_all chars ++ S) [] W E (keys_of chars ++ D) f before
    (text_then chars S W D f are after)))

pub plain_text_in_reads : PlainTextInReads
plain_text_in_reads chars parts last W E f are cut =
    let both = reads_are_one_text parts [] last W E f in
    let means = plain_text_alone chars f are in (
      λ reads. steps_once E (keys_of chars) (encode_utf8_all chars) W [] f
          (read_of (subst (λ x. Means x f E W) cut (both.0 reads))) (read_of means),
      λ same. both.1
          (subst (λ x. Means (joined parts ++ last) f x W) (sym same.0)
          (subst (λ x. Means (joined parts ++ last) f (keys_of chars) x) (sym same.1)
          (subst (λ x. Means x f (keys_of chars) []) (sym cut) means))),
    )

-- where a sequence begins with a character, it means another key
own_meaning : (c : ℕ) → BeginsSequence c → Means (encode_utf8 c) false (Key (plain c) ∷ []) [] → ⊥
own_meaning c begins means =
    let low : c < 128 = ⊎_elim (λ (l : (0 < c) × (c < 28)). omega (arith, l.1)) (λ (l : c ≡ 127). omega arith) begins in
    let k = other_key c begins in
    let row = row_means (c ∷ []) k.key k.row (λ e. cc (e)) in
    let once = steps_once (Key k.key ∷ []) (Key (plain c) ∷ []) (c ∷ []) [] [] false (read_of row)
    (read_of (subst (λ x. Means x false (Key (plain c) ∷ []) []) (encode_ascii c low) means)) in
    let same : Key k.key ∷ [] ≡ Key (plain c) ∷ [] = once.0 in
    k.other (cc (same))

below_or_not : (a b : ℕ) → (a < b) ⊎ (b ≤ a)
below_or_not a b = grind arith

zero_or_not : (a : ℕ) → (a ≡ 0) ⊎ (0 < a)
zero_or_not a = grind arith

pub text_characters : TextCharacters
text_characters c scalar = (
  λ is. subst (λ x. Means x false (Key (plain c) ∷ []) []) (append-nil (encode_utf8 c))
      (record { steps = (encode_utf8 c, [], text_character_stands c [] false is, refl, refl); rest = empty_is_rest false }),
  λ means. (
    scalar,
    ⊎_elim (λ (none : c ≡ 0). inl none) (λ (some : 0 < c). ⊎_elim
        (λ (low : c < 28). absurd (own_meaning c (inl (some, low)) means)) (λ (high : 28 ≤ c). inr high) (below_or_not c 28))
        (zero_or_not c),
    λ last. own_meaning c (inr last) means,
  ),
)
