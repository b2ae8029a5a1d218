-- The bytes of characters' encodings, and whether a text begins with one or properly begins one.
use Rattle.std.proofs.Common.{◌≡◌, ◌≢◌, le-ltb, lt-ltb, ◌⊎◌, inl, inr, ℕ, ◌<◌, ◌≤◌, List, [], ◌∷◌, ◌++◌, length, drop, refl, sym, ap, ◌∙◌, subst, ⊎_elim, arith, Option, Some, None, length-append, append-nil}
use Rattle.std.specs.List.{AllByRecursion}
use Rattle.std.specs.Char.{IsScalar, encode_utf8}
use Rattle.std.proofs.lemmas.Str.{encode_same, encode_ascii, length-encode, len_utf8_bounds}
use Rattle.std.proofs.Math.Utf8.{scalar_cases}
use Rattle.bstr.specs.Utf8.{Decoded, decoded}
use Rattle.bstr.proofs.lemmas.EncodeLemmas.{decoded-encode}
use Rattle.bstr.proofs.lemmas.SoundLemmas.{SpellsChar-decoded}
use Rattle.termwiz_keymap.specs.Bytes.{Begins}
use Rattle.termwiz_grammar.specs.Sequences.{Meaning, IsSequence}
use Rattle.termwiz_grammar.specs.Grammar.{IsUnfinishedCharacter, IsBeginning}
use Rattle.termwiz_keymap.proofs.lemmas.lists.CommonPrefixes.{length-some, true_at_end, true_at_front, true_from}
use Rattle.termwiz_grammar.proofs.lemmas.lists.Decidable.{Decision, decide_both, decide_by, decide_lists, decide_some, same_or_not}
use Rattle.termwiz_grammar.proofs.lemmas.table.RowShape.{Bytes}
use Rattle.termwiz_grammar.proofs.lemmas.table.RowShape.Bytes.{one, more}
use Rattle.termwiz_grammar.proofs.lemmas.table.SequenceFacts.{sequence_bytes, beginnings_short}

-- a byte of a character that takes several
abbrev pub IsHigh : ℕ → Type 0
IsHigh b = (128 ≤ b) × (b < 256)

below_or_not : (a b : ℕ) → (a < b) ⊎ (b ≤ a)
below_or_not a b = grind arith

-- a character is one byte below 128, or takes only bytes from 128 on
encode_cases : (c : ℕ) → IsScalar c → ((c < 128) × (encode_utf8 c ≡ c ∷ [])) ⊎ AllByRecursion IsHigh (encode_utf8 c)
unfolding encode_utf8
encode_cases c scalar =
    let top : c < 1114112 =
    ⊎_elim (λ (l : c < 55296). omega arith) (λ (h : (57344 ≤ c) × (c < 1114112)). h.1) (scalar_cases c scalar) in
    ⊎_elim
    (λ (first : c < 128). inl (first, encode_ascii c first))
    (λ (a : 128 ≤ c). inr (⊎_elim
    (λ (two : c < 2048). rw (le-ltb c 128 a, lt-ltb c 2048 two)
    ((omega arith, omega arith), ((omega arith, omega arith), tt)))
    (λ (b : 2048 ≤ c). ⊎_elim
    (λ (three : c < 65536). rw (le-ltb c 128 a, le-ltb c 2048 b, lt-ltb c 65536 three)
    ((omega arith, omega arith), ((omega arith, omega arith), ((omega arith, omega arith), tt))))
    (λ (four : 65536 ≤ c). rw (le-ltb c 128 a, le-ltb c 2048 b, le-ltb c 65536 four) (
      (omega arith, omega arith),
      ((omega arith, omega arith), ((omega arith, omega arith), ((omega arith, omega arith), tt))),
    ))
    (below_or_not c 65536))
    (below_or_not c 2048)))
    (below_or_not c 128)

-- a character whose encoding is parted in two takes several bytes
pub parted_high : (c : ℕ) (u tail : List ℕ) → IsScalar c → u ≢ [] → tail ≢ [] → encode_utf8 c ≡ u ++ tail
    → AllByRecursion IsHigh (u ++ tail)
parted_high c u tail scalar some longer spells = ⊎_elim
    (λ (h : (c < 128) × (encode_utf8 c ≡ c ∷ [])).
    absurd
    (omega (arith, ap length h.1, ap length spells, length-append u tail, length-some u some, length-some tail longer)))
    (λ (h : AllByRecursion IsHigh (encode_utf8 c)). subst (AllByRecursion IsHigh) spells h)
    (encode_cases c scalar)

-- what properly begins a character is bytes from 128 on
pub unfinished_high : (u : List ℕ) → u ≢ [] → IsUnfinishedCharacter u → AllByRecursion IsHigh u
unfinished_high u some h = true_at_front IsHigh u h.tail (parted_high h.char u h.tail h.scalar some h.longer h.spells)

-- no sequence begins such bytes
pub sequence_low : (text u : List ℕ) (m : Meaning) → IsSequence text m → AllByRecursion IsHigh u → Begins text u → ⊥
sequence_low text u m is_sequence a b = go (sequence_bytes text m is_sequence)
  where
    go : Bytes text → ⊥
    go (one x l e) =
        let h : IsHigh x = (subst (AllByRecursion IsHigh) (b.1 ∙ ap (λ z. z ++ b.0) e) a).0 in omega arith
    go (more s n e p) =
        let h : IsHigh 27 = (subst (AllByRecursion IsHigh) (b.1 ∙ ap (λ z. z ++ b.0) e) a).0 in omega arith

-- so what begins with a sequence doesn't properly begin a character
pub sequence_finished : (text u : List ℕ) (m : Meaning) → IsSequence text m → Begins text u → u ≢ []
    → IsUnfinishedCharacter u → ⊥
sequence_finished text u m is_sequence b some h = sequence_low text u m is_sequence (unfinished_high u some h) b

-- what properly begins a sequence or a character has at most 20 bytes
pub beginning_short : (u : List ℕ) → IsBeginning u → length u ≤ 20
beginning_short u (inl h) = beginnings_short u h.tail h.meaning h.longer h.is_sequence
beginning_short u (inr h) =
    omega (arith, length-append u h.tail, ap length h.spells, length-encode h.char, len_utf8_bounds h.char)

-- a text that a character begins decodes as this character
pub begins_decoded : (u : List ℕ) (c : ℕ) → IsScalar c → Begins (encode_utf8 c) u → (decoded u).char ≡ Some c
begins_decoded u c scalar b = ap (λ x. (decoded x).char) b.1
    ∙ ap (λ (p : Decoded). p.char) (decoded-encode c b.0 scalar)

-- whether a character begins u
pub character_or_not : (u : List ℕ) → Decision ((c : ℕ) × IsScalar c × Begins (encode_utf8 c) u)
character_or_not u = go (decoded u).char refl
  where
    go : (o : Option ℕ) → (decoded u).char ≡ o → Decision ((c : ℕ) × IsScalar c × Begins (encode_utf8 c) u)
    go (Some c) e = let spelled = SpellsChar-decoded u c e in
        inl (c, spelled.scalar, (drop (decoded u).size u, spelled.bytes))
    go None e = inr (λ (c, scalar, b). cc (e, begins_decoded u c scalar b))

-- whether a text is the encoding of a character
encoding_or_not : (t : List ℕ) → Decision ((c : ℕ) × IsScalar c × (encode_utf8 c ≡ t))
encoding_or_not t = ⊎_elim
    (λ (h : (c : ℕ) × IsScalar c × Begins (encode_utf8 c) t). ⊎_elim
    (λ (e : encode_utf8 h.0 ≡ t). inl (h.0, h.1, e))
    (λ (never : encode_utf8 h.0 ≡ t → ⊥). inr (λ k.
    let same : h.0 ≡ k.0 =
    (encode_same h.0 k.0 h.2.0 [] (sym h.2.1 ∙ sym k.2 ∙ sym (append-nil (encode_utf8 k.0)))).0 in
    never (ap (λ x. encode_utf8 x) same ∙ k.2)))
    (same_or_not (encode_utf8 h.0) t))
    (λ (never : ((c : ℕ) × IsScalar c × Begins (encode_utf8 c) t) → ⊥).
    inr (λ k. never (k.0, k.1, ([], sym k.2 ∙ sym (append-nil (encode_utf8 k.0))))))
    (character_or_not t)

encode_bytes : (c : ℕ) → IsScalar c → AllByRecursion (λ b. b < 256) (encode_utf8 c)
encode_bytes c scalar = ⊎_elim
    (λ (h : (c < 128) × (encode_utf8 c ≡ c ∷ [])). subst (AllByRecursion (λ b. b < 256)) (sym h.1)
    (let l : c < 128 = h.0 in omega arith, tt))
    (λ (h : AllByRecursion IsHigh (encode_utf8 c)). true_from IsHigh (λ b. b < 256) (λ b high. high.1)
    (encode_utf8 c) h)
    (encode_cases c scalar)

-- whether a text properly begins the encoding of a character: few texts can complete it
pub unfinished_character_or_not : (u : List ℕ) → Decision (IsUnfinishedCharacter u)
unfinished_character_or_not u = decide_by
    (λ (a : (t : List ℕ) × (length t ≤ 4) × AllByRecursion (λ b. b < 256) t × ((t ≢ []) × ((c : ℕ) × IsScalar c × (encode_utf8 c ≡ u ++ t)))).
    record { tail = a.0; longer = a.3.0; char = a.3.1.0; scalar = a.3.1.1; spells = a.3.1.2 })
    (λ (a : IsUnfinishedCharacter u). (
      a.tail,
      omega (arith, length-append u a.tail, ap length a.spells, length-encode a.char, len_utf8_bounds a.char),
      true_at_end (λ b. b < 256) u a.tail
          (subst (AllByRecursion (λ b. b < 256)) a.spells (encode_bytes a.char a.scalar)),
      (a.longer, (a.char, a.scalar, a.spells)),
    ))
    (decide_lists 256 4 (λ t. (t ≢ []) × ((c : ℕ) × IsScalar c × (encode_utf8 c ≡ u ++ t)))
    (λ t. decide_both (decide_some t) (encoding_or_not (u ++ t))))
