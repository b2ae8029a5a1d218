-- Each plain byte is an item of its own.
use Rattle.std.proofs.Common.{◌≡◌, ◌∙◌, ℕ, ◌+◌, ◌<◌, Bool, List, [], ◌∷◌, ◌++◌, length, refl, sym, ap, subst, arith}
use Rattle.std.specs.List.{AllByRecursion}
use Rattle.std.specs.Char.{encode_utf8}
use Rattle.std.proofs.lemmas.Str.{encode_same, encode_ascii}
use Rattle.termwiz_keymap.specs.Bytes.{Begins}
use Rattle.termwiz_keys.specs.declared.types.InputEvent.{InputEvent}
use Rattle.termwiz_grammar.specs.Sequences.{Meaning, IsSequence}
use Rattle.termwiz_grammar.specs.Grammar.{Head, IsHead, bytes_of, Item, Steps}
use Rattle.termwiz_grammar.specs.Grammar.Head.{Sequence, Character, Broken}
use Rattle.termwiz_grammar.proofs.lemmas.mouse.OneReport.{IsPlain}
use Rattle.termwiz_grammar.proofs.lemmas.table.RowShape.{Bytes}
use Rattle.termwiz_grammar.proofs.lemmas.table.RowShape.Bytes.{one, more}
use Rattle.termwiz_grammar.proofs.lemmas.table.SequenceFacts.{sequence_bytes}
use Rattle.termwiz_grammar.proofs.lemmas.items.OneItem.{Gives, reads}
use Rattle.termwiz_grammar.proofs.lemmas.waiting.RestShape.{empty_is_rest}

-- no sequence begins with a plain byte
no_plain_sequence : (y : ℕ) (t s : List ℕ) (m : Meaning) → IsPlain y → IsSequence s m → Begins s (y ∷ t) → ⊥
no_plain_sequence y t s m plain is b = go (sequence_bytes s m is)
  where
    go : Bytes s → ⊥
    go (one x l e) = (let same : y ≡ x = cc (b.1 ∙ ap (λ z. z ++ b.0) e) in omega (arith, plain.0, plain.1, l))
    go (more t n e p) = (let same : y ≡ 27 = cc (b.1 ∙ ap (λ z. z ++ b.0) e) in omega (arith, plain.0))

-- the head of plain bytes is one of them
pub plain_head : (y : ℕ) (t : List ℕ) (h : Head) → IsPlain y → IsHead (y ∷ t) h → length (bytes_of h) ≡ 1
plain_head y t (Sequence s m) plain is = absurd (no_plain_sequence y t s m plain is.is_sequence is.begins)
plain_head y t (Character c) plain is =
    let small : y < 128 = omega (arith, plain.1) in
    let same : c ≡ y =
    (encode_same c y is.begins.0 t (sym is.begins.1 ∙ ap (λ z. z ++ t) (sym (encode_ascii y small)))).0 in
    ap (λ d. length (encode_utf8 d)) same ∙ ap length (encode_ascii y small)
plain_head y t (Broken b) plain is = refl

-- an item at a plain byte is this byte
plain_item : (y : ℕ) (t bytes : List ℕ) (event : InputEvent) (f : Bool) → IsPlain y → Item (y ∷ t) f bytes event
    → length bytes ≡ 1
plain_item y t bytes event f plain item = (let g = reads (y ∷ t) bytes event f item in go g.0 g.1 g.2)
  where
    go : (h : Head) → IsHead (y ∷ t) h → Gives (y ∷ t) f h bytes event → length bytes ≡ 1
    go (Sequence s m) is gives = absurd (no_plain_sequence y t s m plain is.is_sequence is.begins)
    go (Character c) is gives = ap length gives.0 ∙ plain_head y t (Character c) plain is
    go (Broken b) is gives = ap length gives.0

one_byte : (y : ℕ) (t bytes rest : List ℕ) → length bytes ≡ 1 → y ∷ t ≡ bytes ++ rest → t ≡ rest
one_byte y t [] rest l e = absurd (omega (arith, l))
one_byte y t (x ∷ []) rest l e = cc (e)
one_byte y t (x ∷ z ∷ bytes) rest l e = absurd (omega (arith, l))

-- so plain bytes give as many events as they are, less what is left
pub plain_count : (E : List InputEvent) (T W : List ℕ) (f : Bool) → AllByRecursion IsPlain T → Steps T f E W
    → length T ≡ length E + length W
plain_count [] T W f plain h = omega (arith, ap length h)
plain_count (e ∷ E) [] W f plain (bytes, rest, stands, splits, steps) = absurd (empty_is_rest f bytes e stands)
plain_count (e ∷ E) (y ∷ T) W f plain (bytes, rest, stands, splits, steps) =
    let same : T ≡ rest = one_byte y T bytes rest (plain_item y T bytes e f plain.0 stands.item) splits in
    omega (arith, plain_count E T W f plain.1 (subst (λ t. Steps t f E W) (sym same) steps))
