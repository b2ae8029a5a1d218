-- The bytes of characters' encodings: one below 128, or a first one from 0xC2 to 0xF4 and then those from 0x80 to 0xBF.
use Rattle.std.proofs.Common.{◌≡◌, ◌≢◌, le-ltb, lt-ltb, ◌⊎◌, inl, inr, ⊎_elim, ℕ, ◌<◌, ◌≤◌, List, [], ◌∷◌, ◌++◌, refl, ap, ◌∙◌, subst, arith}
use Rattle.std.specs.List.{AllByRecursion}
use Rattle.std.specs.Char.{IsScalar, encode_utf8}
use Rattle.std.proofs.lemmas.Str.{encode_ascii}
use Rattle.std.proofs.Math.Utf8.{scalar_cases}
use Rattle.termwiz_keymap.specs.Bytes.{Begins}
use Rattle.termwiz_grammar.proofs.lemmas.items.ItemStable.{encode_some}
use Rattle.termwiz_laws.specs.BrokenBytes.{GoesOn}

abbrev pub IsSeveral : List ℕ → Type 0
IsSeveral [] = ⊥
IsSeveral (x ∷ t) = (0xC2 ≤ x) × (x < 0xF5) × (t ≢ []) × AllByRecursion GoesOn t

below_or_not : (a b : ℕ) → (a < b) ⊎ (b ≤ a)
below_or_not a b = grind arith

pub encode_forms : (c : ℕ) → IsScalar c → ((c < 128) × (encode_utf8 c ≡ c ∷ [])) ⊎ IsSeveral (encode_utf8 c)
unfolding encode_utf8
encode_forms c scalar =
    let top : c < 1114112 =
    ⊎_elim (λ (l : c < 55296). omega arith) (λ (h : (57344 ≤ c) × (c < 1114112)). h.1) (scalar_cases c scalar) in
    ⊎_elim
    (λ (first : c < 128). inl (first, encode_ascii c first))
    (λ (a : 128 ≤ c). inr (⊎_elim
    (λ (two : c < 2048). rw (le-ltb c 128 a, lt-ltb c 2048 two)
    (omega arith, omega arith, (λ e. cc (e)), ((omega arith, omega arith), tt)))
    (λ (b : 2048 ≤ c). ⊎_elim
    (λ (three : c < 65536). rw (le-ltb c 128 a, le-ltb c 2048 b, lt-ltb c 65536 three)
    (omega arith, omega arith, (λ e. cc (e)), ((omega arith, omega arith), ((omega arith, omega arith), tt))))
    (λ (four : 65536 ≤ c). rw (le-ltb c 128 a, le-ltb c 2048 b, le-ltb c 65536 four) (
      omega arith,
      omega arith,
      (λ e. cc (e)),
      ((omega arith, omega arith), ((omega arith, omega arith), ((omega arith, omega arith), tt))),
    ))
    (below_or_not c 65536))
    (below_or_not c 2048)))
    (below_or_not c 128)

-- an encoding of several bytes, by its first one
pub several_from : (c byte : ℕ) (t : List ℕ) → IsScalar c → 0x80 ≤ byte → encode_utf8 c ≡ byte ∷ t → IsSeveral (byte ∷ t)
several_from c byte t scalar high e = ⊎_elim
    (λ (one : (c < 128) × (encode_utf8 c ≡ c ∷ [])).
    let same : byte ≡ c = cc (e, one.1) in absurd (omega (arith, one.0)))
    (λ (several : IsSeveral (encode_utf8 c)). subst IsSeveral e several)
    (encode_forms c scalar)

-- an encoding that begins a text begins with the text's first byte
pub record SpelledFrom (c byte : ℕ) (S : List ℕ) : Type 0 where
  pub after : List ℕ
  pub rest : List ℕ
  pub spells : encode_utf8 c ≡ byte ∷ after
  pub splits : S ≡ after ++ rest

pub spelled_from : (c byte : ℕ) (S : List ℕ) → Begins (encode_utf8 c) (byte ∷ S) → SpelledFrom c byte S
spelled_from c byte S b = go (encode_utf8 c) refl
  where
    go : (u : List ℕ) → encode_utf8 c ≡ u → SpelledFrom c byte S
    go [] e = absurd (encode_some c e)
    go (x ∷ t) e =
        let whole : byte ∷ S ≡ x ∷ t ++ b.0 = b.1 ∙ ap (λ z. z ++ b.0) e in
        let same : x ≡ byte = cc (whole) in
        record { after = t; rest = b.0; spells = e ∙ ap (λ z. z ∷ t) same; splits = cc (whole) }
