-- The lists of the rules as the table has them.
use Rattle.std.specs.Prelude.{ℕ, List, map, fold, bit_or}
use denote.Ref.{Bor}
use Rattle.termwiz_base.specs.declared.modifiers.Modifiers.{Modifiers}
use Rattle.termwiz_keys.specs.declared.types.KeyCode.{KeyCode}
use Rattle.termwiz_grammar.specs.Table.{Suffix}

-- modifiers that are held together
abbrev pub held_together : List Modifiers → Modifiers
held_together modifiers = fold (λ held m. record { 0 = bit_or held.0 m.0 }) (record { 0 = 0 }) modifiers

-- suffixes, each with the bits of its modifiers
abbrev pub suffixes_with_bits : List (Bor (List ℕ) × Bor (List Modifiers)) → List Suffix
suffixes_with_bits suffixes = map (λ s. (s.0.now, (held_together s.1.now).0)) suffixes

-- keys, each with its text
abbrev pub keys_with_texts : List (Bor (List ℕ) × KeyCode) → List (List ℕ × KeyCode)
keys_with_texts keys = map (λ k. (k.0.now, k.1)) keys
