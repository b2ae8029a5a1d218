-- A byte from 128 on, first in a text or after an ESC.
use Rattle.std.proofs.Common.{◌≡◌, inl, inr, ⊎_elim, ℕ, List, [], ◌∷◌, refl, ap, arith}
use Rattle.termwiz_input.specs.Matches.{BeginsWithHighByte}
use Rattle.termwiz_grammar.proofs.lemmas.waiting.RestKinds.{CharacterBytes}

pub high_bytes : (u : List ℕ) → BeginsWithHighByte u → CharacterBytes u
high_bytes [] is = absurd (⊎_elim (λ a. omega (arith, a.0)) (λ b. omega (arith, b.0)) is)
high_bytes (x ∷ []) is = ⊎_elim
    (λ a. record { first = x; after = []; high = a.1; spells = inl refl })
    (λ b. absurd (omega (arith, b.0))) is
high_bytes (x ∷ y ∷ u) is = ⊎_elim
    (λ a. record { first = x; after = y ∷ u; high = a.1; spells = inl refl })
    (λ b. record { first = y; after = u; high = b.2; spells = inr (ap (λ z. z ∷ y ∷ u) b.1) }) is

pub begins_high : (u : List ℕ) → CharacterBytes u → BeginsWithHighByte u
begins_high u c = ⊎_elim
    (λ (a : u ≡ c.first ∷ c.after). rw a (inl (omega arith, c.high)))
    (λ (b : u ≡ 27 ∷ c.first ∷ c.after). rw b (inr (omega arith, refl, c.high))) c.spells
