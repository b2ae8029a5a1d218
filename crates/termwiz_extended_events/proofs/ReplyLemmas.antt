-- What is read of a reply, one part after the other, and how large the number of a few hexadecimal digits is.
use Rattle.std.proofs.Common.{◌≡◌, ℕ, ◌<◌, ◌≤◌, ◌^◌, zero, suc, List, [], ◌∷◌, ◌++◌, append_assoc, refl, arith, lit≤, Option, Some, None}
use Rattle.std.specs.Prelude.{option_map}
use Rattle.termwiz_extended_events.specs.Base64.{joined}
use Rattle.termwiz_extended_events.specs.ReplyValues.{with_number}

-- what stands before a number and what follows it
pub one_number_more : (front : List ℕ) (n : ℕ) (more : Option (List ℕ))
    → option_map (λ rest. front ++ rest) (with_number (Some n) more) ≡ option_map (λ rest. (front ++ n ∷ []) ++ rest) more
one_number_more front n None = refl
one_number_more front n (Some more) = rw (append_assoc front (n ∷ []) more) refl

-- what stands before bytes and what follows them
pub more_bytes : (front bytes : List ℕ) (more : Option (List ℕ))
    → option_map (λ rest. front ++ rest) (joined (Some bytes) more) ≡ option_map (λ rest. (front ++ bytes) ++ rest) more
more_bytes front bytes None = refl
more_bytes front bytes (Some more) = rw (append_assoc front bytes more) refl

-- the powers of sixteen of at most four digits
pub sixteen_power : (digits : ℕ) → digits < 5 → 16 ^ digits ≤ 65536
sixteen_power zero few = lit≤ tt
sixteen_power (suc zero) few = lit≤ tt
sixteen_power (suc (suc zero)) few = lit≤ tt
sixteen_power (suc (suc (suc zero))) few = lit≤ tt
sixteen_power (suc (suc (suc (suc zero)))) few = lit≤ tt
sixteen_power (suc (suc (suc (suc (suc n))))) few = absurd (omega arith)

-- those of at most three
pub sixteen_power_before : (digits : ℕ) → digits < 4 → 16 ^ digits ≤ 4096
sixteen_power_before zero few = lit≤ tt
sixteen_power_before (suc zero) few = lit≤ tt
sixteen_power_before (suc (suc zero)) few = lit≤ tt
sixteen_power_before (suc (suc (suc zero))) few = lit≤ tt
sixteen_power_before (suc (suc (suc (suc n)))) few = absurd (omega arith)

-- those of at least one
pub sixteen_power_some : (digits : ℕ) → 0 < digits → digits < 5 → 16 ≤ 16 ^ digits
sixteen_power_some zero some few = absurd (omega arith)
sixteen_power_some (suc zero) some few = lit≤ tt
sixteen_power_some (suc (suc zero)) some few = lit≤ tt
sixteen_power_some (suc (suc (suc zero))) some few = lit≤ tt
sixteen_power_some (suc (suc (suc (suc zero)))) some few = lit≤ tt
sixteen_power_some (suc (suc (suc (suc (suc n))))) some few = absurd (omega arith)
