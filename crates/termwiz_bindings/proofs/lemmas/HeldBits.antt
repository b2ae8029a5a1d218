-- The bits of the modifiers that are held.
use Rattle.std.proofs.Common.{◌≡◌, ◌∙◌, ℕ, ◌<◌, ◌≤◌, ◌%◌, Bool, true, false, not, ◌==◌, ◌||◌, bit_and, bit_or, refl, ap, subst, arith}
use Rattle.std.proofs.lemmas.Nat.{and_assoc, and_le_r, and_mask, and_or_self, and_or_apart, or_lt}
use Rattle.std.proofs.lemmas.Bool.Decides.{nat_tests}
use Rattle.std.specs.Int.Bits.{and_zero_r}
use Rattle.termwiz_bindings.proofs.lemmas.ModifiersRead.{below_passes}
use Rattle.termwiz_bindings.specs.Presses.{has_shift, with_shift, without_shift, all_but_locks, is_strong}

-- the bits are those of modifiers, without the locks
abbrev pub IsHeld : ℕ → Type 0
IsHeld held = bit_and held all_but_locks ≡ held

pub held_below : (held : ℕ) → IsHeld held → held < 64
held_below held is =
    let most : bit_and held 63 ≤ 63 = and_le_r held 63 in
    let below : held ≤ 63 = subst (λ n. n ≤ 63) is most in
    omega arith

pub held_from_below : (held : ℕ) → held < 64 → IsHeld held
held_from_below held below =
    let masked : bit_and held 63 ≡ held % 64 = and_mask held 6 in
    let small : held % 64 ≡ held = omega arith in
    masked ∙ small

-- without the locks
pub locks_held : (bits : ℕ) → IsHeld (bit_and bits all_but_locks)
locks_held bits = and_assoc 63 bits 63

-- one modifier more
pub more_held : (held more : ℕ) → more < 64 → IsHeld held → IsHeld (bit_or held more)
more_held held more below is = held_from_below (bit_or held more) (or_lt 6 held more (held_below held is) below)

-- some of them
pub some_held : (bits some : ℕ) → IsHeld some → IsHeld (bit_and bits some)
some_held bits some is = and_assoc 63 bits some ∙ ap (λ n. bit_and bits n) is

-- SHIFT was dropped
pub no_shift : (held : ℕ) → has_shift (without_shift held) ≡ false
no_shift held =
    let gone : bit_and (bit_and held 62) 1 ≡ 0 = and_assoc 1 held 62 ∙ and_zero_r held in
    ap (λ n. not (n == 0)) gone

pub dropped_once : (held : ℕ) → without_shift (without_shift held) ≡ without_shift held
dropped_once held = and_assoc 62 held 62

pub others_stay : (held : ℕ) → is_strong (without_shift held) ≡ is_strong held
others_stay held = ap (λ n. not (n == 0)) (and_assoc 60 held 62)

-- SHIFT was added
pub is_shifted : (held : ℕ) → has_shift (with_shift held) ≡ true
is_shifted held = ap (λ n. not (n == 0)) (and_or_self 1 held)

pub dropped_again : (held : ℕ) → without_shift (with_shift held) ≡ without_shift held
dropped_again held = and_or_apart 62 held 1 refl

-- without SHIFT and the locks there is nothing to drop
pub bare_held : (held : ℕ) → IsHeld held → has_shift held ≡ false → without_shift held ≡ held
bare_held held is none =
    let fit : (has_shift held || (without_shift held == held)) ≡ true =
    below_passes (λ h. has_shift h || (without_shift h == h)) 64 held refl (held_below held is) in
    go (has_shift held) none fit
  where
    go : (b : Bool) → b ≡ false → (b || (without_shift held == held)) ≡ true → without_shift held ≡ held
    go false bare fit = grind (arith, nat_tests)
    go true bare fit = cc
