-- The order of keys.
use Rattle.std.proofs.Common.{◌≡◌, ◌≢◌, ◌∙◌, ◌<◌, ◌⊎◌, ⊎_elim, inl, inr, ℕ, List, [], ◌∷◌, ◌++◌, refl, ap, arith}
use Rattle.std.specs.Ordering.{nat_cmp, ordering_then, ordering_reverse}
use Rattle.std.specs.declared.cmp.Ordering.TheVariants.{Less, Equal, Greater}
use Rattle.std.specs.Cmp.Lexicographic.{slice_cmp}
use Rattle.std.proofs.lemmas.Cmp.{ranked, nat_list_cmp_total, tied_itself}

-- a key before another in the order of bytes
abbrev pub Before : List ℕ → List ℕ → Type 0
Before x y = slice_cmp nat_cmp x y ≡ Less

-- of two keys that are in order, the first bytes are, and where they are one the rests are
pub first_bytes : (x y : ℕ) (xs ys : List ℕ) → Before (x ∷ xs) (y ∷ ys) → (x < y) ⊎ ((x ≡ y) × Before xs ys)
first_bytes x y xs ys before =
    elim (nat_cmp x y) as (λ o. o ≡ nat_cmp x y → ordering_then o (slice_cmp nat_cmp xs ys) ≡ Less
    → (x < y) ⊎ ((x ≡ y) × Before xs ys)) [
      | Less ↦ λ is _. inl (ranked x y Less is)
      | Equal ↦ λ is rest. inr (ranked x y Equal is, rest)
      | Greater ↦ λ is rest. absurd (cc (rest))
    ] refl before

-- no key is before itself
pub not_itself : (x : List ℕ) → Before x x → ⊥
not_itself x before = absurd (cc (before, tied_itself nat_list_cmp_total x))

-- the other way round
pub turned : (x y : List ℕ) → slice_cmp nat_cmp x y ≡ Greater → Before y x
turned x y greater = nat_list_cmp_total.antisymm y x ∙ ap ordering_reverse greater

-- two keys whose first bytes are in order
pub before_by_first : (x y : ℕ) (xs ys : List ℕ) → x < y → Before (x ∷ xs) (y ∷ ys)
before_by_first x y xs ys less =
    elim (nat_cmp x y) as (λ o. o ≡ nat_cmp x y → ordering_then o (slice_cmp nat_cmp xs ys) ≡ Less) [
      | Less ↦ λ is. refl
      | Equal ↦ λ is. absurd (let same : x ≡ y = ranked x y Equal is in omega arith)
      | Greater ↦ λ is. absurd (let more : y < x = ranked x y Greater is in omega arith)
    ] refl

-- two keys with the same first byte, whose rests are in order
pub before_by_rest : (x : ℕ) (xs ys : List ℕ) → Before xs ys → Before (x ∷ xs) (x ∷ ys)
before_by_rest x xs ys before =
    elim (nat_cmp x x) as (λ o. o ≡ nat_cmp x x → ordering_then o (slice_cmp nat_cmp xs ys) ≡ Less) [
      | Less ↦ λ is. refl
      | Equal ↦ λ is. before
      | Greater ↦ λ is. absurd (let more : x < x = ranked x x Greater is in omega arith)
    ] refl

-- what begins a text isn't after it
pub not_after : (q x : List ℕ) → Before (q ++ x) q → ⊥
not_after [] [] before = cc (before)
not_after [] (b ∷ x) before = cc (before)
not_after (a ∷ q) x before =
    ⊎_elim (λ (less : a < a). absurd (omega arith)) (λ p. not_after q x p.1) (first_bytes a a (q ++ x) q before)

-- two keys that begin with the same bytes are in the order of their rests
pub rests_before : (q x y : List ℕ) → Before (q ++ x) (q ++ y) → Before x y
rests_before [] x y before = before
rests_before (a ∷ q) x y before = ⊎_elim (λ (less : a < a). absurd (omega arith))
    (λ p. rests_before q x y p.1) (first_bytes a a (q ++ x) (q ++ y) before)

-- a text is before what begins with it and is longer
pub before_longer : (q x : List ℕ) → x ≢ [] → Before q (q ++ x)
before_longer [] [] some = absurd (some refl)
before_longer [] (b ∷ x) some = refl
before_longer (a ∷ q) x some = before_by_rest a q (q ++ x) (before_longer q x some)
