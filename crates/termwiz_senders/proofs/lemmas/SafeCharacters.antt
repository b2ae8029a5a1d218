-- The characters of a text made safe: none is a control character but HT and CR.
use Rattle.std.proofs.Common.{◌≡◌, inl, inr, ℕ, ◌<◌, Bool, true, false, ◌&&◌, ◌||◌, nat_lt, nat_le, List, [], ◌∷◌, refl, subst, arith}
use Rattle.std.specs.Prelude.{◌==◌, All, if◌then◌else◌}
use Rattle.std.specs.Char.{IsScalar, is_control}
use Rattle.std.specs.Str.{all_scalars}
use Rattle.std.proofs.lemmas.Bool.{and_parts}
use Rattle.std.proofs.lemmas.Bool.Decides.{nat_tests}
use Rattle.std.proofs.lemmas.List.Elements.{All-nil, All-cons, All-head, All-tail}
use Rattle.termwiz_senders.specs.Pastes.{HT, LF, CR, picture, safe_character, begins_with_line_feed, safe}
use Rattle.termwiz_senders.specs.PasteLaws.{IsSafe, SafeIsUnchanged}

-- what a character becomes, and when
pub data Becomes (c : ℕ) : ℕ → Type 0 where
  tab : Becomes c HT
  line_end : Becomes c CR
  shown : c < 0x20 → Becomes c (picture c)
  delete : Becomes c 0x2421
  broken : Becomes c 0xFFFD
  itself : is_control c ≡ false → Becomes c c

pub becomes : (c : ℕ) → Becomes c (safe_character c)
unfolding safe_character
becomes c = go (c == HT) ((c == LF) || (c == CR)) (nat_lt c 0x20) (c == 0x7F) (nat_le 0x80 c && nat_le c 0x9F) refl refl refl
  where
    go : (a b l d h : Bool) → nat_lt c 0x20 ≡ l → (c == 0x7F) ≡ d → (nat_le 0x80 c && nat_le c 0x9F) ≡ h
        → Becomes c (if a then HT else (if b then CR else (if l then picture c else (if d then 0x2421 else (if h then 0xFFFD else c)))))
    go true b l d h p q r = tab
    go false true l d h p q r = line_end
    go false false true d h p q r = shown (grind (arith, nat_tests))
    go false false false true h p q r = delete
    go false false false false true p q r = broken
    go false false false false false p q r = itself (grind (arith, nat_tests))

-- none of these is a control character but HT and CR
is_safe : (c d : ℕ) → Becomes c d → IsSafe d
is_safe c d tab = inl refl
is_safe c d line_end = inr (inl refl)
is_safe c d (shown low) = inr (inr (grind (arith, nat_tests)))
is_safe c d delete = inr (inr refl)
is_safe c d broken = inr (inr refl)
is_safe c d (itself e) = inr (inr e)

is_scalar : (c d : ℕ) → IsScalar c → Becomes c d → IsScalar d
is_scalar c d scalar tab = refl
is_scalar c d scalar line_end = refl
is_scalar c d scalar (shown low) = grind (arith, nat_tests)
is_scalar c d scalar delete = refl
is_scalar c d scalar broken = refl
is_scalar c d scalar (itself e) = scalar

pub all_safe : (cs : List ℕ) → All IsSafe (safe cs)
unfolding safe
all_safe [] = All-nil IsSafe
all_safe (c ∷ cs) = go ((c == CR) && begins_with_line_feed cs) (all_safe cs)
  where
    go : (b : Bool) → All IsSafe (safe cs) → All IsSafe (if b then safe cs else safe_character c ∷ safe cs)
    go true rest = rest
    go false rest = All-cons IsSafe (safe_character c) (safe cs) (is_safe c (safe_character c) (becomes c)) rest

pub safe_scalars : (cs : List ℕ) → all_scalars cs ≡ true → all_scalars (safe cs) ≡ true
unfolding safe
safe_scalars [] are = refl
safe_scalars (c ∷ cs) are = go ((c == CR) && begins_with_line_feed cs) (safe_scalars cs both.1)
  where
    both : IsScalar c × (all_scalars cs ≡ true)
    both = and_parts _ (all_scalars cs) are

    go : (b : Bool) → all_scalars (safe cs) ≡ true → all_scalars (if b then safe cs else safe_character c ∷ safe cs) ≡ true
    go true rest = rest
    go false rest = (let first : IsScalar (safe_character c) = is_scalar c (safe_character c) both.0 (becomes c) in rw (first, rest) refl)

-- what is safe stays
kept : (c : ℕ) → IsSafe c → safe_character c ≡ c
unfolding safe_character
kept c (inl e) = rw e refl
kept c (inr (inl e)) = rw e refl
kept c (inr (inr none)) = grind (arith, nat_tests)

no_line_feed : (cs : List ℕ) → All IsSafe cs → begins_with_line_feed cs ≡ false
no_line_feed [] are = refl
no_line_feed (c ∷ cs) are = go (All-head IsSafe c cs are)
  where
    go : IsSafe c → (c == LF) ≡ false
    go (inl e) = rw e refl
    go (inr (inl e)) = rw e refl
    go (inr (inr none)) = grind (arith, nat_tests)

and_false : (a : Bool) → (a && false) ≡ false
and_false true = refl
and_false false = refl

pub all_kept : (cs : List ℕ) → All IsSafe cs → safe cs ≡ cs
unfolding safe
all_kept [] are = refl
all_kept (c ∷ cs) are =
    let later = All-tail IsSafe c cs are in
    rw (no_line_feed cs later, and_false (c == CR), kept c (All-head IsSafe c cs are), all_kept cs later) refl

pub safe_is_unchanged : SafeIsUnchanged
safe_is_unchanged cs = (λ same. subst (All IsSafe) same (all_safe cs), all_kept cs)
