-- Letters and their capitals, each of which is that of the other, and the signs that are typed with SHIFT.
use Rattle.std.proofs.Common.{◌≡◌, ◌∙◌, ⊎_elim, ℕ, ◌+◌, ◌-◌, ◌<◌, ◌≤◌, Bool, true, false, not, ◌==◌, ◌&&◌, ◌||◌, nat_le, refl, sym, ap, subst, arith, Option, Some, None}
use Rattle.std.specs.Prelude.{is_some, IsSome, if◌then◌else◌}
use Rattle.std.specs.Option.{SomeIff}
use Rattle.std.specs.Char.{is_control, is_ascii_control, is_ascii_uppercase}
use Rattle.std.proofs.lemmas.Bool.{and_parts, cases_lt}
use Rattle.std.proofs.lemmas.Bool.Decides.{nat_tests}
use Rattle.termwiz_bindings.specs.Letters.{has_near_capital, has_far_capital, capital_of, letter_of, is_shifted, is_shifted_sign, shown_with_shift}
use Rattle.termwiz_bindings.proofs.lemmas.ModifiersRead.{below_passes}

-- beyond this number no letter of the tables stands
abbrev end : ℕ
end = 1200

outside : (low high n : ℕ) → high < n → (nat_le low n && nat_le n high) ≡ false
outside low high n past = grind (arith, nat_tests)

near_ends : (n : ℕ) → end ≤ n → has_near_capital n ≡ false
unfolding has_near_capital
near_ends n past = rw (
  outside 0x61 0x7a n (omega arith),
  outside 0xe0 0xf6 n (omega arith),
  outside 0xf8 0xfe n (omega arith),
  outside 0x3b1 0x3c1 n (omega arith),
  outside 0x3c3 0x3cb n (omega arith),
  outside 0x430 0x44f n (omega arith),
) refl

far_ends : (n : ℕ) → end ≤ n → has_far_capital n ≡ false
unfolding has_far_capital
far_ends n past = outside 0x450 0x45f n (omega arith)

no_letter : (c : ℕ) → end ≤ c → letter_of c ≡ None
unfolding letter_of
no_letter c past = rw (near_ends (c + 32) (omega arith), far_ends (c + 80) (omega arith)) refl

no_capital : (c : ℕ) → end ≤ c → capital_of c ≡ None
unfolding capital_of
no_capital c past = rw (near_ends c past, far_ends c past) refl

-- the option has this number
abbrev has : Option ℕ → ℕ → Bool
has (Some n) m = n == m
has None m = false

has_it : (o : Option ℕ) (m : ℕ) → has o m ≡ true → o ≡ Some m
has_it None m is = cc
has_it (Some n) m is = let same : n ≡ m = grind (arith, nat_tests) in ap Some same

-- the letter of a capital isn't one itself: its capital is that one
abbrev fits_letter : ℕ → Option ℕ → Bool
fits_letter c (Some letter) =
    has (shown_with_shift letter) c && (not (is_some (letter_of letter)) && not (is_ascii_control letter))
fits_letter c None = true

-- the capital of a letter is no control character, and its letter is that one
abbrev fits_capital : ℕ → Option ℕ → Bool
fits_capital c (Some capital) = not (is_control capital) && has (letter_of capital) c
fits_capital c None = true

-- a capital is a character in any case, with A to Z among them, and no sign is one
abbrev fits_ascii : ℕ → Bool
fits_ascii c =
    (not (is_ascii_uppercase c) || has (letter_of c) (c + 32)) && (not (is_shifted_sign c) || not (is_some (letter_of c)))

abbrev fits : ℕ → Bool
fits c = fits_letter c (letter_of c) && (fits_capital c (capital_of c) && fits_ascii c)

all_fit : (c : ℕ) → c < end → fits c ≡ true
unfolding letter_of capital_of shown_with_shift has_near_capital has_far_capital is_shifted_sign
all_fit c low = below_passes fits end c refl low

by_range : (P : ℕ → Type 0) → ((c : ℕ) → c < end → P c) → ((c : ℕ) → end ≤ c → P c) → (c : ℕ) → P c
by_range P low high c = ⊎_elim (low c) (high c) (cases_lt c end)

pub none_is : (o : Option ℕ) → not (is_some o) ≡ true → o ≡ None
none_is None is = refl
none_is (Some n) is = cc

not_true : (b : Bool) → not b ≡ true → b ≡ false
not_true false is = refl
not_true true is = cc

implied : (b c : Bool) → (not b || c) ≡ true → b ≡ true → c ≡ true
implied true c is true_one = is
implied false c is true_one = cc

fitting : (c : ℕ) → c < end
    → (fits_letter c (letter_of c) ≡ true) × ((fits_capital c (capital_of c) ≡ true) × (fits_ascii c ≡ true))
fitting c low =
    let first = and_parts (fits_letter c (letter_of c)) (fits_capital c (capital_of c) && fits_ascii c) (all_fit c low) in
    (first.0, and_parts (fits_capital c (capital_of c)) (fits_ascii c) first.1)

-- the letter of a capital
pub record IsLetterOf (c letter : ℕ) : Type 0 where
  pub back : shown_with_shift letter ≡ Some c
  pub once : letter_of letter ≡ None
  pub plain : is_ascii_control letter ≡ false

pub letter_is : (c letter : ℕ) → letter_of c ≡ Some letter → IsLetterOf c letter
letter_is c letter = by_range (λ c. letter_of c ≡ Some letter → IsLetterOf c letter)
    (λ c low is.
    (let fit : fits_letter c (Some letter) ≡ true = subst (λ o. fits_letter c o ≡ true) is (fitting c low).0 in
    let first = and_parts (has (shown_with_shift letter) c) (not (is_some (letter_of letter)) && not (is_ascii_control letter)) fit in
    let rest = and_parts (not (is_some (letter_of letter))) (not (is_ascii_control letter)) first.1 in
    record {
      back = has_it (shown_with_shift letter) c first.0;
      once = none_is (letter_of letter) rest.0;
      plain = not_true (is_ascii_control letter) rest.1;
    }))
    (λ c past is. (let none : None ≡ Some letter = sym (no_letter c past) ∙ is in cc)) c

-- the capital of a letter
pub record IsCapitalOf (c capital : ℕ) : Type 0 where
  pub counts : is_control capital ≡ false
  pub plain : is_ascii_control capital ≡ false
  pub back : letter_of capital ≡ Some c

pub capital_is : (c capital : ℕ) → capital_of c ≡ Some capital → IsCapitalOf c capital
capital_is c capital = by_range (λ c. capital_of c ≡ Some capital → IsCapitalOf c capital)
    (λ c low is.
    (let fit : fits_capital c (Some capital) ≡ true = subst (λ o. fits_capital c o ≡ true) is (fitting c low).1.0 in
    let parts = and_parts (not (is_control capital)) (has (letter_of capital) c) fit in
    let counts : is_control capital ≡ false = not_true (is_control capital) parts.0 in
    record {
      counts = counts;
      plain = grind (arith, nat_tests);
      back = has_it (letter_of capital) c parts.1;
    }))
    (λ c past is. (let none : None ≡ Some capital = sym (no_capital c past) ∙ is in cc)) c

-- what a character is with SHIFT is no control character, if it is none itself
pub shown_plain : (c shown : ℕ) → shown_with_shift c ≡ Some shown → is_ascii_control c ≡ false → is_ascii_control shown ≡ false
unfolding shown_with_shift
shown_plain c shown is plain = go (is_shifted c) is
  where
    go : (b : Bool) → (if b then Some c else capital_of c) ≡ Some shown → is_ascii_control shown ≡ false
    go true is = let same : c ≡ shown = cc in subst (λ n. is_ascii_control n ≡ false) same plain
    go false is = (capital_is c shown is).plain

-- of a character that only the keyboard knows with SHIFT, no letter is the capital
pub not_shown : (c : ℕ) → shown_with_shift c ≡ None → letter_of c ≡ None
unfolding shown_with_shift
not_shown c is = go (letter_of c) refl is
  where
    go : (o : Option ℕ) → letter_of c ≡ o → (if is_some o || is_shifted_sign c then Some c else capital_of c) ≡ None → letter_of c ≡ None
    go None told is = told
    go (Some letter) told is = cc

-- a capital is itself with SHIFT, and so is a sign
pub shows_capital : (c letter : ℕ) → letter_of c ≡ Some letter → shown_with_shift c ≡ Some c
unfolding shown_with_shift
shows_capital c letter is = rw is refl

pub shows_sign : (c : ℕ) → is_shifted_sign c ≡ true → shown_with_shift c ≡ Some c
unfolding shown_with_shift
shows_sign c is = rw (is, or_true (is_some (letter_of c))) refl
  where
    or_true : (b : Bool) → (b || true) ≡ true
    or_true true = refl
    or_true false = refl

-- A to Z are capitals
pub ascii_capital : (c : ℕ) → is_ascii_uppercase c ≡ true → letter_of c ≡ Some (c + 32)
ascii_capital c upper =
    let low : c < end = grind (arith, nat_tests) in
    let parts = and_parts (not (is_ascii_uppercase c) || has (letter_of c) (c + 32)) (not (is_shifted_sign c) || not (is_some (letter_of c)))
    (fitting c low).1.1 in
    has_it (letter_of c) (c + 32) (implied (is_ascii_uppercase c) _ parts.0 upper)

-- and signs aren't
pub sign_no_letter : (c : ℕ) → is_shifted_sign c ≡ true → letter_of c ≡ None
sign_no_letter = by_range (λ c. is_shifted_sign c ≡ true → letter_of c ≡ None)
    (λ c low sign.
    (let parts = and_parts (not (is_ascii_uppercase c) || has (letter_of c) (c + 32)) (not (is_shifted_sign c) || not (is_some (letter_of c)))
    (fitting c low).1.1 in
    none_is (letter_of c) (implied (is_shifted_sign c) _ parts.1 sign)))
    (λ c past sign. no_letter c past)

-- the numbers of letters
near_starts : (n : ℕ) → n < 97 → not (has_near_capital n) ≡ true
unfolding has_near_capital
near_starts n low = below_passes (λ k. not (has_near_capital k)) 97 n refl low

pub near_within : (n : ℕ) → has_near_capital n ≡ true → (97 ≤ n) × (n < end)
near_within n is = (
  ⊎_elim (λ (low : n < 97). absurd (cc (near_starts n low, is))) (λ (high : 97 ≤ n). high) (cases_lt n 97),
  ⊎_elim (λ (low : n < end). low) (λ (past : end ≤ n). absurd (cc (near_ends n past, is))) (cases_lt n end),
)

pub far_within : (n : ℕ) → has_far_capital n ≡ true → (80 ≤ n) × (n < end)
unfolding has_far_capital
far_within n is =
    let parts = and_parts (nat_le 0x450 n) (nat_le n 0x45f) is in
    let least : nat_le 0x450 n ≡ true = parts.0 in
    let most : nat_le n 0x45f ≡ true = parts.1 in
    (grind (arith, nat_tests), grind (arith, nat_tests))

-- a number below those of surrogates is a character
pub made : (P : Type 0) (o : Option ℕ) (n : ℕ) → SomeIff o P n → IsSome o → o ≡ Some n
made P None n is some = cc
made P (Some c) n is some = ap Some is.1

pub near_capital : (c : ℕ) → has_near_capital c ≡ true → capital_of c ≡ Some (c - 32)
unfolding capital_of
near_capital c near = rw near refl

pub far_capital : (c : ℕ) → has_near_capital c ≡ false → has_far_capital c ≡ true → capital_of c ≡ Some (c - 80)
unfolding capital_of
far_capital c other far = rw (other, far) refl

pub near_letter : (c : ℕ) → has_near_capital (c + 32) ≡ true → letter_of c ≡ Some (c + 32)
unfolding letter_of
near_letter c near = rw near refl

pub far_letter : (c : ℕ) → has_near_capital (c + 32) ≡ false → has_far_capital (c + 80) ≡ true → letter_of c ≡ Some (c + 80)
unfolding letter_of
far_letter c other far = rw (other, far) refl
