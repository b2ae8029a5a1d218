-- Numbers that are written in decimal are read back.
use Rattle.std.proofs.Common.{◌≡◌, ℕ, ◌+◌, ◌-◌, ◌*◌, ◌/◌, ◌%◌, ◌^◌, ◌<◌, ◌≤◌, Bool, true, false, ◌&&◌, List, [], ◌∷◌, ◌++◌, length, refl, ◌∙◌, arith, lit<, nat_lt, nat_le, decimal, Some, length-append, lt_trans}
use Rattle.std.specs.List.{AllByRecursion, list_all}
use Rattle.std.specs.Char.{is_ascii_digit}
use Rattle.std.proofs.lemmas.Fmt.{decimal_by_steps, length-decimal-le}
use Rattle.std.proofs.lemmas.Bool.{and_parts}
use Rattle.std.proofs.lemmas.Bool.Decides.{nat_tests}
use Rattle.std.proofs.lemmas.List.Sums.{fold-append}
use Rattle.termwiz_grammar.specs.MouseReports.{IsDigit, value_of}
use Rattle.termwiz_extended_events.specs.Numbers.{number, number_within, scalar, is_scalar}
use Rattle.termwiz_extended_grammar.proofs.lemmas.forms.FormBytes.{all_append}

-- decimal digits of a number
pub record IsDecimal (n : ℕ) (ds : List ℕ) : Type 0 where
  pub each : AllByRecursion IsDigit ds
  pub value : value_of ds ≡ n
  pub some : 0 < length ds

one_digit : (n : ℕ) → n < 10 → IsDecimal n ((48 + n) ∷ [])
one_digit n h = record { each = ((omega arith, omega arith), tt); value = omega arith; some = omega arith }

more_digits : (n : ℕ) (ds : List ℕ) → 10 ≤ n → IsDecimal (n / 10) ds → IsDecimal n (ds ++ (48 + n % 10) ∷ [])
more_digits n ds h is = record {
  each = all_append IsDigit ds ((48 + n % 10) ∷ []) is.each ((omega arith, omega arith), tt);
  value = fold-append (λ (m b : ℕ). m * 10 + (b - 48)) 0 ds ((48 + n % 10) ∷ []) ∙ last;
  some = omega (arith, length-append ds ((48 + n % 10) ∷ []));
}
  where
    last : value_of ds * 10 + ((48 + n % 10) - 48) ≡ n
    last = omega (arith, is.value)

pub decimal_is : (n : ℕ) → n < 2 ^ 64 → IsDecimal n (decimal n)
decimal_is n h = decimal_by_steps IsDecimal one_digit more_digits n h

digits_pass : (ds : List ℕ) → AllByRecursion IsDigit ds → list_all is_ascii_digit ds ≡ true
digits_pass [] a = refl
digits_pass (d ∷ ds) a =
    let first : IsDigit d = a.0 in
    let here : is_ascii_digit d ≡ true = grind (arith, nat_tests) in
    rw (here, digits_pass ds a.1) refl

-- digits of a number within limits are read as that number
pub number_of_digits : (most least limit n : ℕ) (ds : List ℕ) → IsDecimal n ds → length ds ≤ most → least ≤ n → n ≤ limit
    → number_within most least limit ds ≡ Some n
unfolding number_within
number_of_digits most least limit n ds is short low high =
    let some : nat_lt 0 (length ds) ≡ true = grind (arith, nat_tests, is.some) in
    let few : nat_le (length ds) most ≡ true = grind (arith, nat_tests) in
    let above : nat_le least n ≡ true = grind (arith, nat_tests) in
    let below : nat_le n limit ≡ true = grind (arith, nat_tests) in
    rw (some, few, digits_pass ds is.each, is.value, above, below) refl

-- the numbers here have at most seven digits
pub in_word : (n : ℕ) → n < 2000000 → n < 2 ^ 64
in_word n h = lt_trans h (lit< tt)

few : (n : ℕ) → n < 2000000 → n < 10 ^ 7
few n h = lt_trans h (lit< tt)

pub number_decimal : (least limit n : ℕ) → least ≤ n → n ≤ limit → n < 2000000 → number least limit (decimal n) ≡ Some n
number_decimal least limit n low high small =
    number_of_digits 7 least limit n (decimal n) (decimal_is n (in_word n small))
    (length-decimal-le 7 n (lit< tt) (few n small) (in_word n small)) low high

-- the number of a character
pub scalar_small : (c : ℕ) → is_scalar c ≡ true → c ≤ 0x10ffff
scalar_small c e = go (nat_lt c 0xd800) refl
  where
    go : (b : Bool) → nat_lt c 0xd800 ≡ b → c ≤ 0x10ffff
    go true low = grind (arith, nat_tests)
    go false past =
        let rest : (nat_le 0xe000 c && nat_le c 0x10ffff) ≡ true = rw past at e in
        let high : nat_le c 0x10ffff ≡ true = (and_parts (nat_le 0xe000 c) (nat_le c 0x10ffff) rest).1 in
        grind (arith, nat_tests)

pub scalar_decimal : (c : ℕ) → is_scalar c ≡ true → scalar (decimal c) ≡ Some c
unfolding scalar
scalar_decimal c e = rw (number_decimal 0 0x10ffff c (omega arith) (scalar_small c e) (omega (arith, scalar_small c e)), e) refl
