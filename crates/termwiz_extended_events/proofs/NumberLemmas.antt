-- How large a number of few digits is, and that a number has digits alone.
use Rattle.std.proofs.Common.{◌≡◌, ℕ, ◌<◌, ◌≤◌, ◌^◌, ◌&&◌, zero, suc, lit≤, arith, Bool, true, false, List, length, nat_lt, nat_le, refl, Some, None}
use Rattle.std.specs.Prelude.{if◌then◌else◌}
use Rattle.std.specs.List.{list_all}
use Rattle.std.specs.Char.{is_ascii_digit}
use Rattle.std.proofs.lemmas.Bool.{and_parts}
use Rattle.std.proofs.lemmas.Bool.Decides.{nat_tests}
use Rattle.termwiz_grammar.specs.MouseReports.{value_of}
use Rattle.termwiz_extended_events.specs.Numbers.{is_digits, number_within}

-- the powers of ten that stand for at most six digits
pub ten_power : (digits : ℕ) → digits < 7 → 10 ^ digits ≤ 1000000
ten_power zero few = lit≤ tt
ten_power (suc zero) few = lit≤ tt
ten_power (suc (suc zero)) few = lit≤ tt
ten_power (suc (suc (suc zero))) few = lit≤ tt
ten_power (suc (suc (suc (suc zero)))) few = lit≤ tt
ten_power (suc (suc (suc (suc (suc zero))))) few = lit≤ tt
ten_power (suc (suc (suc (suc (suc (suc zero)))))) few = lit≤ tt
ten_power (suc (suc (suc (suc (suc (suc (suc n))))))) few = absurd (omega arith)

-- what is there passed the test
passed : (b : Bool) (v n : ℕ) → (if b then Some v else None) ≡ Some n → b ≡ true
passed true v n e = refl
passed false v n e = cc (e)

-- What is read as a number is one to `most` digits, which write a number within the limits.
pub of_number : (most least limit : ℕ) (text : List ℕ) (n : ℕ) → number_within most least limit text ≡ Some n
    → ((nat_lt 0 (length text) ≡ true) × (nat_le (length text) most ≡ true)) × (list_all is_ascii_digit text ≡ true)
    × (nat_le least (value_of text) ≡ true) × (nat_le (value_of text) limit ≡ true)
unfolding number_within
of_number most least limit text n e =
    let read = passed (is_digits most text && nat_le least (value_of text) && nat_le (value_of text) limit) (value_of text) n e in
    let above = and_parts (is_digits most text && nat_le least (value_of text)) (nat_le (value_of text) limit) read in
    let digits = and_parts (is_digits most text) (nat_le least (value_of text)) above.0 in
    let sizes = and_parts (nat_lt 0 (length text) && nat_le (length text) most) (list_all is_ascii_digit text) digits.0 in
    (and_parts (nat_lt 0 (length text)) (nat_le (length text) most) sizes.0, sizes.1, digits.1, above.1)

-- such digits are that number
pub written : (most least limit : ℕ) (text : List ℕ) → list_all is_ascii_digit text ≡ true → 0 < length text → length text ≤ most
    → least ≤ value_of text → value_of text ≤ limit → number_within most least limit text ≡ Some (value_of text)
unfolding number_within
written most least limit text digits some few above below =
    let is_some : nat_lt 0 (length text) ≡ true = grind (arith, nat_tests, some) in
    let is_few : nat_le (length text) most ≡ true = grind (arith, nat_tests, few) in
    let is_above : nat_le least (value_of text) ≡ true = grind (arith, nat_tests, above) in
    let is_below : nat_le (value_of text) limit ≡ true = grind (arith, nat_tests, below) in
    rw (is_some, is_few, digits, is_above, is_below) refl

-- a number has digits alone
pub are_digits : (most least limit : ℕ) (text : List ℕ) (n : ℕ) → number_within most least limit text ≡ Some n
    → list_all is_ascii_digit text ≡ true
are_digits most least limit text n e = (of_number most least limit text n e).1
