-- Numbers in names are read back.
use Rattle.std.proofs.Common.{◌≡◌, ◌∙◌, ℕ, ◌+◌, ◌-◌, ◌*◌, ◌/◌, ◌%◌, ◌^◌, ◌<◌, ◌≤◌, zero, suc, Bool, true, false, ◌==◌, ◌&&◌, List, [], ◌∷◌, ◌++◌, length, get_or, replicate, nat_lt, nat_le, refl, ap, arith, lit<, lit≤, Some, Ok, length-append, lt_trans}
use Rattle.std.specs.List.{list_all}
use Rattle.std.specs.Char.{is_digit}
use Rattle.std.specs.Fmt.{decimal, digits, digits_onto, digit_glyph}
use Rattle.std.specs.Prelude.{if◌then◌else◌}
use Rattle.std.specs.Str.{str_eq_ignore_ascii_case, str_to_ascii_lowercase}
use Rattle.std.specs.Str.Parse.{AllDigits, digits_value}
use Rattle.std.proofs.lemmas.Bool.Decides.{nat_tests}
use Rattle.std.proofs.lemmas.Fmt.{decimal_is_IsNumeral, digits_is_IsNumeral, first_decimal, length-decimal-le}
use Rattle.std.proofs.lemmas.List.{length-replicate}
use Rattle.std.proofs.lemmas.Slice.Eq.{bytes_eq-Decides}
use Rattle.std.proofs.Math.Seq.{take-append_seam, drop-append_seam}
use Rattle.termwiz_bindings.specs.Names.{value_in, has_leading_zero, number_within, numbered, code_point, code_point_number}

-- digits pass the test of each
pub digits_pass : (base : ℕ) (ds : List ℕ) → AllDigits base ds → list_all (λ c. is_digit c base) ds ≡ true
digits_pass base [] all = refl
digits_pass base (d ∷ ds) all =
    let first : is_digit d base ≡ true = grind (arith, nat_tests, all.0) in
    rw (first, digits_pass base ds all.1) refl

value_is : (base n : ℕ) (ds : List ℕ) → AllDigits base ds → digits_value base ds ≡ n → value_in base ds ≡ Some n
unfolding value_in
value_is base n ds all is = rw (digits_pass base ds all, is) refl

no_zero : (b : Bool) → (b && false) ≡ false
no_zero true = refl
no_zero false = refl

no_zero_first : (d : ℕ) → 48 < d → (d == 48) ≡ false
no_zero_first d above = grind (arith, nat_tests)

-- the decimal digits of a number
module _ (n : ℕ) (small : n < 100000) where
  in_word : n < 2 ^ 64
  in_word = lt_trans small (lit< tt)

  short_decimal : nat_le (length (decimal n)) 5 ≡ true
  short_decimal =
      let few : length (decimal n) ≤ 5 = length-decimal-le 5 n (lit< tt) small in_word in
      grind (arith, nat_tests)

  leads : (b : Bool) → (n == 0) ≡ b → has_leading_zero (decimal n) ≡ false
  unfolding digits
  leads true none =
      let zero_one : n ≡ 0 = grind (arith, nat_tests) in
      rw zero_one refl
  leads false some =
      let more : 0 < n = grind (arith, nat_tests) in
      let first = first_decimal n more in_word in
      rw (no_zero_first (get_or (decimal n) 0 0) first) (no_zero (nat_lt 1 (length (decimal n))))

  pub number_read : (least most : ℕ) → least ≤ n → n ≤ most → number_within least most (decimal n) ≡ Some n
  unfolding number_within
  number_read least most low high =
      let numeral = decimal_is_IsNumeral n in_word in
      let above : nat_le least n ≡ true = grind (arith, nat_tests) in
      let below : nat_le n most ≡ true = grind (arith, nat_tests) in
      rw (short_decimal, leads (n == 0) refl, value_is 10 n (decimal n) numeral.0.1 numeral.1, above, below) refl

  same_word : (word : List ℕ) → str_eq_ignore_ascii_case word word ≡ true
  same_word word = (bytes_eq-Decides (str_to_ascii_lowercase word) (str_to_ascii_lowercase word)).1 refl

  pub number_behind : (word : List ℕ) (least most : ℕ) → least ≤ n → n ≤ most
      → numbered word least most (word ++ decimal n) ≡ Some (Ok n)
  unfolding numbered
  number_behind word least most low high =
      let numeral = decimal_is_IsNumeral n in_word in
      let some : 0 < length (decimal n) = numeral.0.0 in
      let longer : nat_lt (length word) (length (word ++ decimal n)) ≡ true = grind (arith, nat_tests, length-append word (decimal n)) in
      rw (
        longer,
        take-append_seam word (decimal n),
        same_word word,
        drop-append_seam word (decimal n),
        digits_pass 10 (decimal n) numeral.0.1,
        number_read least most low high,
      ) refl

-- the hexadecimal digits of a number below 16, 256 and so on
abbrev bound : ℕ → ℕ
bound zero = 16
bound (suc j) = 16 * bound j

next_length : (k i n : ℕ) (acc : List ℕ) (b : Bool) → (n / 16 == 0) ≡ b → n < bound i
    → ((j : ℕ) → n / 16 < bound j
    → length (digits_onto k 16 true (n / 16) (digit_glyph true (n % 16) ∷ acc)) ≤ suc j + suc (length acc))
    → length (if b then digit_glyph true (n % 16) ∷ acc else digits_onto k 16 true (n / 16) (digit_glyph true (n % 16) ∷ acc)) ≤ suc i + length acc
next_length k i n acc true last below rest = omega arith
next_length k zero n acc false more below rest = absurd (grind (arith, nat_tests))
next_length k (suc i) n acc false more below rest = omega (arith, rest i (omega arith))

onto_length : (k j n : ℕ) (acc : List ℕ) → n < bound j → length (digits_onto k 16 true n acc) ≤ suc j + length acc
onto_length zero j n acc small = omega arith
onto_length (suc k) j n acc small =
    next_length k j n acc (n / 16 == 0) refl small (λ i. onto_length k i (n / 16) (digit_glyph true (n % 16) ∷ acc))

hexadecimal_length : (n : ℕ) → n < 0x110000 → length (digits 16 true n) ≤ 6
unfolding digits
hexadecimal_length n small = onto_length 64 5 n [] (lt_trans small (lit< tt))

-- zeros in front say nothing
zeros_pass : (k : ℕ) (ds : List ℕ) → list_all (λ c. is_digit c 16) ds ≡ true → list_all (λ c. is_digit c 16) (replicate k 48 ++ ds) ≡ true
zeros_pass zero ds all = all
zeros_pass (suc k) ds all = zeros_pass k ds all

zeros_value : (k : ℕ) (ds : List ℕ) → digits_value 16 (replicate k 48 ++ ds) ≡ digits_value 16 ds
zeros_value zero ds = refl
zeros_value (suc k) ds = zeros_value k ds

-- a code point is read back
pub code_point_read : (n : ℕ) → n < 0x110000 → code_point_number (code_point n) ≡ Some n
unfolding code_point_number value_in
code_point_read n small =
    let numeral = digits_is_IsNumeral 16 true (lit≤ tt) (lit≤ tt) n (lt_trans small (lit< tt)) in
    let hexadecimal : List ℕ = digits 16 true n in
    let few : length hexadecimal ≤ 6 = hexadecimal_length n small in
    let padded : List ℕ = replicate (4 - length hexadecimal) 48 ++ hexadecimal in
    let size : length padded ≡ (4 - length hexadecimal) + length hexadecimal =
    length-append (replicate (4 - length hexadecimal) 48) hexadecimal ∙ ap (λ k. k + length hexadecimal) (length-replicate _ _) in
    let least : nat_le 6 (suc (suc (length padded))) ≡ true = grind (arith, nat_tests) in
    let most : nat_le (suc (suc (length padded))) 8 ≡ true = grind (arith, nat_tests) in
    rw (
      least,
      most,
      zeros_pass (4 - length hexadecimal) hexadecimal (digits_pass 16 hexadecimal numeral.0.1),
      zeros_value (4 - length hexadecimal) hexadecimal,
      numeral.1,
    ) refl
