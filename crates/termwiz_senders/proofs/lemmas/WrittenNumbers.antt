-- The numbers of mouse reports, written in decimal.
use Rattle.std.proofs.Common.{◌≡◌, ◌≢◌, ℕ, ◌^◌, ◌<◌, ◌≤◌, List, [], ◌∷◌, ◌++◌, length, sym, ap, subst, arith, lit<, decimal, Some, length-append, lt_trans}
use Rattle.std.specs.List.{AllByRecursion}
use Rattle.std.proofs.lemmas.Fmt.{length-decimal-le}
use Rattle.termwiz_keymap.proofs.lemmas.lists.CommonPrefixes.{true_from}
use Rattle.termwiz_grammar.specs.MouseReports.{IsDigit, IsNumber}
use Rattle.termwiz_extended_events.specs.Numbers.{number_within}
use Rattle.termwiz_extended_grammar.proofs.lemmas.forms.FormBytes.{all_append}
use Rattle.termwiz_kitty.proofs.lemmas.read_back.Decimals.{IsDecimal, decimal_is, number_of_digits}
use Rattle.termwiz_kitty.proofs.lemmas.read_back.FieldSplits.{IsFieldByte, digit_in_field}
use Rattle.termwiz_senders.specs.MouseTexts.{numbers_text}

in_word : (n : ℕ) → n < 2 ^ 16 → n < 2 ^ 64
in_word n h = lt_trans h (lit< tt)

five : (n : ℕ) → n < 2 ^ 16 → n < 10 ^ 5
five n h = lt_trans h (lit< tt)

pub digits_of : (n : ℕ) → n < 2 ^ 16 → IsDecimal n (decimal n)
digits_of n h = decimal_is n (in_word n h)

at_most_five : (n : ℕ) → n < 2 ^ 16 → length (decimal n) ≤ 5
at_most_five n h = length-decimal-le 5 n (lit< tt) (five n h) (in_word n h)

pub number_is : (n limit : ℕ) → n < 2 ^ 16 → n ≤ limit → IsNumber (decimal n) limit
number_is n limit h low =
    let is = digits_of n h in
    record { some = is.some; short = at_most_five n h; each = is.each; within = subst (λ v. v ≤ limit) (sym is.value) low }

pub number_back : (least limit n : ℕ) → n < 2 ^ 16 → least ≤ n → n ≤ limit → number_within 5 least limit (decimal n) ≡ Some n
number_back least limit n h low high = number_of_digits 5 least limit n (decimal n) (digits_of n h) (at_most_five n h) low high

pub field_of : (n : ℕ) → n < 2 ^ 16 → AllByRecursion IsFieldByte (decimal n)
field_of n h = true_from IsDigit IsFieldByte digit_in_field (decimal n) (digits_of n h).each

-- a byte of numbers that semicolons part, or the sign before them
abbrev pub IsBody : ℕ → Type 0
IsBody b = (48 ≤ b) × (b ≤ 60)

digit_in_body : (b : ℕ) → IsDigit b → IsBody b
digit_in_body b d = (omega arith, omega arith)

body_of : (n : ℕ) → n < 2 ^ 16 → AllByRecursion IsBody (decimal n)
body_of n h = true_from IsDigit IsBody digit_in_body (decimal n) (digits_of n h).each

semicolon_in_body : AllByRecursion IsBody (59 ∷ [])
semicolon_in_body = ((omega arith, omega arith), tt)

pub numbers_in_body : (code x y : ℕ) → code < 2 ^ 16 → x < 2 ^ 16 → y < 2 ^ 16 → AllByRecursion IsBody (numbers_text code x y)
numbers_in_body code x y c f g =
    all_append IsBody (decimal code ++ 59 ∷ [] ++ decimal x ++ 59 ∷ []) (decimal y)
    (all_append IsBody (decimal code ++ 59 ∷ [] ++ decimal x) (59 ∷ [])
    (all_append IsBody (decimal code ++ 59 ∷ []) (decimal x)
    (all_append IsBody (decimal code) (59 ∷ []) (body_of code c) semicolon_in_body) (body_of x f)) semicolon_in_body) (body_of y g)

pub numbers_short : (code x y : ℕ) → code < 2 ^ 16 → x < 2 ^ 16 → y < 2 ^ 16 → length (numbers_text code x y) ≤ 17
numbers_short code x y c f g = omega (
  arith,
  length-append (decimal code ++ 59 ∷ [] ++ decimal x ++ 59 ∷ []) (decimal y),
  length-append (decimal code ++ 59 ∷ [] ++ decimal x) (59 ∷ []),
  length-append (decimal code ++ 59 ∷ []) (decimal x),
  length-append (decimal code) (59 ∷ []),
  at_most_five code c,
  at_most_five x f,
  at_most_five y g,
)

pub numbers_some : (code x y : ℕ) → code < 2 ^ 16 → numbers_text code x y ≢ []
numbers_some code x y c none = omega (
  arith,
  ap length none,
  length-append (decimal code ++ 59 ∷ [] ++ decimal x ++ 59 ∷ []) (decimal y),
  length-append (decimal code ++ 59 ∷ [] ++ decimal x) (59 ∷ []),
  length-append (decimal code ++ 59 ∷ []) (decimal x),
  length-append (decimal code) (59 ∷ []),
)

-- they begin with a digit
pub begins_with_digit : (n : ℕ) (rest t : List ℕ) → n < 2 ^ 16 → decimal n ++ rest ≡ 60 ∷ t → ⊥
begins_with_digit n rest t h e = (let is = digits_of n h in go (decimal n) is.some is.each e)
  where
    go : (digits : List ℕ) → 0 < length digits → AllByRecursion IsDigit digits → digits ++ rest ≡ 60 ∷ t → ⊥
    go [] some a same = omega arith
    go (d ∷ digits) some a same = (let sign : d ≡ 60 = cc (same) in let digit : IsDigit d = a.0 in omega arith)
