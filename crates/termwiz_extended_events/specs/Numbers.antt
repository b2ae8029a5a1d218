-- The parts of control sequences: fields, decimal numbers, and what stands before a given end.
use Rattle.std.specs.Prelude.{◌≡◌, ℕ, ◌-◌, ◌==◌, ◌&&◌, ◌||◌, ◌<◌, ◌≤◌, List, [], ◌∷◌, length, take, drop, nat_eq, nat_le, nat_lt, slice_index, true, false, Option, Some, None, if◌then◌else◌, Bool, option_and_then, option_map}
use Rattle.std.specs.List.{list_all, slice_split}
use Rattle.std.specs.Cmp.Lexicographic.{pointwise}
use Rattle.std.specs.Char.{is_ascii_digit}
use Rattle.termwiz_grammar.specs.MouseReports.{value_of, semicolon}

-- what parts the numbers within a field
abbrev pub colon : ℕ
colon = 58

-- the fields of a text, which semicolons part
abbrev pub fields : List ℕ → List (List ℕ)
fields text = slice_split (λ b. b == semicolon) text

-- the parts of a field, which colons part
abbrev pub parts : List ℕ → List (List ℕ)
parts field = slice_split (λ b. b == colon) field

-- what stands before an end, of a text that ends so
unfoldable pub before_end : List ℕ → List ℕ → Option (List ℕ)
before_end end text =
    if pointwise nat_eq (drop (length text - length end) text) end then Some (take (length text - length end) text) else None

-- what follows a start, of a text that starts so
unfoldable pub after_start : List ℕ → List ℕ → Option (List ℕ)
after_start start text =
    if pointwise nat_eq (take (length start) text) start then Some (drop (length start) text) else None

-- the text is one to `most` decimal digits
abbrev pub is_digits : ℕ → List ℕ → Bool
is_digits most text = nat_lt 0 (length text) && nat_le (length text) most && list_all is_ascii_digit text

-- the number from `least` to `limit` that one to `most` decimal digits write
unfoldable pub number_within : ℕ → ℕ → ℕ → List ℕ → Option ℕ
number_within most least limit digits =
    if is_digits most digits && nat_le least (value_of digits) && nat_le (value_of digits) limit then Some (value_of digits)
    else None

-- the number that the first of some fields writes, and the other fields
abbrev pub first_number : ℕ → ℕ → ℕ → List (List ℕ) → Option (ℕ × List (List ℕ))
first_number most least limit [] = None
first_number most least limit (field ∷ more) = option_map (λ n. (n, more)) (number_within most least limit field)

-- So many digits are at the front of a text, at most `most`, and they write this value: no further one follows, if there may be more.
pub record ReadsDigits (most : ℕ) (text : List ℕ) (value count : ℕ) : Type 0 where
  pub few : count ≤ most
  pub inside : count ≤ length text
  pub digits : list_all is_ascii_digit (take count text) ≡ true
  pub value_is : value ≡ value_of (take count text)
  pub last : count < most → count < length text → is_ascii_digit (slice_index text count) ≡ false

-- how many digits a number may have in the reports of keys
abbrev pub most_digits : ℕ
most_digits = 7

-- how many digits a number may have in the other reports
abbrev pub few_digits : ℕ
few_digits = 5

-- the largest number in the other reports: what a u16 holds
abbrev pub largest : ℕ
largest = 65535

-- a number of at most seven digits, from `least` to `limit`
abbrev pub number : ℕ → ℕ → List ℕ → Option ℕ
number least limit digits = number_within most_digits least limit digits

-- a number of at most five digits, up to 65535
abbrev pub short_number : List ℕ → Option ℕ
short_number digits = number_within few_digits 0 largest digits

-- the number of a row or a column of the screen, which count from 1
abbrev pub place_number : List ℕ → Option ℕ
place_number digits = number_within few_digits 1 largest digits

-- the number is that of a Unicode scalar value
abbrev pub is_scalar : ℕ → Bool
is_scalar n = nat_lt n 0xd800 || (nat_le 0xe000 n && nat_le n 0x10ffff)

-- the character whose number a text writes
unfoldable pub scalar : List ℕ → Option ℕ
scalar digits = option_and_then (λ n. if is_scalar n then Some n else None) (number 0 0x10ffff digits)

-- the first of what rules give that is there
abbrev pub first_some : {A : Type 0} → List (Option A) → Option A
first_some [] = None
first_some (None ∷ more) = first_some more
first_some (Some given ∷ more) = Some given
