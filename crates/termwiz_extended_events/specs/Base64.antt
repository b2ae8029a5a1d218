-- Base64, as RFC 4648 has it: four letters of the alphabet stand for three bytes. Where the bytes end before, `=` fills the last four.
use Rattle.std.specs.Prelude.{ℕ, Bool, true, false, ◌+◌, ◌-◌, ◌*◌, ◌/◌, ◌%◌, ◌==◌, ◌&&◌, List, [], ◌∷◌, ◌++◌, nat_le, Option, Some, None, if◌then◌else◌}

-- a byte of a range
abbrev pub is_from : ℕ → ℕ → ℕ → Bool
is_from first last b = nat_le first b && nat_le b last

-- what a letter of the alphabet stands for: A to Z, a to z, 0 to 9, + and /, from 0 to 63
unfoldable pub sextet : ℕ → Option ℕ
sextet b =
    if is_from 65 90 b then Some (b - 65)
    else (if is_from 97 122 b then Some (b - 71)
    else (if is_from 48 57 b then Some (b + 4)
    else (if b == 43 then Some 62
    else (if b == 47 then Some 63 else None))))

-- what fills the last four
abbrev pub filler : ℕ
filler = 61

-- the bytes that lie in two, three and four sextets, from the highest bit on
abbrev pub first_byte : ℕ → ℕ → ℕ
first_byte p q = p * 4 + q / 16

abbrev pub second_byte : ℕ → ℕ → ℕ
second_byte q r = q % 16 * 16 + r / 4

abbrev pub third_byte : ℕ → ℕ → ℕ
third_byte r s = r % 4 * 64 + s

-- three bytes
abbrev pub three_bytes : Option ℕ → Option ℕ → Option ℕ → Option ℕ → Option (List ℕ)
three_bytes (Some p) (Some q) (Some r) (Some s) = Some (first_byte p q ∷ second_byte q r ∷ third_byte r s ∷ [])
three_bytes _ _ _ _ = None

-- two bytes, if the bits behind them are 0
abbrev pub two_bytes : Option ℕ → Option ℕ → Option ℕ → Option (List ℕ)
two_bytes (Some p) (Some q) (Some r) = if r % 4 == 0 then Some (first_byte p q ∷ second_byte q r ∷ []) else None
two_bytes _ _ _ = None

-- one byte, if the bits behind it are 0
abbrev pub one_byte : Option ℕ → Option ℕ → Option (List ℕ)
one_byte (Some p) (Some q) = if q % 16 == 0 then Some (first_byte p q ∷ []) else None
one_byte _ _ = None

-- the bytes of four letters, of which only the last four of a text may be filled
unfoldable pub four : Bool → ℕ → ℕ → ℕ → ℕ → Option (List ℕ)
four is_last a b c d =
    if is_last && (d == filler)
    then (if c == filler then one_byte (sextet a) (sextet b) else two_bytes (sextet a) (sextet b) (sextet c))
    else three_bytes (sextet a) (sextet b) (sextet c) (sextet d)

-- nothing is left of a text
abbrev pub is_end : List ℕ → Bool
is_end [] = true
is_end _ = false

-- both, one behind the other, if both are there
abbrev pub joined : Option (List ℕ) → Option (List ℕ) → Option (List ℕ)
joined (Some front) (Some more) = Some (front ++ more)
joined _ _ = None

-- the bytes that a text stands for
abbrev pub decoded : List ℕ → Option (List ℕ)
decoded [] = Some []
decoded (a ∷ b ∷ c ∷ d ∷ more) = joined (four (is_end more) a b c d) (decoded more)
decoded _ = None
