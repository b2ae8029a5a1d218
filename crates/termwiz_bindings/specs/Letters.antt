-- Letters that have capitals, and the signs that a keyboard types with SHIFT.
use Rattle.std.specs.Prelude.{ℕ, ◌+◌, ◌-◌, Bool, ◌==◌, ◌&&◌, ◌||◌, List, [], ◌∷◌, nat_le, Option, Some, None, is_some, if◌then◌else◌}
use Rattle.std.specs.List.{list_any}

-- letters whose capitals stand 32 before them: a to z, U+00E0 to U+00FE but U+00F7, U+03B1 to U+03CB but U+03C2, U+0430 to U+044F
abbrev pub near_letters : List (ℕ × ℕ)
near_letters = (0x61, 0x7a) ∷ (0xe0, 0xf6) ∷ (0xf8, 0xfe) ∷ (0x3b1, 0x3c1) ∷ (0x3c3, 0x3cb) ∷ (0x430, 0x44f) ∷ []

unfoldable pub has_near_capital : ℕ → Bool
has_near_capital n = list_any (λ range. nat_le range.0 n && nat_le n range.1) near_letters

-- letters whose capitals stand 80 before them: U+0450 to U+045F
unfoldable pub has_far_capital : ℕ → Bool
has_far_capital n = nat_le 0x450 n && nat_le n 0x45f

-- the capital of a letter that has one: such a letter is cased
unfoldable pub capital_of : ℕ → Option ℕ
capital_of c = if has_near_capital c then Some (c - 32) else (if has_far_capital c then Some (c - 80) else None)

-- the letter of a capital
unfoldable pub letter_of : ℕ → Option ℕ
letter_of c =
    if has_near_capital (c + 32) then Some (c + 32) else (if has_far_capital (c + 80) then Some (c + 80) else None)

-- what the keys of a PC-101 keyboard type with SHIFT, but for the letters
abbrev pub standard_shifted : List (ℕ × ℕ)
standard_shifted =
    (39, 34) ∷ (44, 60) ∷ (45, 95) ∷ (46, 62) ∷ (47, 63) ∷ (48, 41) ∷ (49, 33) ∷ (50, 64) ∷ (51, 35) ∷ (52, 36) ∷ (53, 37)
    ∷ (54, 94) ∷ (55, 38) ∷ (56, 42) ∷ (57, 40) ∷ (59, 58) ∷ (61, 43) ∷ (91, 123) ∷ (92, 124) ∷ (93, 125) ∷ (96, 126) ∷ []

-- one of the signs of that table: ~ ! @ # $ % ^ & * ( ) _ + { } | : " < > ?
unfoldable pub is_shifted_sign : ℕ → Bool
is_shifted_sign c = list_any (λ row. row.1 == c) standard_shifted

-- a character that shows SHIFT by itself: a capital, or one of those signs
abbrev pub is_shifted : ℕ → Bool
is_shifted c = is_some (letter_of c) || is_shifted_sign c

-- What a character is with SHIFT on every keyboard: a cased letter is its capital, and what shows SHIFT is itself. Of any other character
-- only the keyboard knows.
unfoldable pub shown_with_shift : ℕ → Option ℕ
shown_with_shift c = if is_shifted c then Some c else capital_of c
