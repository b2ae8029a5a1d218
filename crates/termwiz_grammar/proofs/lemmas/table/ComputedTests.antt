-- Tests that are computed over the whole table.
use Rattle.std.proofs.Common.{◌≡◌, ℕ, zero, suc, ◌+◌, ◌*◌, ◌/◌, ◌%◌, Bool, true, false, not, cond, List, [], ◌∷◌, length, map, refl, nat_lt, ◌==◌, ◌&&◌, ◌||◌}
use Rattle.std.specs.List.{list_all}
use Rattle.termwiz_grammar.specs.Table.{TableRow, rows, written_out}
use Rattle.termwiz_grammar.specs.Laws.{row_count}

-- a byte that may stand before the last of a row that begins ESC [ or ESC O: a digit or a semicolon
abbrev pub is_inner : ℕ → Bool
is_inner x = nat_lt 47 x && nat_lt x 60

-- one that may stand last
abbrev pub is_last : ℕ → Bool
is_last x = (nat_lt 60 x && nat_lt x 127) || x == 36

abbrev pub ends_well : List ℕ → Bool
ends_well [] = false
ends_well (x ∷ []) = is_last x
ends_well (x ∷ y ∷ t) = is_inner x && ends_well (y ∷ t)

-- the shape that all rows have
abbrev pub has_shape : List ℕ → Bool
has_shape [] = false
has_shape (b ∷ []) = true
has_shape (b ∷ c ∷ []) = (b == 27) && (nat_lt 64 c && nat_lt c 92)
has_shape (b ∷ c ∷ d ∷ t) = (b == 27) && ((c == 91) || (c == 79)) && ends_well (d ∷ t)

-- a byte that may stand after the first
abbrev pub is_plain : ℕ → Bool
is_plain x = nat_lt 31 x && nat_lt x 127

-- one byte that is a control or 0x7f, or ESC and plain bytes
abbrev pub has_sequence_bytes : List ℕ → Bool
has_sequence_bytes [] = false
has_sequence_bytes (b ∷ []) = nat_lt b 28 || (b == 127)
has_sequence_bytes (b ∷ c ∷ t) = (b == 27) && list_all is_plain (c ∷ t)

-- the form that all rows have, with at most eleven bytes
abbrev pub has_row_form : List ℕ → Bool
has_row_form t = has_shape t && nat_lt (length t) 12 && has_sequence_bytes t

-- a number for a text, from a number for what comes before it
abbrev pub number_of_text : ℕ → List ℕ → ℕ
number_of_text n [] = n
number_of_text n (b ∷ t) = number_of_text (n * 257 + b) t

-- a number for a row: rows with the same bytes have the same number
abbrev pub number_of_row : TableRow → ℕ
number_of_row r = number_of_text 1 r.0

-- the halves of the numbers with this remainder: 0 for the even ones, 1 for the odd ones
abbrev pub halves : ℕ → List ℕ → List ℕ
halves r [] = []
halves r (x ∷ xs) = cond (x % 2 == r) (x / 2 ∷ halves r xs) (halves r xs)

-- none of the numbers is x
abbrev pub all_but : ℕ → List ℕ → Bool
all_but x xs = list_all (λ y. not (y == x)) xs

abbrev pub all_differ : List ℕ → Bool
all_differ [] = true
all_differ (x ∷ xs) = all_but x xs && all_differ xs

-- the same by lists that are halved n times, so that few numbers are left to compare
abbrev pub split_differ : ℕ → List ℕ → Bool
split_differ zero xs = all_differ xs
split_differ (suc n) xs = split_differ n (halves 0 xs) && split_differ n (halves 1 xs)

pub rows_shaped : list_all (λ r. has_row_form r.0) rows ≡ true
unfolding written_out
rows_shaped = refl

pub rows_differ : split_differ 10 (map number_of_row rows) ≡ true
unfolding written_out
rows_differ = refl

pub rows_counted : length rows ≡ row_count
unfolding written_out
rows_counted = refl
