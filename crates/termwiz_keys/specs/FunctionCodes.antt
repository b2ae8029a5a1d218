-- The numbers of the function keys in sequences.
use Rattle.std.specs.Prelude.{ℕ, List, [], ◌∷◌}

-- the codes of the function keys, with the number of each
abbrev pub function_codes : List (ℕ × ℕ)
function_codes =
    (11, 1) ∷ (12, 2) ∷ (13, 3) ∷ (14, 4) ∷ (15, 5) ∷ (17, 6) ∷ (18, 7) ∷ (19, 8) ∷ (20, 9) ∷ (21, 10)
    ∷ (23, 11) ∷ (24, 12) ∷ (25, 13) ∷ (26, 14) ∷ (28, 15) ∷ (29, 16) ∷ (31, 17) ∷ (32, 18) ∷ (33, 19) ∷ (34, 20) ∷ []

-- the codes of F21 to F24, with the number of each
abbrev pub high_function_codes : List (ℕ × ℕ)
high_function_codes = (42, 21) ∷ (43, 22) ∷ (44, 23) ∷ (45, 24) ∷ []
