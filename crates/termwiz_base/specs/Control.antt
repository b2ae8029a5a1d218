-- What the Ctrl key makes of a character.
use Rattle.std.specs.Prelude.{ℕ, ◌-◌, ◌==◌, List, [], ◌∷◌, Option, Some, codes, if◌then◌else◌}
use Rattle.std.specs.Char.{is_ascii_uppercase, is_ascii_lowercase}
use Rattle.std.specs.List.{find, list_any}
use Rattle.std.specs.Option.{option_map}

-- characters other than letters, and the control character that Ctrl makes of each of them, where 92 is a backslash
abbrev pub rows : List (List ℕ × ℕ)
rows =
    (codes "@` 2", 0)
    ∷ (codes "[3{", 0x1b)
    ∷ (92 ∷ codes "4|", 0x1c)
    ∷ (codes "]5}", 0x1d)
    ∷ (codes "^6~", 0x1e)
    ∷ (codes "_7/", 0x1f)
    ∷ (codes "8?", 0x7f)
    ∷ []

-- the control character of a character: of a letter its place in the alphabet, of another that of its row
unfoldable pub control_of : ℕ → Option ℕ
control_of c =
    if is_ascii_uppercase c then Some (c - 64)
    else (if is_ascii_lowercase c then Some (c - 96)
    else option_map (λ row. row.1) (find (λ row. list_any (λ typed. typed == c) row.0) rows))
