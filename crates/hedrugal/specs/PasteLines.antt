-- The lines of a paste.
use Rattle.std.specs.Prelude.{ℕ, ◌==◌, ◌&&◌, Bool, List, [], ◌∷◌, Option, Some, None, if◌then◌else◌}

-- What a byte becomes: LF for CR, and nothing for LF behind a CR.
abbrev pub line_byte : Bool → ℕ → Option ℕ
line_byte behind_cr b = if behind_cr && b == 10 then None else Some (if b == 13 then 10 else b)

-- a byte before others, if there is one
abbrev pub with_byte : Option ℕ → List ℕ → List ℕ
with_byte (Some b) rest = b ∷ rest
with_byte None rest = rest

-- A text with LF in the place of each CR, and of each CR LF as one. `behind_cr` says that a CR is right before the text.
unfoldable pub lines : Bool → List ℕ → List ℕ
lines behind_cr [] = []
lines behind_cr (b ∷ rest) = with_byte (line_byte behind_cr b) (lines (b == 13) rest)
