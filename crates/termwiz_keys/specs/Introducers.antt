-- The bytes that sequences and pastes begin and end with.
use Rattle.std.specs.Prelude.{ℕ, List, [], ◌∷◌, ◌++◌, codes}

-- the byte of the Escape key
abbrev pub ESC : List ℕ
ESC = 0x1b ∷ []

-- what control sequences begin with: the control sequence introducer, and single shift three
abbrev pub CSI : List ℕ
CSI = ESC ++ codes "["

abbrev pub SS3 : List ℕ
SS3 = ESC ++ codes "O"

-- what comes before a pasted text, and after it, in xterm's bracketed paste mode
abbrev pub START : List ℕ
START = 0x1b ∷ codes "[200~"

abbrev pub END : List ℕ
END = 0x1b ∷ codes "[201~"
