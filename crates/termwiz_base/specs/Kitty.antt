-- The bits of the flags of kitty's keyboard protocol.
use Rattle.std.specs.Prelude.{ℕ, ◌+◌, List, [], ◌∷◌}

-- the bits of each flag, NONE first
abbrev pub flag_bits : List ℕ
flag_bits = 0 ∷ 1 ∷ 2 ∷ 4 ∷ 8 ∷ 16 ∷ []

-- the bits of all flags together
abbrev pub every_flag : ℕ
every_flag = 1 + 2 + 4 + 8 + 16
