-- The bits of the modifiers.
use Rattle.std.specs.Prelude.{◌+◌, ◌==◌, ℕ, List, [], ◌∷◌, if◌then◌else◌}
use Rattle.std.specs.Int.RustNames.{bit_and}

-- the bits of each flag, NONE first
abbrev pub flag_bits : List ℕ
flag_bits = 0 ∷ 2 ∷ 4 ∷ 8 ∷ 16 ∷ 32 ∷ 64 ∷ 128 ∷ 256 ∷ 512 ∷ 1024 ∷ 2048 ∷ []

-- the bits of all flags together
abbrev pub every_flag : ℕ
every_flag = 2 + 4 + 8 + 16 + 32 + 64 + 128 + 256 + 512 + 1024 + 2048

-- the bits of the six flags that name a key on the left or on the right
abbrev pub positional : ℕ
positional = 32 + 64 + 256 + 512 + 1024 + 2048

-- xterm's number for the modifiers: 1 for Shift plus 2 for Alt plus 4 for Ctrl, whose flags are 2, 4 and 8
abbrev pub xterm_number : ℕ → ℕ
xterm_number held =
    (if bit_and held 2 == 2 then 1 else 0) + (if bit_and held 4 == 4 then 2 else 0)
    + (if bit_and held 8 == 8 then 4 else 0)
