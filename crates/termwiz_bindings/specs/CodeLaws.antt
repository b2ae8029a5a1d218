-- The laws of codes.
use Rattle.std.specs.Prelude.{◌≡◌, ◌↔◌, List, ◌++◌, length}
use Rattle.std.specs.List.{All}
use Rattle.termwiz_keymap.specs.Bytes.{Begins}
use Rattle.termwiz_bindings.specs.declared.press.KeyPress.{KeyPress}
use Rattle.termwiz_bindings.specs.Codes.{IsPress, code, code_len, codes}

-- some presses begin others
abbrev pub BeginPresses : List KeyPress → List KeyPress → Type 0
BeginPresses ps qs = (rest : List KeyPress) × (qs ≡ ps ++ rest)

-- All codes have the same number of bytes.
abbrev pub CodesHaveOneWidth : Type 0
CodesHaveOneWidth = (p : KeyPress) → length (code p) ≡ code_len

-- Two presses with one code are one press.
abbrev pub CodesTellPresses : Type 0
CodesTellPresses = (p q : KeyPress) → IsPress p → IsPress q → code p ≡ code q → p ≡ q

-- Presses begin others exactly if their codes do.
abbrev pub CodesBeginAsPresses : Type 0
CodesBeginAsPresses = (ps qs : List KeyPress) → All IsPress ps → All IsPress qs
    → BeginPresses ps qs ↔ Begins (codes ps) (codes qs)
