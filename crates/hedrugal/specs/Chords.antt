-- Presses and chords in numbers, as C has them.
use Rattle.std.specs.Prelude.{◌≡◌, ◌≢◌, ℕ, List, [], ◌++◌, length, take, drop, map}
use Rattle.termwiz_bindings.specs.declared.press.KeyPress.{KeyPress}
use Rattle.termwiz_bindings.specs.Codes.{IsPress, code}
use Rattle.termwiz_bindings.specs.Chords.{IsChord}
use Rattle.hedrugal.specs.declared.press_calls.CKeyPress.{CKeyPress}
use Rattle.hedrugal.specs.PressCalls.{c_press}

-- the numbers are those of this press
abbrev pub AreOfPress : CKeyPress → KeyPress → Type 0
AreOfPress numbers p = IsPress p × (numbers ≡ c_press p)

-- the bytes are the code of the press with these numbers
pub record IsCodeOf (numbers : CKeyPress) (bytes : List ℕ) : Type 0 where
  pub press : KeyPress
  pub is : AreOfPress numbers press
  pub same : bytes ≡ code press

-- the numbers are those of these presses, of which there are at most 32
abbrev pub AreOfPresses : List CKeyPress → List KeyPress → Type 0
AreOfPresses keys ps = IsChord ps × (keys ≡ map c_press ps)

-- the numbers are those of this chord, which has 1 to 32 presses
abbrev pub AreOfChord : List CKeyPress → List KeyPress → Type 0
AreOfChord keys ps = IsChord ps × (ps ≢ []) × (keys ≡ map c_press ps)

-- `keys` with as many of the presses as it has room for in place of its first ones
abbrev pub with_presses : List KeyPress → List CKeyPress → List CKeyPress
with_presses ps keys = take (length keys) (map c_press ps) ++ drop (length ps) keys
