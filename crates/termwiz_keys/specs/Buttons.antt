-- What the event of a mouse report says of the buttons.
use Rattle.std.specs.Prelude.{ℕ, ◌+◌, List, [], ◌∷◌}
use Rattle.termwiz_base.specs.declared.mouse.MouseButton.{MouseButton}
use Rattle.termwiz_base.specs.declared.mouse.MouseButton.TheVariants.{Button1Press, Button2Press, Button3Press, Button4Press, Button5Press, Button6Press, Button7Press, Button1Drag, Button2Drag, Button3Drag}
use Rattle.termwiz_keys.specs.declared.types.MouseButtons.{MouseButtons}

-- the bits of the buttons
abbrev pub LEFT : ℕ
LEFT = 2

abbrev pub RIGHT : ℕ
RIGHT = 4

abbrev pub MIDDLE : ℕ
MIDDLE = 8

abbrev pub VERT_WHEEL : ℕ
VERT_WHEEL = 16

abbrev pub HORZ_WHEEL : ℕ
HORZ_WHEEL = 32

abbrev pub WHEEL_POSITIVE : ℕ
WHEEL_POSITIVE = 64

-- the bits of each flag, NONE first
abbrev pub flag_bits : List ℕ
flag_bits = 0 ∷ LEFT ∷ RIGHT ∷ MIDDLE ∷ VERT_WHEEL ∷ HORZ_WHEEL ∷ WHEEL_POSITIVE ∷ []

-- the bits of all of them together
abbrev pub every_button : ℕ
every_button = 2 + 4 + 8 + 16 + 32 + 64

-- the bits for what a report says of one button: a release holds none
abbrev pub button_bits : MouseButton → ℕ
button_bits Button1Press = LEFT
button_bits Button2Press = MIDDLE
button_bits Button3Press = RIGHT
button_bits Button4Press = VERT_WHEEL + WHEEL_POSITIVE
button_bits Button5Press = VERT_WHEEL
button_bits Button6Press = HORZ_WHEEL + WHEEL_POSITIVE
button_bits Button7Press = HORZ_WHEEL
button_bits Button1Drag = LEFT
button_bits Button2Drag = MIDDLE
button_bits Button3Drag = RIGHT
button_bits _ = 0

-- the same as a set of buttons
abbrev pub buttons_of : MouseButton → MouseButtons
buttons_of button = record { 0 = button_bits button }
