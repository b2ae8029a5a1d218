-- What a terminal sends for a mouse report: xterm's modes 9, 1000, 1002 and 1003, in its encodings of bytes and of mode 1006, and in that of
-- urxvt's mode 1015.
use Rattle.std.specs.Prelude.{ℕ, ◌+◌, Bool, true, false, ◌||◌, nat_lt, List, [], ◌∷◌, ◌++◌, codes, decimal, Option, Some, None, if◌then◌else◌}
use Rattle.termwiz_base.specs.Mouse.{final_press, final_release}
use Rattle.termwiz_base.specs.declared.modifiers.Modifiers.{Modifiers}
use Rattle.termwiz_base.specs.declared.mouse.MouseButton.{MouseButton}
use Rattle.termwiz_base.specs.declared.mouse.MouseButton.TheVariants as button
use Rattle.termwiz_base.specs.declared.mouse.MouseReport.{MouseReport}
use Rattle.termwiz_base.specs.declared.mouse.MouseReport.TheVariants.{SGR1006, SGR1016}
use Rattle.termwiz_keys.specs.Introducers.{CSI}
use Rattle.termwiz_keys.specs.KeyCodes.{holds}
use Rattle.termwiz_keys.specs.Keys.{SHIFT, ALT, CTRL}
use Rattle.termwiz_senders.specs.declared.mouse.Action.{Action}
use Rattle.termwiz_senders.specs.declared.mouse.Action.TheVariants.{Press, Release, Drag, Move}
use Rattle.termwiz_senders.specs.declared.mouse.MouseEncoding.{MouseEncoding}
use Rattle.termwiz_senders.specs.declared.mouse.MouseEncoding.TheVariants.{Default, Urxvt, Sgr}
use Rattle.termwiz_senders.specs.declared.mouse.MouseTracking.{MouseTracking}
use Rattle.termwiz_senders.specs.declared.mouse.MouseTracking.TheVariants.{X10, Normal, Button, Any}
use Rattle.termwiz_senders.specs.declared.mouse.Told.{Told}

-- what a report tells: in mode 1016 the place is in pixels, and nothing else differs
abbrev pub told_by : MouseReport → Told
told_by (SGR1006 x y b held) = record { x = x; y = y; button = b; modifiers = held }
told_by (SGR1016 x y b held) = record { x = x; y = y; button = b; modifiers = held }

-- what happened to a button
abbrev pub action_of : MouseButton → Action
action_of button.Button1Release = Release
action_of button.Button2Release = Release
action_of button.Button3Release = Release
action_of button.Button4Release = Release
action_of button.Button5Release = Release
action_of button.Button6Release = Release
action_of button.Button7Release = Release
action_of button.Button1Drag = Drag
action_of button.Button2Drag = Drag
action_of button.Button3Drag = Drag
action_of button.None = Move
action_of _ = Press

-- the number of a button: 0 to 2 for the first three, 64 to 67 for the wheels, and 3 for none
abbrev pub number_of : MouseButton → ℕ
number_of button.Button1Press = 0
number_of button.Button1Release = 0
number_of button.Button1Drag = 0
number_of button.Button2Press = 1
number_of button.Button2Release = 1
number_of button.Button2Drag = 1
number_of button.Button3Press = 2
number_of button.Button3Release = 2
number_of button.Button3Drag = 2
number_of button.Button4Press = 64
number_of button.Button4Release = 64
number_of button.Button5Press = 65
number_of button.Button5Release = 65
number_of button.Button6Press = 66
number_of button.Button6Release = 66
number_of button.Button7Press = 67
number_of button.Button7Release = 67
number_of button.None = 3

-- which reports a program gets
abbrev pub is_reported : MouseTracking → Action → Bool
is_reported X10 Press = true
is_reported X10 _ = false
is_reported Normal Press = true
is_reported Normal Release = true
is_reported Normal _ = false
is_reported Button Move = false
is_reported Button _ = true
is_reported Any _ = true

-- The code of a button. A move has 32 more, and only in SGR's encoding a release tells its button.
abbrev pub button_code : MouseEncoding → Action → ℕ → ℕ
button_code encoding Press number = number
button_code Sgr Release number = number
button_code _ Release number = 3
button_code encoding Drag number = 32 + number
button_code encoding Move number = 32 + number

-- the sum of what Shift, Alt and Ctrl count, as far as they are held; in mode 9 no modifier is sent
abbrev pub counted : ℕ → ℕ → ℕ → MouseTracking → ℕ → ℕ
counted shift alt ctrl X10 held = 0
counted shift alt ctrl _ held =
    (if holds held SHIFT then shift else 0) + (if holds held ALT then alt else 0) + (if holds held CTRL then ctrl else 0)

-- the modifiers that are sent
abbrev pub sent_modifiers : MouseTracking → Modifiers → Modifiers
sent_modifiers tracking held = record { 0 = counted SHIFT ALT CTRL tracking held.0 }

-- the code of a report
abbrev pub code_of : MouseTracking → MouseEncoding → Told → ℕ
code_of tracking encoding t =
    button_code encoding (action_of t.button) (number_of t.button) + counted 4 8 16 tracking t.modifiers.0

-- code ; x ; y
abbrev pub numbers_text : ℕ → ℕ → ℕ → List ℕ
numbers_text code x y = decimal code ++ codes ";" ++ decimal x ++ codes ";" ++ decimal y

-- ESC [ M and three bytes
abbrev pub default_text : ℕ → ℕ → ℕ → List ℕ
default_text code x y = CSI ++ codes "M" ++ (32 + code) ∷ (32 + x) ∷ (32 + y) ∷ []

-- ESC [ code ; x ; y M, where the code is written 32 larger
abbrev pub urxvt_text : ℕ → ℕ → ℕ → List ℕ
urxvt_text code x y = CSI ++ numbers_text (32 + code) x y ++ codes "M"

-- the last byte in SGR's encoding
abbrev pub last_byte : Action → ℕ
last_byte Release = final_release
last_byte _ = final_press

-- ESC [ < code ; x ; y and the last byte
abbrev pub sgr_text : ℕ → ℕ → ℕ → ℕ → List ℕ
sgr_text code x y last = CSI ++ codes "<" ++ numbers_text code x y ++ last ∷ []

-- the largest place that one byte can tell
abbrev pub largest_place : ℕ
largest_place = 223

abbrev pub is_too_far : Told → Bool
is_too_far t = nat_lt largest_place t.x || nat_lt largest_place t.y

-- the bytes of a report with this code; none if its place is too far
abbrev pub text_with : MouseEncoding → ℕ → Told → Option (List ℕ)
text_with Default code t = if is_too_far t then None else Some (default_text code t.x t.y)
text_with Urxvt code t = Some (urxvt_text code t.x t.y)
text_with Sgr code t = Some (sgr_text code t.x t.y (last_byte (action_of t.button)))

-- the bytes of what a report tells, which are none for what the program doesn't get
abbrev pub told_text : MouseTracking → MouseEncoding → Told → Option (List ℕ)
told_text tracking encoding t =
    if is_reported tracking (action_of t.button) then text_with encoding (code_of tracking encoding t) t else Some []

-- the bytes of a report
unfoldable pub mouse_text : MouseReport → MouseTracking → MouseEncoding → Option (List ℕ)
mouse_text report tracking encoding = told_text tracking encoding (told_by report)
