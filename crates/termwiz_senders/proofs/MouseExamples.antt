-- Mouse reports and what is sent for them, computed from the definitions.
use Rattle.std.specs.Prelude.{◌≡◌, ℕ, ◌+◌, List, [], ◌∷◌, ◌++◌, codes, Option, Some, None, refl}
use Rattle.std.specs.Fmt.{digits}
use Rattle.termwiz_base.specs.declared.mouse.MouseButton.{MouseButton}
use Rattle.termwiz_base.specs.declared.mouse.MouseButton.TheVariants as button
use Rattle.termwiz_base.specs.declared.mouse.MouseReport.{MouseReport}
use Rattle.termwiz_base.specs.declared.mouse.MouseReport.TheVariants.{SGR1006, SGR1016}
use Rattle.termwiz_keys.specs.Introducers.{CSI}
use Rattle.termwiz_keys.specs.Keys.{NONE, SHIFT, ALT, CTRL}
use Rattle.termwiz_senders.specs.declared.mouse.MouseEncoding.{MouseEncoding}
use Rattle.termwiz_senders.specs.declared.mouse.MouseEncoding.TheVariants.{Default, Urxvt, Sgr}
use Rattle.termwiz_senders.specs.declared.mouse.MouseTracking.{MouseTracking}
use Rattle.termwiz_senders.specs.declared.mouse.MouseTracking.TheVariants.{X10, Normal, Button, Any}
use Rattle.termwiz_senders.specs.MouseTexts.{mouse_text}

-- what is sent: to unfold this is to unfold every rule
unfoldable pub sent : MouseReport → MouseTracking → MouseEncoding → Option (List ℕ)
unfolding mouse_text digits
sent report tracking encoding = mouse_text report tracking encoding

-- a report with its place in cells, and one with its place in pixels
abbrev at : MouseButton → ℕ → ℕ → ℕ → MouseReport
at b x y held = SGR1006 x y b (record { 0 = held })

abbrev at_pixel : MouseButton → ℕ → ℕ → ℕ → MouseReport
at_pixel b x y held = SGR1016 x y b (record { 0 = held })

-- what follows ESC [
abbrev bytes : List ℕ → Option (List ℕ)
bytes t = Some (CSI ++ t)

press : sent (at button.Button1Press 1 1 NONE) Any Sgr ≡ bytes (codes "<0;1;1M")
unfolding sent
press = refl

release : sent (at button.Button1Release 1 1 NONE) Any Sgr ≡ bytes (codes "<0;1;1m")
unfolding sent
release = refl

release_in_bytes : sent (at button.Button1Release 1 1 CTRL) Normal Default ≡ bytes (codes "M3!!")
unfolding sent
release_in_bytes = refl

release_in_urxvt : sent (at button.Button3Release 5 6 NONE) Normal Urxvt ≡ bytes (codes "35;5;6M")
unfolding sent
release_in_urxvt = refl

drag : sent (at button.Button2Drag 80 24 SHIFT) Button Sgr ≡ bytes (codes "<37;80;24M")
unfolding sent
drag = refl

drag_not_asked_for : sent (at button.Button2Drag 80 24 NONE) Normal Sgr ≡ Some []
unfolding sent
drag_not_asked_for = refl

move : sent (at button.None 3 4 ALT) Any Urxvt ≡ bytes (codes "75;3;4M")
unfolding sent
move = refl

move_not_asked_for : sent (at button.None 3 4 NONE) Button Sgr ≡ Some []
unfolding sent
move_not_asked_for = refl

wheel_down : sent (at button.Button5Press 2 2 NONE) Normal Default ≡ bytes (codes "Ma" ++ 34 ∷ 34 ∷ [])
unfolding sent
wheel_down = refl

wheel_released : sent (at button.Button6Release 2 2 NONE) Any Sgr ≡ bytes (codes "<66;2;2m")
unfolding sent
wheel_released = refl

wheel_released_in_bytes : sent (at button.Button6Release 2 2 NONE) Normal Default ≡ bytes (codes "M#" ++ 34 ∷ 34 ∷ [])
unfolding sent
wheel_released_in_bytes = refl

modifier_in_mode_9 : sent (at button.Button1Press 1 1 CTRL) X10 Default ≡ bytes (codes "M !!")
unfolding sent
modifier_in_mode_9 = refl

release_in_mode_9 : sent (at button.Button1Release 1 1 NONE) X10 Sgr ≡ Some []
unfolding sent
release_in_mode_9 = refl

farthest : sent (at button.Button1Press 223 95 NONE) Normal Default ≡ bytes (codes "M" ++ 0x20 ∷ 0xff ∷ 0x7f ∷ [])
unfolding sent
farthest = refl

too_far : sent (at button.Button1Press 224 1 NONE) Normal Default ≡ None
unfolding sent
too_far = refl

in_pixels : sent (at_pixel button.Button7Press 65535 0 (SHIFT + ALT + CTRL)) Any Sgr ≡ bytes (codes "<95;65535;0M")
unfolding sent
in_pixels = refl
