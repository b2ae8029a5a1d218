-- What the numbers of a mouse report stand for, and what a terminal sends for it and for a pasted text.
use Rattle.std.specs.Prelude.{◌≡◌, ℕ, ◌==◌, ◌*◌, nat_le, Bool, List, length, Option, Some, None, option_map, option_and_then, if◌then◌else◌}
use Rattle.termwiz_base.specs.declared.modifiers.Modifiers.{Modifiers}
use Rattle.termwiz_base.specs.declared.mouse.MouseButton.{MouseButton}
use Rattle.termwiz_base.specs.declared.mouse.MouseButton.TheVariants as button
use Rattle.termwiz_base.specs.declared.mouse.MouseReport.TheVariants.{SGR1006}
use Rattle.termwiz_senders.specs.MouseTexts.{mouse_text}
use Rattle.termwiz_senders.specs.Pastes.{paste_text}
use Rattle.termwiz_senders.specs.declared.mouse.MouseEncoding.{MouseEncoding}
use Rattle.termwiz_senders.specs.declared.mouse.MouseEncoding.TheVariants.{Default, Urxvt, Sgr}
use Rattle.termwiz_senders.specs.declared.mouse.MouseTracking.{MouseTracking}
use Rattle.termwiz_senders.specs.declared.mouse.MouseTracking.TheVariants.{X10, Normal, Button, Any}
use Rattle.hedrugal.specs.declared.sender_calls.Asked.{Asked}
use Rattle.hedrugal.specs.declared.sender_calls.CSentMouse.{CSentMouse}
use Rattle.hedrugal.specs.Calls.{copied}

-- what happened to which button, by its number
abbrev pub button_in : ℕ → Option MouseButton
button_in number =
    if number == 0 then Some button.None
    else (if number == 1 then Some button.Button1Press
    else (if number == 2 then Some button.Button2Press
    else (if number == 3 then Some button.Button3Press
    else (if number == 4 then Some button.Button4Press
    else (if number == 5 then Some button.Button5Press
    else (if number == 6 then Some button.Button6Press
    else (if number == 7 then Some button.Button7Press
    else (if number == 8 then Some button.Button1Release
    else (if number == 9 then Some button.Button2Release
    else (if number == 10 then Some button.Button3Release
    else (if number == 11 then Some button.Button4Release
    else (if number == 12 then Some button.Button5Release
    else (if number == 13 then Some button.Button6Release
    else (if number == 14 then Some button.Button7Release
    else (if number == 15 then Some button.Button1Drag
    else (if number == 16 then Some button.Button2Drag
    else (if number == 17 then Some button.Button3Drag
    else None)))))))))))))))))

-- the modifiers of these bits of Kitty's, of which those of the port are twice; none if there are others than SHIFT, ALT, CTRL and SUPER
abbrev pub modifiers_in : ℕ → Option Modifiers
modifiers_in bits = if nat_le bits 15 then Some (record { 0 = 2 * bits }) else None

-- which reports a program asked for, by its number
abbrev pub tracking_in : ℕ → Option MouseTracking
tracking_in number =
    if number == 0 then Some X10
    else (if number == 1 then Some Normal
    else (if number == 2 then Some Button
    else (if number == 3 then Some Any
    else None)))

-- how reports are written, by its number
abbrev pub encoding_in : ℕ → Option MouseEncoding
encoding_in number =
    if number == 0 then Some Default
    else (if number == 1 then Some Urxvt
    else (if number == 2 then Some Sgr
    else None))

-- what numbers ask to be sent; none if one of them names nothing
abbrev pub asked_in : CSentMouse → ℕ → ℕ → Option Asked
asked_in numbers tracking encoding =
    option_and_then (λ b. option_and_then (λ held. option_and_then (λ by. option_map (λ how. record {
      report = SGR1006 numbers.x numbers.y b held;
      tracking = by;
      encoding = how;
    }) (encoding_in encoding)) (tracking_in tracking)) (modifiers_in numbers.modifiers)) (button_in numbers.button)

-- the bytes that are asked for; none if the place is too far
abbrev pub asked_text : Asked → Option (List ℕ)
asked_text asked = mouse_text asked.report asked.tracking asked.encoding

-- the report is sent so: `out` has as much of the bytes as it has room for, and `len` is how many they are
abbrev pub WroteMouse : CSentMouse → ℕ → ℕ → List ℕ → List ℕ → ℕ → Type 0
WroteMouse numbers tracking encoding before after len =
    (asked : Asked) × (sent : List ℕ) × (asked_in numbers tracking encoding ≡ Some asked) × (asked_text asked ≡ Some sent)
    × (len ≡ length sent) × (after ≡ copied sent before)

-- the encoding can't tell the place
abbrev pub IsTooFar : CSentMouse → ℕ → ℕ → Type 0
IsTooFar numbers tracking encoding =
    (asked : Asked) × (asked_in numbers tracking encoding ≡ Some asked) × (asked_text asked ≡ None)

-- the text is sent so: `out` has as much of the bytes as it has room for, and `len` is how many they are
abbrev pub WrotePaste : List ℕ → Bool → List ℕ → List ℕ → ℕ → Type 0
WrotePaste text bracketed before after len =
    (len ≡ length (paste_text text bracketed)) × (after ≡ copied (paste_text text bracketed) before)
