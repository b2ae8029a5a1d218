-- The presses of keys, as C has them.
use Rattle.std.specs.Prelude.{◌≡◌, ℕ, List, Some, None}
use Rattle.std.specs.Str.{IsUtf8}
use Rattle.termwiz_extended_events.specs.declared.types.KeyReport.{KeyReport}
use Rattle.termwiz_bindings.specs.declared.press.KeyPress.{KeyPress}
use Rattle.termwiz_bindings.specs.Presses.{canonical, second}
use Rattle.termwiz_bindings.specs.Numbers.{reported_number, reported_detail}
use Rattle.hedrugal.specs.declared.events.CEvent.{CEvent}
use Rattle.hedrugal.specs.declared.press_calls.CKeyPress.{CKeyPress}
use Rattle.hedrugal.specs.KittyCalls.{StandForKey}

-- a press in numbers
abbrev pub c_press : KeyPress → CKeyPress
c_press p = record { key = reported_number p.key; held = p.held; detail = reported_detail p.key }

-- the numbers and the text stand for a key, whose press was written
abbrev pub WrotePress : CEvent → List ℕ → CKeyPress → Type 0
WrotePress numbers text after =
    (r : KeyReport) × (p : KeyPress) × StandForKey numbers r × (r.text ≡ text) × IsUtf8 text
    × (canonical r ≡ Some p) × (after ≡ c_press p)

-- a key for which the numbers and the text stand has no press
abbrev pub HasNoPress : CEvent → List ℕ → Type 0
HasNoPress numbers text = (r : KeyReport) → StandForKey numbers r → r.text ≡ text → IsUtf8 text → canonical r ≡ None

-- the numbers stand for a key, whose second press was written
abbrev pub WroteSecondPress : CEvent → CKeyPress → Type 0
WroteSecondPress numbers after =
    (r : KeyReport) × (p : KeyPress) × StandForKey numbers r × (second r ≡ Some p) × (after ≡ c_press p)

-- a key for which the numbers stand has no second press
abbrev pub HasNoSecondPress : CEvent → Type 0
HasNoSecondPress numbers = (r : KeyReport) → StandForKey numbers r → second r ≡ None

-- the numbers are those of no key
abbrev pub IsBadKey : CEvent → Type 0
IsBadKey numbers = (r : KeyReport) → ¬ StandForKey numbers r
