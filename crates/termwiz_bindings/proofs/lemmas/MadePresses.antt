-- What a report has is a press.
use Rattle.std.proofs.Common.{◌≡◌, Option, Some, None, sym}
use Rattle.std.specs.Prelude.{IfSome}
use Rattle.termwiz_extended_events.specs.declared.types.KeyReport.{KeyReport}
use Rattle.termwiz_bindings.specs.declared.press.KeyPress.{KeyPress}
use Rattle.termwiz_bindings.specs.Codes.{IsKeyInRange, IsPress}
use Rattle.termwiz_bindings.specs.Presses.{canonical}
use Rattle.termwiz_bindings.proofs.lemmas.SettledPresses.{presses_settle}

-- the press of a report whose key is in range
pub press_made : (r : KeyReport) (p : KeyPress) → canonical r ≡ Some p → IsKeyInRange p.key → IsPress p
press_made r p is inside = record { own = presses_settle r p is; in_range = inside }

-- the same of what may be no press
pub presses_made : (r : KeyReport) (o : Option KeyPress) → o ≡ canonical r → IfSome o (λ p. IsKeyInRange p.key) → IfSome o IsPress
presses_made r None is inside = inside
presses_made r (Some p) is inside = press_made r p (sym is) inside
