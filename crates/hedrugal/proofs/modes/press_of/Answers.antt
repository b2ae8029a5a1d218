use Rattle.std.proofs.Common.{◌≡◌, Some, ap}
use Rattle.termwiz_input.specs.KeyCodeEncodeModes.{KeyCodeEncodeModes}
use Rattle.termwiz_input.specs.KeyCode.{KeyCode}
use Rattle.termwiz_base.specs.declared.modifiers.Modifiers.{Modifiers}
use Rattle.hedrugal.specs.declared.modes.Press.{Press}
use Rattle.hedrugal.proofs.modes.press_of.Goals as goal

pub returns-in_err-key_of : goal.returns-in_err-key_of
returns-in_err-key_of c = λ press. (
  λ is. absurd (cc (is, c.from_residual.ensures)),
  λ pressed. absurd (cc ((c.in_err-key_of.ensures press.key).1 pressed.0)),
)

pub returns-in_err-modifiers_of : goal.returns-in_err-modifiers_of
returns-in_err-modifiers_of c = λ press. (
  λ is. absurd (cc (is, c.from_residual-in_err-modifiers_of.ensures)),
  λ pressed. absurd (cc ((c.in_err-modifiers_of.ensures press.modifiers).1 pressed.1)),
)

pub returns-in_err-modes_of : goal.returns-in_err-modes_of
returns-in_err-modes_of c = λ press. (
  λ is. absurd (cc (is, c.from_residual-in_err-modes_of.ensures)),
  λ pressed. absurd (cc ((c.in_err-modes_of.ensures press.modes).1 pressed.2)),
)

-- a press is its three parts
parts_of : (press : Press) (key : KeyCode) (modifiers : Modifiers) (modes : KeyCodeEncodeModes) → key ≡ press.key
    → modifiers ≡ press.modifiers → modes ≡ press.modes
    → ◌≡◌ {A = Press} (record { key = key; modifiers = modifiers; modes = modes }) press
parts_of press key modifiers modes k h m = λ i. record { key = k i; modifiers = h i; modes = m i }

pub returns : goal.returns
returns c = λ press. (
  λ is. let e : ◌≡◌ {A = Press} (record {
    key = c.in_ok-key_of.field-0;
    modifiers = c.in_ok-modifiers_of.field-0;
    modes = c.in_ok-modes_of.field-0;
  }) press = cc (is) in (
    (c.in_ok-key_of.ensures press.key).0 (ap (λ (p : Press). Some p.key) e),
    (c.in_ok-modifiers_of.ensures press.modifiers).0 (ap (λ (p : Press). Some p.modifiers) e),
    (c.in_ok-modes_of.ensures press.modes).0 (ap (λ (p : Press). Some p.modes) e),
  ),
  λ pressed.
      let key : c.in_ok-key_of.field-0 ≡ press.key = cc ((c.in_ok-key_of.ensures press.key).1 pressed.0) in
      let modifiers : c.in_ok-modifiers_of.field-0 ≡ press.modifiers =
      cc ((c.in_ok-modifiers_of.ensures press.modifiers).1 pressed.1) in
      let modes : c.in_ok-modes_of.field-0 ≡ press.modes = cc ((c.in_ok-modes_of.ensures press.modes).1 pressed.2) in
      ap Some (parts_of press _ _ _ key modifiers modes),
)
