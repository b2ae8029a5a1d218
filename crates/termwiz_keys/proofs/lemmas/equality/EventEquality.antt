-- The derived comparisons of events, and of what events are made of, answer whether two values are the same value.
use Rattle.std.proofs.Common.{◌≡◌, ◌==◌, ◌↔◌, ◌&&◌, ℕ, Bool, IsTrue, refl, ap, arith}
use Rattle.std.proofs.lemmas.Bool.Decides.{Decides-eqb, Decides-and}
use Rattle.std.proofs.lemmas.Grind.{common_steps}
use Rattle.std.specs.Cmp.Lexicographic.{bytes_decides}
use Rattle.termwiz_keys.specs.contracts.types.KeyCode.{enum}
use Rattle.termwiz_keys.specs.contracts.types.InputEvent.{enum as events}
use Rattle.termwiz_keys.specs.contracts.types.InputEventPartialEq.TheImpl.{ghosts as event}
use Rattle.termwiz_keys.specs.declared.types.InputEvent.{InputEvent}
use Rattle.termwiz_keys.specs.contracts.types.KeyCodePartialEq.TheImpl.{ghosts as key}
use Rattle.termwiz_keys.specs.contracts.types.KeyEventPartialEq.TheImpl.{ghosts as key_event}
use Rattle.termwiz_keys.specs.contracts.types.MouseEventPartialEq.TheImpl.{ghosts as mouse_event}
use Rattle.termwiz_keys.specs.contracts.types.PixelMouseEventPartialEq.TheImpl.{ghosts as pixel_mouse_event}
use Rattle.termwiz_keys.specs.contracts.types.PastedTextPartialEq.TheImpl.{ghosts as pasted_text}
use Rattle.termwiz_keys.specs.declared.types.KeyCode.{KeyCode}
use Rattle.termwiz_keys.specs.declared.types.KeyEvent.{KeyEvent}
use Rattle.termwiz_keys.specs.declared.types.MouseEvent.{MouseEvent}
use Rattle.termwiz_keys.specs.declared.types.PixelMouseEvent.{PixelMouseEvent}
use Rattle.termwiz_keys.specs.declared.types.PastedText.{PastedText}
use Rattle.termwiz_keys.proofs.lemmas.equality.VariantEquality.{tells_same, one_field}

same_keys_by : (a b : KeyCode) (r : Bool) → r ≡ key.eq a b → IsTrue r ↔ (a ≡ b)
same_keys_by a b r is = tells_same enum _ a b r is (one_field ◌==◌ Decides-eqb, (one_field ◌==◌ Decides-eqb, tt))

pub same_keys : (a b : KeyCode) → IsTrue (key.eq a b) ↔ (a ≡ b)
same_keys a b = same_keys_by a b (key.eq a b) refl

pub same_key_events : (a b : KeyEvent) → IsTrue (key_event.eq a b) ↔ (a ≡ b)
same_key_events a b =
    let tests = Decides-and (key.eq a.key b.key) (a.modifiers.0 == b.modifiers.0) (same_keys a.key b.key)
    (Decides-eqb a.modifiers.0 b.modifiers.0) in (
      λ h. let fields = tests.0 h in λ i. record { key = fields.0 i; modifiers = record { 0 = fields.1 i } },
      λ e. tests.1 (ap (λ (x : KeyEvent). x.key) e, ap (λ (x : KeyEvent). x.modifiers.0) e),
    )

same_mouse_events : (a b : MouseEvent) → IsTrue (mouse_event.eq a b) ↔ (a ≡ b)
same_mouse_events a b = grind (arith, common_steps)

same_pixel_mouse_events : (a b : PixelMouseEvent) → IsTrue (pixel_mouse_event.eq a b) ↔ (a ≡ b)
same_pixel_mouse_events a b = grind (arith, common_steps)

same_pasted_texts : (a b : PastedText) → IsTrue (pasted_text.eq a b) ↔ (a ≡ b)
same_pasted_texts a b = bytes_decides a b

-- the two numbers of a new size
same_sizes : (x y : ℕ × (ℕ × Unit {0})) → IsTrue ((x.0 == y.0) && (x.1.0 == y.1.0)) ↔ (x ≡ y)
same_sizes x y =
    let tests = Decides-and (x.0 == y.0) (x.1.0 == y.1.0) (Decides-eqb x.0 y.0) (Decides-eqb x.1.0 y.1.0) in (
      λ h. let sizes = tests.0 h in λ i. (sizes.0 i, (sizes.1 i, tt)),
      λ e. tests.1 (ap (λ p. p.0) e, ap (λ p. p.1.0) e),
    )

same_events_by : (a b : InputEvent) (r : Bool) → r ≡ event.eq a b → IsTrue r ↔ (a ≡ b)
same_events_by a b r is =
    tells_same events _ a b r is (
      one_field _ same_key_events,
      (
        one_field _ same_mouse_events,
        (one_field _ same_pixel_mouse_events, (same_sizes, (one_field _ same_pasted_texts, tt))),
      ),
    )

pub same_events : (a b : InputEvent) → IsTrue (event.eq a b) ↔ (a ≡ b)
same_events a b = same_events_by a b (event.eq a b) refl
