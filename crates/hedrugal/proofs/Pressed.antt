-- What the numbers of a key say of its text.
use Rattle.std.proofs.Common.{◌≡◌, ◌↔◌, ℕ, Bool, true, false, List, [], Option, Some, Result, Ok, Err, refl, sym, ap, subst}
use Rattle.std.specs.Prelude.{IsTrue}
use Rattle.termwiz_input.specs.Encoding.{enc, unhandled}
use Rattle.termwiz_input.specs.EncodeError.{EncodeError}
use Rattle.termwiz_input.specs.EncodeError.TheVariants.{Memory, UnhandledFunctionKey}
use Rattle.hedrugal.specs.declared.modes.CModes.{CModes}
use Rattle.hedrugal.specs.declared.modes.Press.{Press}
use Rattle.hedrugal.specs.Presses.{HasNoText, IsBad, IsPress, sent}

-- what is sent, by what `encode` says of a key that is down and of one that is up
pub sent_is : (press : Press) (is_down : Bool) (text : List ℕ)
    → (IsTrue is_down → enc press.key press.modifiers press.modes ≡ Some text) → (is_down ≡ false → text ≡ [])
    → sent press is_down ≡ Some text
sent_is press true text down up = down refl
sent_is press false text down up = ap Some (sym (up refl))

module _ (key detail bits : ℕ) (is_down : Bool) (modes : CModes) (found : Press) (only : (press : Press)
    → (◌≡◌ {A = Option Press} (Some found) (Some press)) ↔ IsPress press key detail bits modes) where
  -- the numbers stand for something
  pub not_bad : IsBad key detail bits modes → ⊥
  not_bad bad = bad found ((only found).0 refl)

  module _ {T : Type 0} (result : Result T EncodeError) (refused : (n : ℕ)
      → (result ≡ Err (UnhandledFunctionKey n)) ↔ (IsTrue is_down × (unhandled found.key ≡ Some n))) where
    -- `encode` refused the key
    pub has_no_text : (n : ℕ) → result ≡ Err (UnhandledFunctionKey n) → HasNoText key detail bits is_down modes
    has_no_text n is = (found, n, (only found).0 refl, ((refused n).0 is).0, ((refused n).0 is).1)

    pub was_refused : HasNoText key detail bits is_down modes → (n : ℕ) × (result ≡ Err (UnhandledFunctionKey n))
    was_refused (press, n, pressed, down, none) =
        let e = (only press).1 pressed in
        let same : press ≡ found = cc (e) in
        (n, (refused n).1 (down, subst (λ (p : Press). unhandled p.key ≡ Some n) same none))

    -- so there is a text, if it gave one or was refused memory
    pub has_text : (text : T) → result ≡ Ok text → HasNoText key detail bits is_down modes → ⊥
    has_text text is none = let was = was_refused none in absurd (cc (was.1, is))

    pub may_have_text : result ≡ Err Memory → HasNoText key detail bits is_down modes → ⊥
    may_have_text is none = let was = was_refused none in absurd (cc (was.1, is))
