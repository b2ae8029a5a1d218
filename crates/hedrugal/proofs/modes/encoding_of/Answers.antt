use Rattle.std.proofs.Common.{◌≡◌, ℕ, refl, subst}
use Rattle.termwiz_base.specs.declared.kitty.KittyKeyboardFlags.{KittyKeyboardFlags}
use Rattle.termwiz_input.specs.KeyboardEncoding.{KeyboardEncoding}
use Rattle.termwiz_input.specs.KeyboardEncoding.TheVariants.{Xterm, CsiU, Win32, Kitty}
use Rattle.hedrugal.specs.Presses.{AreFlags, IsEncoding}
use Rattle.hedrugal.proofs.modes.encoding_of.Goals as goal

-- 3 is the number of kitty's encoding alone
only_kitty : (encoding : KeyboardEncoding) (flags : ℕ) → IsEncoding encoding 3 flags
    → (asked : KittyKeyboardFlags) × (encoding ≡ Kitty asked) × AreFlags asked flags
only_kitty Xterm flags is = absurd (cc (is))
only_kitty CsiU flags is = absurd (cc (is))
only_kitty Win32 flags is = absurd (cc (is))
only_kitty (Kitty asked) flags is = (asked, refl, is.1)

pub returns-in_err-flags_of-in-3 : goal.returns-in_err-flags_of-in-3
returns-in_err-flags_of-in-3 c = λ encoding. (
  λ is. absurd (cc (is, c.from_residual.ensures)),
  λ is.
      let kitty = only_kitty encoding _ (subst (λ n. IsEncoding encoding n c.args.kitty_flags) c.in-3.is is) in
      absurd (cc ((c.in_err-flags_of-in-3.ensures kitty.0).1 kitty.2)),
)

pub returns-in_ok-flags_of-in-3 : goal.returns-in_ok-flags_of-in-3
returns-in_ok-flags_of-in-3 c = λ encoding. (
  λ is.
      let same : Kitty c.in_ok-flags_of-in-3.field-0 ≡ encoding = cc (is) in
      subst (λ e. IsEncoding e c.args.number c.args.kitty_flags) same
      (c.in-3.is, (c.in_ok-flags_of-in-3.ensures c.in_ok-flags_of-in-3.field-0).0 refl),
  λ is.
      let kitty = only_kitty encoding _ (subst (λ n. IsEncoding encoding n c.args.kitty_flags) c.in-3.is is) in
      let same : c.in_ok-flags_of-in-3.field-0 ≡ kitty.0 = cc ((c.in_ok-flags_of-in-3.ensures kitty.0).1 kitty.2) in
      cc (same, kitty.1),
)
