-- The modifiers that a report tells: exactly SHIFT, ALT and CTRL are told again.
use Rattle.std.proofs.Common.{◌≡◌, ℕ, ◌+◌, Bool, true, false, refl, arith}
use Rattle.std.specs.Prelude.{◌==◌, if◌then◌else◌}
use Rattle.std.specs.Int.RustNames.{bit_and}
use Rattle.std.proofs.lemmas.Bool.Decides.{nat_tests}
use Rattle.termwiz_base.specs.Mouse.{modifiers_of}
use Rattle.termwiz_base.specs.declared.modifiers.Modifiers.{Modifiers}
use Rattle.termwiz_keys.specs.Keys.{SHIFT, ALT, CTRL}
use Rattle.termwiz_senders.specs.declared.mouse.MouseTracking.TheVariants.{Any}
use Rattle.termwiz_senders.specs.EventTexts.{tells_modifiers}
use Rattle.termwiz_senders.specs.MouseTexts.{counted}

-- they are those that are held
pub told_again : (held : Modifiers) → tells_modifiers held ≡ true → counted SHIFT ALT CTRL Any held.0 ≡ held.0
told_again held e = grind (arith, nat_tests)

all_counted : (e f g : Bool) → counted SHIFT ALT CTRL Any ((if e then 0 else 2) + (if f then 0 else 4) + (if g then 0 else 8))
    ≡ (if e then 0 else 2) + (if f then 0 else 4) + (if g then 0 else 8)
all_counted true true true = refl
all_counted true true false = refl
all_counted true false true = refl
all_counted true false false = refl
all_counted false true true = refl
all_counted false true false = refl
all_counted false false true = refl
all_counted false false false = refl

-- and those of a code are told
pub code_tells : (code : ℕ) → tells_modifiers (modifiers_of code) ≡ true
unfolding modifiers_of
code_tells code =
    let same = all_counted (bit_and code 4 == 0) (bit_and code 8 == 0) (bit_and code 16 == 0) in
    equal _ _ same
  where
    equal : (a b : ℕ) → a ≡ b → (b == a) ≡ true
    equal a b h = grind (arith, nat_tests)
