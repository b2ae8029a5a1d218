-- The name of a key, by that of the key without what it carries.
use Rattle.std.proofs.Common.{◌≡◌, Option, Some, refl, ap, ◌∙◌}
use Rattle.termwiz_input.specs.KeyCode.{KeyCode}
use Rattle.termwiz_input.specs.KeyCode.TheVariants.{Char, Function}
use Rattle.event_text.specs.Names.{variant_name}
use Rattle.termwiz_bindings.specs.Numbers.{bare}

name_of_bare : (key : KeyCode) → variant_name (bare key) ≡ variant_name key
unfolding variant_name bare
name_of_bare (Char character) = refl
name_of_bare (Function number) = refl
name_of_bare key = refl

pub name_of : (found key : KeyCode) → ◌≡◌ {A = Option KeyCode} (Some found) (Some (bare key))
    → variant_name found ≡ variant_name key
name_of found key is = let same : found ≡ bare key = cc (is) in ap variant_name same ∙ name_of_bare key
