use Rattle.std.proofs.Common.{◌≡◌, ◌∙◌, ℕ, Bool, true, false, List, refl, ap, None}
use Rattle.std.specs.Prelude.{if◌then◌else◌}
use Rattle.std.specs.Str.{IsUtf8, is_utf8, chars}
use Rattle.std.proofs.lemmas.Str.{IsUtf8-from_is_utf8, is_utf8-from_IsUtf8}
use Rattle.termwiz_bindings.specs.Names.{one_character, only_character}
use Rattle.termwiz_bindings.proofs.names.keys.one_character.Goals as goal

whole : (name : List ℕ) → IsUtf8 name → only_character (chars name) ≡ one_character name
unfolding one_character
whole name utf8 = rw (is_utf8-from_IsUtf8 name utf8) refl

broken : (name : List ℕ) → ¬ (IsUtf8 name) → None ≡ one_character name
unfolding one_character
broken name not_utf8 = go (is_utf8 name) refl
  where
    go : (b : Bool) → is_utf8 name ≡ b → None ≡ (if b then only_character (chars name) else None)
    go true is = absurd (not_utf8 (IsUtf8-from_is_utf8 name is))
    go false is = refl

pub returns-in-Ok : goal.returns-in-Ok
returns-in-Ok c =
    let cases = c.in-Ok.ensures.cases in
    c.only_character.ensures ∙ ap (λ text. only_character (chars text)) cases.0 ∙ whole c.args.name.now cases.1

pub returns-in-Err : goal.returns-in-Err
returns-in-Err c = broken c.args.name.now c.in-Err.ensures.cases.0
