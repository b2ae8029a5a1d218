use Rattle.std.proofs.Common.{◌≡◌, ◌∙◌, ◌+◌, true, false, inl, arith}
use Rattle.termwiz_bindings.specs.Letters.{has_near_capital, has_far_capital}
use Rattle.termwiz_bindings.proofs.lemmas.CasedLetters.{near_within, far_within, made, near_letter, far_letter}
use Rattle.termwiz_bindings.proofs.press.letters.letter_of.Goals as goal

pub returns-then-has_near_capital : goal.returns-then-has_near_capital
returns-then-has_near_capital c =
    let near : has_near_capital (c.from-number.result + 32) ≡ true = cc in
    let within = near_within (c.from-number.result + 32) near in
    made _ c.from_u32.result (c.from-number.result + 32) c.from_u32.ensures.value
    (c.from_u32.ensures.succeeds (inl (omega (arith, within.1))))
    ∙ cc (near_letter c.from-number.result near)

pub returns-then-has_far_capital : goal.returns-then-has_far_capital
returns-then-has_far_capital c =
    let other : has_near_capital (c.from-number.result + 32) ≡ false = cc in
    let far : has_far_capital (c.from-number.result + 80) ≡ true = cc in
    let within = far_within (c.from-number.result + 80) far in
    made _ c.from_u32-then-has_far_capital.result (c.from-number.result + 80) c.from_u32-then-has_far_capital.ensures.value
    (c.from_u32-then-has_far_capital.ensures.succeeds (inl (omega (arith, within.1))))
    ∙ cc (far_letter c.from-number.result other far)
