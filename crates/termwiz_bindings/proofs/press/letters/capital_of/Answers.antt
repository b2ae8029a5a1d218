use Rattle.std.proofs.Common.{◌≡◌, ◌∙◌, ◌-◌, true, false, inl, arith}
use Rattle.termwiz_bindings.specs.Letters.{has_near_capital, has_far_capital}
use Rattle.termwiz_bindings.proofs.lemmas.CasedLetters.{near_within, far_within, made, near_capital, far_capital}
use Rattle.termwiz_bindings.proofs.press.letters.capital_of.Goals as goal

pub overflow_sub-number : goal.overflow_sub-number
overflow_sub-number c =
    let near : has_near_capital c.from-number.result ≡ true = cc in
    omega (arith, (near_within c.from-number.result near).0)

pub overflow_sub-number-then-has_far_capital : goal.overflow_sub-number-then-has_far_capital
overflow_sub-number-then-has_far_capital c =
    let far : has_far_capital c.from-number.result ≡ true = cc in
    omega (arith, (far_within c.from-number.result far).0)

pub returns-then-has_near_capital : goal.returns-then-has_near_capital
returns-then-has_near_capital c =
    let near : has_near_capital c.from-number.result ≡ true = cc in
    let within = near_within c.from-number.result near in
    made _ c.from_u32.result (c.from-number.result - 32) c.from_u32.ensures.value
    (c.from_u32.ensures.succeeds (inl (omega (arith, within.1))))
    ∙ cc (near_capital c.from-number.result near)

pub returns-then-has_far_capital : goal.returns-then-has_far_capital
returns-then-has_far_capital c =
    let other : has_near_capital c.from-number.result ≡ false = cc in
    let far : has_far_capital c.from-number.result ≡ true = cc in
    let within = far_within c.from-number.result far in
    made _ c.from_u32-then-has_far_capital.result (c.from-number.result - 80) c.from_u32-then-has_far_capital.ensures.value
    (c.from_u32-then-has_far_capital.ensures.succeeds (inl (omega (arith, within.1))))
    ∙ cc (far_capital c.from-number.result other far)
