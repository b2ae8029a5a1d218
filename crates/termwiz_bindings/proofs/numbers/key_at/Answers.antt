use Rattle.std.proofs.Common.{◌-◌, ◌∙◌, Some, ap, arith, sym}
use Rattle.termwiz_bindings.proofs.lemmas.KeyNumbers.{number_at, place_is}
use Rattle.termwiz_bindings.proofs.numbers.key_at.Goals as goal

pub returns-in_default-clause-number : goal.returns-in_default-clause-number
returns-in_default-clause-number c = number_at (c.from.result - 1) _ (omega arith) ∙ omega arith

pub returns-in_default-clause-every : goal.returns-in_default-clause-every
returns-in_default-clause-every c = λ key is. ap Some (place_is key c.from.result _ (is ∙ sym c.from.ensures))
