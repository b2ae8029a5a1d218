use Rattle.std.proofs.Common.{List, subst}
use Rattle.std.specs.Prelude.{◌↔◌, IsTrue}
use Rattle.termwiz_bindings.specs.declared.press.KeyPress.{KeyPress}
use Rattle.termwiz_bindings.specs.Bindings.{find as value_of}
use Rattle.termwiz_bindings.specs.Matchers.{DecidesFirst}
use Rattle.termwiz_bindings.specs.Matching.{IsContinued}
use Rattle.termwiz_bindings.proofs.lemmas.CodedPresses.{read_as}
use Rattle.termwiz_bindings.proofs.matcher.front_of.Goals as goal

pub returns-clause-outcome : goal.returns-clause-outcome
returns-clause-outcome g c =
    subst (λ (presses : List KeyPress). DecidesFirst (value_of c.args.bindings.now) presses c.front_of_codes.result.outcome)
    (read_as c.codes.result.now c.args.presses.now c.codes.ensures.codes c.codes.ensures.chord) c.front_of_codes.ensures.outcome

pub returns-clause-goes_on : goal.returns-clause-goes_on
returns-clause-goes_on g c =
    subst (λ (presses : List KeyPress). IsTrue c.front_of_codes.result.goes_on ↔ IsContinued (value_of c.args.bindings.now) presses)
    (read_as c.codes.result.now c.args.presses.now c.codes.ensures.codes c.codes.ensures.chord) c.front_of_codes.ensures.goes_on
