use Rattle.std.proofs.Common.{◌++◌, ◌∙◌, ap, drop}
use Rattle.termwiz_keys.specs.Introducers.{START}
use Rattle.termwiz_input.proofs.lemmas.pastes.HeldBack.{left_bounded}
use Rattle.termwiz_input.proofs.input.InputParser.skip_paste.Goals as goal

pub returns-clause-bounded : goal.returns-clause-bounded
returns-clause-bounded c = λ _.
    left_bounded c.args.self.now c.drop_decided.new.self c.in_ok-end.end c.in_ok-end.ensures.decided
    (c.drop_decided.ensures ∙ ap (λ u. START ++ drop c.in_ok-end.end u) c.decided_end.ensures.same)
