use Rattle.std.proofs.Common.{arith}
use Rattle.termwiz_input.proofs.lemmas.pastes.HeldBack.{no_character}
use Rattle.termwiz_input.proofs.held.character_begun.Goals as goal

pub returns : goal.returns
returns c = record {
  within = omega arith;
  here = λ some. absurd (omega arith);
  none = λ _. no_character c.args.text.now c.min-end.result c.min-end.ensures
      (λ k low below. c.loop-len.invariant k low (omega (arith, c.loop-len-test.false)));
}
