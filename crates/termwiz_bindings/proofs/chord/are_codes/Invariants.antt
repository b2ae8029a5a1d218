use Rattle.std.proofs.Common.{length}
use Rattle.std.specs.Prelude.{◌↔◌}
use Rattle.termwiz_bindings.proofs.lemmas.PlainCodes.{AreOfPresses}
use Rattle.termwiz_bindings.proofs.chord.are_codes.Given as goal

abbrev pub invariant-loop-rest : goal.invariant-loop-rest
invariant-loop-rest l = AreOfPresses l.bytes ↔ AreOfPresses l.rest

abbrev pub decreases-loop-rest : goal.decreases-loop-rest
decreases-loop-rest l = length l.rest
