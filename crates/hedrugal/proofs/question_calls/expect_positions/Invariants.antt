use Rattle.std.proofs.Common.{◌≡◌}
use Rattle.hedrugal.specs.QuestionCalls.{expecting}
use Rattle.hedrugal.proofs.question_calls.expect_positions.Given as goal

abbrev pub invariant-loop : goal.invariant-loop
invariant-loop l = l.parser ≡ expecting l.initial.parser l.counter
