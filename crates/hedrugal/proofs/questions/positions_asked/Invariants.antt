use Rattle.std.proofs.Common.{◌≡◌, ◌≤◌, ◌+◌, drop}
use Rattle.hedrugal.specs.Questions.{position_questions}
use Rattle.hedrugal.proofs.questions.positions_asked.Given as goal

abbrev pub invariant-loop-i : goal.invariant-loop-i
invariant-loop-i l = record {
  few : l.count ≤ l.i;
  rest : l.count + position_questions (drop l.i l.text) ≡ position_questions l.text;
}
