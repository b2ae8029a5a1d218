use Rattle.std.proofs.Common.{◌≡◌, ◌++◌, take, drop}
use Rattle.hedrugal.specs.Questions.{after_position}
use Rattle.hedrugal.proofs.questions.note_position.Given as goal

abbrev pub invariant-loop-i : goal.invariant-loop-i
invariant-loop-i l = record {
  same : l.questions ≡ l.initial.questions;
  rest : after_position l.questions ≡ take l.i l.questions ++ after_position (drop l.i l.questions);
}
