use Rattle.std.proofs.Common.{◌<◌, length, arith, ◌∙◌, ap}
use Rattle.hedrugal.specs.Questions.{after_position}
use Rattle.hedrugal.proofs.QuestionLists.{one_position_less}
use Rattle.hedrugal.proofs.questions.note_position.Goals as goal

pub returns-then-questions-i-gt0 : goal.returns-then-questions-i-gt0
returns-then-questions-i-gt0 c = let inside : c.loop-i.i < length c.loop-i.questions = omega arith in
    one_position_less _ _ _ inside c.if-questions-i-gt0.true c.loop-i.invariant.rest ∙ ap after_position c.loop-i.invariant.same
