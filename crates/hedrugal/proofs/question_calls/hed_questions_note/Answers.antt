use Rattle.std.proofs.Common.{◌≤◌, arith, refl}
use Rattle.hedrugal.specs.Questions.{held_by, positions_to_come}
use Rattle.hedrugal.proofs.QuestionSteps.{by_calls}
use Rattle.hedrugal.proofs.question_calls.hed_questions_note.Goals as goal

pub returns-clause-steps : goal.returns-clause-steps
returns-clause-steps c = λ _ _.
    let few : positions_to_come (held_by c.note.new.self) ≤ 255 = omega arith in
    let held = c.in-Some.held.now in
    by_calls _ held (record held { parser = c.expect_positions.new.parser }) _ c.in-Some.ensures.some few c.expect_positions.ensures refl
