use Rattle.std.proofs.Common.{◌<◌, length, arith}
use Rattle.hedrugal.proofs.QuestionLists.{kept_here, not_kept_here}
use Rattle.hedrugal.proofs.questions.keep_open.Goals as goal
use Rattle.hedrugal.proofs.questions.keep_open.Goals.{then-now-question, else-now-question}

pub loop-i-preserved : goal.loop-i-preserved
loop-i-preserved c = let inside : c.loop-i.i < length c.loop-i.questions = omega arith in
    elim c.if-now-question.branch [
      | then-now-question w ↦ rw (w.questions-is, w.kept-is) (kept_here _ _ _ _ _ _ c.loop-i.invariant inside w.if-now-question.true)
      | else-now-question w ↦ rw (w.questions-is, w.kept-is) (not_kept_here _ _ _ _ _ _ c.loop-i.invariant inside w.if-now-question.false)
    ]
