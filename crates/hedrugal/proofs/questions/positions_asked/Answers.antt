use Rattle.std.proofs.Common.{◌∙◌, arith, sym}
use Rattle.std.proofs.lemmas.List.{take_rest}
use Rattle.hedrugal.proofs.QuestionLists.{asked_here, not_asked_here}
use Rattle.hedrugal.proofs.questions.positions_asked.Goals as goal
use Rattle.hedrugal.proofs.questions.positions_asked.Goals.{then-starts_with, else-starts_with}

pub loop-i-preserved : goal.loop-i-preserved
loop-i-preserved c = let told = simp take_rest at c.starts_with.ensures.value in
    elim c.if-starts_with.branch [
      | then-starts_with w ↦ rw w.count-is (record {
        few = omega arith;
        rest = asked_here _ _ _ c.loop-i-test.true (sym told ∙ w.if-starts_with.true) c.loop-i.invariant.rest;
      })
      | else-starts_with w ↦ rw w.count-is (record {
        few = omega arith;
        rest = not_asked_here _ _ _ c.loop-i-test.true (sym told ∙ w.if-starts_with.false) c.loop-i.invariant.rest;
      })
    ]
