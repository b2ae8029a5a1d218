use Rattle.test_calls.proofs.GoneOn.{again, resumes_port, without_bytes}
use Rattle.test_calls.proofs.parses.parse_as_vec.Goals as goal
use Rattle.test_calls.proofs.parses.parse_as_vec.Goals.{then-taken, else-taken}

pub returns : goal.returns
returns c =
    let refused = c.in-Err.ensures in
    let means = c.in_ok-later.ensures.ok in
    elim c.if-taken.branch [
      | then-taken w ↦ without_bytes _ _ _ _ _ _ _ c.of-left.ensures (resumes_port c.resumes.ensures) _ _
          w.if-taken.true (refused.taken w.if-taken.true) (rw w.rest-is at means)
      | else-taken w ↦ again _ _ _ _ _ _ _ c.of-left.ensures _ _ w.if-taken.false
          (refused.not_taken_none w.if-taken.false) (refused.not_taken_same w.if-taken.false) (rw w.rest-is at means)
    ]
