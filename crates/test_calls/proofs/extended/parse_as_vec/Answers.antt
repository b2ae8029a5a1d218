use Rattle.std.proofs.Common.{ap, append-nil}
use Rattle.test_calls.proofs.GoneOn.{again, gone_on, resumes_extended}
use Rattle.test_calls.proofs.extended.parse_as_vec.Goals as goal
use Rattle.test_calls.proofs.extended.parse_as_vec.Goals.{then-taken, else-taken}

pub returns : goal.returns
returns c =
    let refused = c.in-Err.ensures in
    let means = c.in_ok-later.ensures.ok in
    elim c.if-taken.branch [
      | then-taken w ↦ gone_on _ _ _ _ _ _ _ c.left_in-left.ensures _ _ w.if-taken.true (refused.taken w.if-taken.true)
          (resumes_extended c.resumes.ensures _ _ _ _ _ _ (refused.taken w.if-taken.true)
          (rw append-nil at (rw (refused.taken_reading w.if-taken.true, w.rest-is) at means)))
      | else-taken w ↦ again _ _ _ _ _ _ _ c.left_in-left.ensures _ _ w.if-taken.false
          (refused.not_taken_none w.if-taken.false) (ap (λ p. p.text) (refused.not_taken_same w.if-taken.false))
          (rw (ap (λ p. p.reading) (refused.not_taken_same w.if-taken.false), w.rest-is) at means)
    ]
