use Rattle.std.proofs.Common.{refl, append-nil}
use Rattle.test_calls.proofs.GoneOn.{gone_on, resumes_extended}
use Rattle.test_calls.proofs.extended.for_each_event.Goals as goal

pub for_each_event-requires : goal.for_each_event-requires
for_each_event-requires g c = λ events rest steps. c.requires.first.at _

pub for_each_event-requires-in-Err : goal.for_each_event-requires-in-Err
for_each_event-requires-in-Err g c = λ events rest steps. c.requires.later.at _

pub returns-in_ok-for_each_event-in-Err : goal.returns-in_ok-for_each_event-in-Err
returns-in_ok-for_each_event-in-Err g c =
    let (given, steps, reads, first) = c.in-Err.ensures.refused in
    let (events, means, _, calls) = c.in_ok-for_each_event-in-Err.ensures.ok in (
      given,
      events,
      first,
      calls,
      gone_on _ _ _ _ _ _ _ c.left_in-left.ensures given events refl (rw append-nil steps)
          (resumes_extended c.resumes.ensures _ _ _ _ given events (rw append-nil steps) (rw reads at means)),
    )
