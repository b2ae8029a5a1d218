use Rattle.std.proofs.Common.{[], refl, sym, ap, append-nil}
use Rattle.test_calls.proofs.GoneOn.{again, gone_on, resumes_extended}
use Rattle.test_calls.proofs.extended.parse.Goals as goal

pub parse-requires : goal.parse-requires
parse-requires g c = λ events rest steps. c.requires.first.at _

pub parse-requires-in-Err-NotTaken : goal.parse-requires-in-Err-NotTaken
parse-requires-in-Err-NotTaken g c = λ events rest steps. c.requires.later.at _

pub parse-requires-in-Err-Taken : goal.parse-requires-in-Err-Taken
parse-requires-in-Err-Taken g c = λ events rest steps. c.requires.later.at _

pub returns-in_ok-parse-in-Err-NotTaken : goal.returns-in_ok-parse-in-Err-NotTaken
returns-in_ok-parse-in-Err-NotTaken g c =
    let is = c.in-Err-NotTaken.field-0-is in
    let refused = c.in-Err-NotTaken.ensures in
    let same = refused.not_taken_same (cc (is)) in
    let (events, means, _, calls) = c.in_ok-parse-in-Err-NotTaken.ensures.ok in (
      [],
      events,
      sym (refused.not_taken_quiet (cc (is))),
      calls,
      again _ _ _ _ _ _ _ c.left_in-left.ensures [] events refl refl (ap (λ p. p.text) same)
          (rw (ap (λ p. p.reading) same) at means),
    )

pub returns-in_ok-parse-in-Err-Taken : goal.returns-in_ok-parse-in-Err-Taken
returns-in_ok-parse-in-Err-Taken g c =
    let (given, steps, reads, first) = c.in-Err-Taken.ensures.taken (cc (c.in-Err-Taken.field-0-is)) in
    let (events, means, _, calls) = c.in_ok-parse-in-Err-Taken.ensures.ok in (
      given,
      events,
      first,
      calls,
      gone_on _ _ _ _ _ _ _ c.left_in-left-in-Err-Taken.ensures given events refl steps
          (resumes_extended c.resumes.ensures _ _ _ _ given events steps (rw append-nil at (rw reads at means))),
    )
