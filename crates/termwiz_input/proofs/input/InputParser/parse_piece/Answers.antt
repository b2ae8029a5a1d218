use Rattle.std.proofs.Common.{rules, of_calls, subst}
use Rattle.std.proofs.lemmas.Result.{on_ok_weaker}
use Rattle.termwiz_input.specs.Callbacks.{WasCalledOnNumbered}
use Rattle.termwiz_input.specs.Pieces.{numbered}
use Rattle.termwiz_input.proofs.lemmas.pieces.CallSequence.{may_pass_on, passed_on}
use Rattle.termwiz_input.proofs.input.InputParser.parse_piece.Goals as goal

-- After the call `callback` is what the closure's reference to it last held. Hence `leads`: that reference still leads there.

pub parse-requires : goal.parse-requires
parse-requires g c = λ events rest steps.
    may_pass_on g.F.FnMut _ (λ s event may. may) (λ s event t called. search (rules, of_calls))
    _ events (c.requires events rest steps)

pub returns-clause-ok : goal.returns-clause-ok
returns-clause-ok g c = on_ok_weaker c.parse.result (λ given.
    let (calls, leads) = passed_on g.F.FnMut _ (λ s event t called. search (rules, of_calls)) _ given.0 _ given.2 in (
      given.0,
      given.1,
      subst (λ last. WasCalledOnNumbered (goal.F-step g) c.args.callback.now (numbered c.args.number given.0) last)
          (search (rules, leads)) calls,
    )) c.parse.ensures.ok

pub returns-clause-taken : goal.returns-clause-taken
returns-clause-taken g c = λ was.
    let given = c.parse.ensures.taken was in
    let (calls, leads) = passed_on g.F.FnMut _ (λ s event t called. search (rules, of_calls)) _ given.0 _ given.2 in (
      given.0,
      given.1,
      subst (λ last. WasCalledOnNumbered (goal.F-step g) c.args.callback.now (numbered c.args.number given.0) last)
          (search (rules, leads)) calls,
    )
