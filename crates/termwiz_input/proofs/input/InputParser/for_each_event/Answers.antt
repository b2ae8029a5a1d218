use Rattle.std.proofs.Common.{◌∷◌, [], arith}
use Rattle.termwiz_input.proofs.lemmas.pieces.CallSequence.{given_one_more, may_give_more}
use Rattle.termwiz_grammar.proofs.lemmas.cuts.FewEvents.{few_events}
use Rattle.termwiz_input.proofs.input.InputParser.for_each_event.Goals as goal

pub callback-requires : goal.callback-requires
callback-requires g c =
    let step = rw c.in-Some.is at c.in_ok-event.ensures.event in
    (c.loop-event.invariant.callable (c.in-Some.event ∷ []) _ step).0

pub loop-event-smaller : goal.loop-event-smaller
loop-event-smaller g c =
    let step = rw c.in-Some.is at c.in_ok-event.ensures.event in
    omega (
      arith,
      few_events c.loop-event.self c.next_event.new.self (c.in-Some.event ∷ []) c.args.maybe_more step,
    )

pub loop-event-preserved : goal.loop-event-preserved
loop-event-preserved g c =
    let now = c.loop-event.callback in
    let next = c.callback.new.self in
    let step = rw c.in-Some.is at c.in_ok-event.ensures.event in
    record {
      given = given_one_more g.F.FnMut c.args.maybe_more _ _ c.loop-event.self now c.in-Some.event
          c.next_event.new.self next c.loop-event.invariant.given step c.callback.ensures;
      callable = may_give_more g.F.FnMut c.args.maybe_more c.loop-event.self now c.in-Some.event
          c.next_event.new.self next c.loop-event.invariant.callable step c.callback.ensures;
    }
