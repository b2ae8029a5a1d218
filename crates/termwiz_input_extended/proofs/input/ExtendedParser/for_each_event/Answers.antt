use Rattle.std.proofs.Common.{◌∷◌, [], ◌∙◌, arith}
use Rattle.termwiz_extended_grammar.proofs.lemmas.cuts.ExtendedCuts.{few_events}
use Rattle.termwiz_input_extended.proofs.lemmas.calls.EventCalls.{given_one_more, may_give_more}
use Rattle.termwiz_input_extended.proofs.input.ExtendedParser.for_each_event.Goals as goal

pub callback-requires : goal.callback-requires
callback-requires g c =
    let step = rw c.in-Some.is at c.in_ok-event.ensures.event in
    (c.loop-event.invariant.callable (c.in-Some.event ∷ []) _ step).0

pub loop-event-smaller : goal.loop-event-smaller
loop-event-smaller g c =
    let step = rw c.in-Some.is at c.in_ok-event.ensures.event in
    omega (
      arith,
      few_events c.loop-event.self.reading c.loop-event.self.text c.next_event.new.self.text (c.in-Some.event ∷ []) c.args.maybe_more
          step,
    )

pub loop-event-preserved : goal.loop-event-preserved
loop-event-preserved g c =
    let here = c.loop-event.self in
    let now = c.loop-event.callback in
    let left = c.next_event.new.self in
    let next = c.callback.new.self in
    let step = rw c.in-Some.is at c.in_ok-event.ensures.event in
    let reading = rw c.in-Some.is at c.in_ok-event.ensures.reading in
    record {
      dialect = c.in_ok-event.ensures.dialect ∙ c.loop-event.invariant.dialect;
      given = given_one_more g.F.FnMut c.args.maybe_more c.args.self.now _ here now c.in-Some.event left next
          c.loop-event.invariant.given step reading c.callback.ensures;
      callable = may_give_more g.F.FnMut c.args.maybe_more here now c.in-Some.event left next c.loop-event.invariant.callable step
          reading c.callback.ensures;
    }
