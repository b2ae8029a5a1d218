use Rattle.std.proofs.Common.{◌≡◌, List, ℕ, length}
use Rattle.termwiz_extended_events.specs.declared.types.Event.{Event}
use Rattle.termwiz_extended_grammar.specs.ExtendedGrammar.{Steps}
use Rattle.termwiz_extended_grammar.specs.Readings.{after_events}
use Rattle.termwiz_input_extended.specs.EventCallbacks.{MayBeCalledOn, WasCalledOn}
use Rattle.termwiz_input_extended.proofs.input.ExtendedParser.for_each_event.Given as goal

abbrev pub invariant-loop-event : goal.invariant-loop-event
invariant-loop-event g l = record {
  dialect : l.self.reading.dialect ≡ l.fn.self.reading.dialect;
  given : (events : List Event)
      × Steps l.fn.self.reading l.fn.self.text l.fn.maybe_more events l.self.text
      × (l.self.reading ≡ after_events l.fn.self.reading events)
      × WasCalledOn (goal.F-step g) l.fn.callback events l.callback;
  callable : (events : List Event) (rest : List ℕ) → Steps l.self.reading l.self.text l.fn.maybe_more events rest
      → MayBeCalledOn g.F.FnMut l.callback events;
}

abbrev pub decreases-loop-event : goal.decreases-loop-event
decreases-loop-event g l = length l.self.text
