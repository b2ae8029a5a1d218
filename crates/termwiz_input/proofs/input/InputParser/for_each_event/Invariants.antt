use Rattle.std.proofs.Common.{List, ℕ, length}
use Rattle.termwiz_keys.specs.declared.types.InputEvent.{InputEvent}
use Rattle.termwiz_grammar.specs.Grammar.{Steps}
use Rattle.termwiz_input.specs.Callbacks.{MayBeCalledOn, WasCalledOn}
use Rattle.termwiz_input.proofs.input.InputParser.for_each_event.Given as goal

abbrev pub invariant-loop-event : goal.invariant-loop-event
invariant-loop-event g l = record {
  given : (events : List InputEvent)
      × Steps l.fn.self l.fn.maybe_more events l.self
      × WasCalledOn (goal.F-step g) l.fn.callback events l.callback;
  callable : (events : List InputEvent) (rest : List ℕ) → Steps l.self l.fn.maybe_more events rest
      → MayBeCalledOn g.F.FnMut l.callback events;
}

abbrev pub decreases-loop-event : goal.decreases-loop-event
decreases-loop-event g l = length l.self
