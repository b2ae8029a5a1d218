use Rattle.std.proofs.Common.{◌+◌, ◌≤◌, length}
use Rattle.termwiz_grammar.specs.Grammar.{Steps}
use Rattle.termwiz_input.proofs.input.InputParser.store_events.Given as goal

abbrev pub invariant-loop-len : goal.invariant-loop-len
invariant-loop-len l = record {
  steps : Steps l.fn.self l.maybe_more l.events.items l.self;
  few : length l.events.items + length l.self ≤ length l.fn.self;
}

abbrev pub decreases-loop-len : goal.decreases-loop-len
decreases-loop-len l = length l.self
