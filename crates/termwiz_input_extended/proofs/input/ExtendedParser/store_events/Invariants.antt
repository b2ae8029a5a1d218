use Rattle.std.proofs.Common.{◌≡◌, ◌+◌, ◌≤◌, length}
use Rattle.termwiz_extended_grammar.specs.ExtendedGrammar.{Steps}
use Rattle.termwiz_extended_grammar.specs.Readings.{after_events}
use Rattle.termwiz_input_extended.proofs.input.ExtendedParser.store_events.Given as goal

abbrev pub invariant-loop : goal.invariant-loop
invariant-loop l = record {
  reading : l.self.reading ≡ after_events l.fn.self.reading l.events.items;
  steps : Steps l.fn.self.reading l.fn.self.text l.maybe_more l.events.items l.self.text;
  few : length l.events.items + length l.self.text ≤ length l.fn.self.text;
}

abbrev pub decreases-loop : goal.decreases-loop
decreases-loop l = length l.self.text
