use Rattle.std.proofs.Common.{arith}
use Rattle.std.proofs.lemmas.Grind.{common_steps}
use Rattle.termwiz_grammar.specs.Grammar.{IsRest}
use Rattle.termwiz_grammar.proofs.lemmas.waiting.RestShape.{rest_short}
use Rattle.termwiz_input.proofs.input.InputParser.parse_as_vec.Goals as goal

pub returns-then-is_ok-clause-waits : goal.returns-then-is_ok-clause-waits
returns-then-is_ok-clause-waits c =
    let waits : IsRest c.store_events.new.self c.args.maybe_more = grind (arith, common_steps) in
    rest_short c.store_events.new.self c.args.maybe_more waits
