use Rattle.std.proofs.Common.{arith}
use Rattle.std.proofs.lemmas.Grind.{common_steps}
use Rattle.termwiz_extended_grammar.specs.ExtendedGrammar.{IsRest}
use Rattle.termwiz_extended_grammar.proofs.lemmas.items.ExtendedRests.{waiting_shape}
use Rattle.termwiz_input_extended.proofs.input.ExtendedParser.parse_as_vec.Goals as goal

pub returns-then-is_ok-clause-waits : goal.returns-then-is_ok-clause-waits
returns-then-is_ok-clause-waits c =
    let left = c.store_events.new.self in
    let waits : IsRest left.reading left.text c.args.maybe_more = grind (arith, common_steps) in
    waiting_shape left.reading left.text c.args.maybe_more waits
