use Rattle.termwiz_input.proofs.lemmas.items.FrontItem.{left_short}
use Rattle.termwiz_input.proofs.input.InputParser.next_event.Goals as goal

pub returns-clause-waits : goal.returns-clause-waits
returns-clause-waits c =
    left_short c.args.self.now c.emit_front.new.self c.args.maybe_more c.emit_front.result c.emit_front.ensures
