use Rattle.termwiz_input.proofs.lemmas.items.FrontItem.{refused_store, run_there}
use Rattle.termwiz_input.proofs.input.InputParser.store_front.Goals as goal

pub returns-in_err-make_room-in-PrintableAscii : goal.returns-in_err-make_room-in-PrintableAscii
returns-in_err-make_room-in-PrintableAscii c =
    refused_store c.args.self.now c.args.maybe_more c.args.events.now.items _ c.from_residual.result c.from_residual.ensures.0
    (run_there c.args.self.now c.in-PrintableAscii.run'.now c.args.maybe_more c.in-PrintableAscii.ensures)
    c.in_err-make_room-in-PrintableAscii.ensures.items
