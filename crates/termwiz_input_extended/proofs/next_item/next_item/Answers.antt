use Rattle.termwiz_input_extended.proofs.lemmas.fronts.FrontItems.{own_by_dialect}
use Rattle.termwiz_input_extended.proofs.next_item.next_item.Goals as goal

pub returns-in-Termwiz : goal.returns-in-Termwiz
returns-in-Termwiz c = c.is_alt_escape.ensures c.args.reading c.args.maybe_more c.if-is_alt_escape.true

pub returns-in-Termwiz-2 : goal.returns-in-Termwiz-2
returns-in-Termwiz-2 c = own_by_dialect c.args.reading c.in-Termwiz-2.is c.args.text.now c.args.maybe_more
