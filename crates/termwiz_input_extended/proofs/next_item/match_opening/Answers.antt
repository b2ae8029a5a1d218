use Rattle.termwiz_input_extended.proofs.lemmas.fronts.OpeningFronts.{opening_alone}
use Rattle.termwiz_input_extended.proofs.next_item.match_opening.Goals as goal

pub returns-in_default : goal.returns-in_default
returns-in_default c = opening_alone c.args.text.now c.requires c.in_default.len_below
