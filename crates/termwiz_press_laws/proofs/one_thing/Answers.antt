use Rattle.termwiz_press_laws.proofs.lemmas.OneThings.{one_thing}
use Rattle.termwiz_press_laws.proofs.one_thing.Goals as goal

pub returns : goal.returns
returns c = one_thing
