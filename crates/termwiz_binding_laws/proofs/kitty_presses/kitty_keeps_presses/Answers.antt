use Rattle.termwiz_binding_laws.proofs.lemmas.KittyPresses as lemmas
use Rattle.termwiz_binding_laws.proofs.kitty_presses.kitty_keeps_presses.Goals as goal

pub returns : goal.returns
returns c = lemmas.kitty_keeps_presses
