use Rattle.termwiz_binding_laws.proofs.lemmas.TypedPresses as lemmas
use Rattle.termwiz_binding_laws.proofs.kitty_presses.typed_keys_keep_presses.Goals as goal

pub returns : goal.returns
returns c = lemmas.typed_keys_keep_presses
