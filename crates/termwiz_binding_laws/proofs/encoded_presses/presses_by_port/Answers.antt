use Rattle.termwiz_binding_laws.proofs.lemmas.EncodedKeys as lemmas
use Rattle.termwiz_binding_laws.proofs.encoded_presses.presses_by_port.Goals as goal

pub returns : goal.returns
returns c = lemmas.presses_by_port
