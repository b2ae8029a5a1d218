use Rattle.termwiz_binding_laws.proofs.lemmas.SameTexts as lemmas
use Rattle.termwiz_binding_laws.proofs.encoded_presses.twins_send_the_same.Goals as goal

pub returns : goal.returns
returns c = lemmas.twins_send_the_same
