use Rattle.termwiz_binding_laws.proofs.lemmas.SentPresses as lemmas
use Rattle.termwiz_binding_laws.proofs.sent_presses.presses_of_what_is_sent.Goals as goal

pub returns : goal.returns
returns c = lemmas.presses_of_what_is_sent
