use Rattle.termwiz_binding_laws.proofs.lemmas.OwnTwins as lemmas
use Rattle.termwiz_binding_laws.proofs.encoded_presses.twins_read_alike.Goals as goal

pub returns : goal.returns
returns c = record { own = lemmas.twins_are_their_own; alike = lemmas.twins_read_alike }
