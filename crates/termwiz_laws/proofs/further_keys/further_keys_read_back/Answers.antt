use Rattle.termwiz_laws.proofs.lemmas.further_keys.FurtherReadings as lemmas
use Rattle.termwiz_laws.proofs.further_keys.further_keys_read_back.Goals as goal

pub returns : goal.returns
returns c = lemmas.further_keys_read_back
