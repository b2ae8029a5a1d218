use Rattle.termwiz_laws.proofs.lemmas.further_keys.OnlyThese as lemmas
use Rattle.termwiz_laws.proofs.further_keys.only_these_read_back.Goals as goal

pub returns : goal.returns
returns c = lemmas.only_these_read_back
