use Rattle.termwiz_laws.proofs.lemmas.further_keys.OnlyThese as lemmas
use Rattle.termwiz_laws.proofs.further_keys.listed_are_among_them.Goals as goal

pub returns : goal.returns
returns c = lemmas.listed_are_among_them
