use Rattle.termwiz_bindings.proofs.lemmas.CapitalsTold as lemmas
use Rattle.termwiz_bindings.proofs.laws.capitals_tell_nothing.Goals as goal

pub returns : goal.returns
returns c = lemmas.capitals_tell_nothing
