use Rattle.termwiz_grammar.proofs.lemmas.waiting.RestShape as lemmas
use Rattle.termwiz_grammar.proofs.laws.empty_is_rest.Goals as goal

pub returns : goal.returns
returns c = lemmas.empty_is_rest
