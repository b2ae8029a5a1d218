use Rattle.termwiz_grammar.proofs.lemmas.waiting.RestShape as lemmas
use Rattle.termwiz_grammar.proofs.laws.one_meaning.Goals as goal

pub returns : goal.returns
returns c = lemmas.one_meaning
