use Rattle.termwiz_grammar.proofs.lemmas.waiting.RestShape as lemmas
use Rattle.termwiz_grammar.proofs.laws.waiting_shape.Goals as goal

pub returns : goal.returns
returns c = lemmas.waiting_shape
