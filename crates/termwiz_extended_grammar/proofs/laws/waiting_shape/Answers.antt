use Rattle.termwiz_extended_grammar.proofs.lemmas.items.ExtendedRests as lemmas
use Rattle.termwiz_extended_grammar.proofs.laws.waiting_shape.Goals as goal

pub returns : goal.returns
returns c = lemmas.waiting_shape
