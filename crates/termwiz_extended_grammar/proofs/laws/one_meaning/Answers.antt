use Rattle.termwiz_extended_grammar.proofs.lemmas.items.ExtendedRests as lemmas
use Rattle.termwiz_extended_grammar.proofs.laws.one_meaning.Goals as goal

pub returns : goal.returns
returns c = lemmas.one_meaning
