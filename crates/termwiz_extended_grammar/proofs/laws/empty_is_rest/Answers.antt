use Rattle.termwiz_extended_grammar.proofs.lemmas.items.ExtendedRests as lemmas
use Rattle.termwiz_extended_grammar.proofs.laws.empty_is_rest.Goals as goal

pub returns : goal.returns
returns c = lemmas.empty_is_rest
