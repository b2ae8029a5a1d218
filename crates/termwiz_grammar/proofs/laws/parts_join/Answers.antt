use Rattle.termwiz_grammar.proofs.lemmas.pastes.PartsJoin as lemmas
use Rattle.termwiz_grammar.proofs.laws.parts_join.Goals as goal

pub returns : goal.returns
returns c = lemmas.parts_join
