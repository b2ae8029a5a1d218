use Rattle.termwiz_grammar.proofs.lemmas.pastes.HeldBytes as lemmas
use Rattle.termwiz_grammar.proofs.laws.held_once.Goals as goal

pub returns : goal.returns
returns c = lemmas.held_once
