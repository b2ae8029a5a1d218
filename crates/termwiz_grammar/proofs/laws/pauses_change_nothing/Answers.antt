use Rattle.termwiz_grammar.proofs.lemmas.waiting.Pauses as lemmas
use Rattle.termwiz_grammar.proofs.laws.pauses_change_nothing.Goals as goal

pub returns : goal.returns
returns c = lemmas.pauses_change_nothing
