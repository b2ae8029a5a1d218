use Rattle.termwiz_grammar.proofs.lemmas.waiting.UndecidedBytes as lemmas
use Rattle.termwiz_grammar.proofs.laws.undecided.Goals as goal

pub returns : goal.returns
returns c = lemmas.undecided_law
