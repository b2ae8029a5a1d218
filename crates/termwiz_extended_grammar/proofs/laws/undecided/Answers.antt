use Rattle.termwiz_extended_grammar.proofs.lemmas.waiting.FlushesMatter as lemmas
use Rattle.termwiz_extended_grammar.proofs.laws.undecided.Goals as goal

pub returns : goal.returns
returns c = lemmas.undecided
