use Rattle.termwiz_grammar.proofs.lemmas.waiting.LongestBeginning as lemmas
use Rattle.termwiz_grammar.proofs.laws.most_wait.Goals as goal

pub returns : goal.returns
returns c = lemmas.most_wait
