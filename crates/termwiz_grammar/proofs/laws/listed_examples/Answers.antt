use Rattle.termwiz_grammar.proofs.lemmas.read_back.ListedExamples as lemmas
use Rattle.termwiz_grammar.proofs.laws.listed_examples.Goals as goal

pub returns : goal.returns
returns c = lemmas.listed_examples
