use Rattle.termwiz_grammar.proofs.lemmas.cuts.Streams as lemmas
use Rattle.termwiz_grammar.proofs.laws.steps_join.Goals as goal

pub returns : goal.returns
returns c = lemmas.steps_join
