use Rattle.termwiz_grammar.proofs.lemmas.cuts.Streams as lemmas
use Rattle.termwiz_grammar.proofs.laws.one_by_one.Goals as goal

pub returns : goal.returns
returns c = lemmas.one_by_one
