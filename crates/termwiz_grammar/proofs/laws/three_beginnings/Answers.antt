use Rattle.termwiz_grammar.proofs.lemmas.table.RowShape as lemmas
use Rattle.termwiz_grammar.proofs.laws.three_beginnings.Goals as goal

pub returns : goal.returns
returns c = lemmas.three_beginnings
