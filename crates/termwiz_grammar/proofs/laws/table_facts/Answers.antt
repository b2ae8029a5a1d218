use Rattle.termwiz_grammar.proofs.lemmas.table.RowShape as lemmas
use Rattle.termwiz_grammar.proofs.laws.table_facts.Goals as goal

pub returns : goal.returns
returns c = lemmas.table_facts
