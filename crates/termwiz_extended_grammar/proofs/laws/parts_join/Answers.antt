use Rattle.termwiz_extended_grammar.proofs.lemmas.cuts.PartsOfPastes as lemmas
use Rattle.termwiz_extended_grammar.proofs.laws.parts_join.Goals as goal

pub returns : goal.returns
returns c = lemmas.parts_join
