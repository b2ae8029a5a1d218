use Rattle.termwiz_extended_grammar.proofs.lemmas.cuts.ExtendedCuts as lemmas
use Rattle.termwiz_extended_grammar.proofs.laws.cut_independent.Goals as goal

pub returns : goal.returns
returns c = lemmas.cut_independent
