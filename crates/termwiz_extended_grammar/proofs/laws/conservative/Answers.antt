use Rattle.termwiz_extended_grammar.proofs.lemmas.cuts.SameAsPort as lemmas
use Rattle.termwiz_extended_grammar.proofs.laws.conservative.Goals as goal

pub returns : goal.returns
returns c = lemmas.conservative
