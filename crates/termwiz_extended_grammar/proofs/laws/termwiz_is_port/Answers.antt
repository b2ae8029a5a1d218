use Rattle.termwiz_extended_grammar.proofs.lemmas.cuts.SameAsPort as lemmas
use Rattle.termwiz_extended_grammar.proofs.laws.termwiz_is_port.Goals as goal

pub returns : goal.returns
returns c = lemmas.termwiz_is_port
