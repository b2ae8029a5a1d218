use Rattle.termwiz_extended_grammar.proofs.lemmas.cuts.ExtendedStreams as lemmas
use Rattle.termwiz_extended_grammar.proofs.laws.one_by_one.Goals as goal

pub returns : goal.returns
returns c = lemmas.one_by_one
