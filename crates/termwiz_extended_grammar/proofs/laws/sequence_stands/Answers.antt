use Rattle.termwiz_extended_grammar.proofs.lemmas.cuts.SequencesStand as lemmas
use Rattle.termwiz_extended_grammar.proofs.laws.sequence_stands.Goals as goal

pub returns : goal.returns
returns c = lemmas.sequence_stands
