use Rattle.termwiz_extended_grammar.proofs.lemmas.cuts.SequencesStand as lemmas
use Rattle.termwiz_extended_grammar.proofs.laws.bare_keys_are_joined.Goals as goal

pub returns : goal.returns
returns c = lemmas.bare_keys_are_joined
