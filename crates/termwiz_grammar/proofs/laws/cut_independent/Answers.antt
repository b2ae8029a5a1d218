use Rattle.termwiz_grammar.proofs.lemmas.cuts.ChunkInvariance as lemmas
use Rattle.termwiz_grammar.proofs.laws.cut_independent.Goals as goal

pub returns : goal.returns
returns c = lemmas.cut_independent
