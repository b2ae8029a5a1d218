use Rattle.termwiz_timed.proofs.lemmas.RunBounds as lemmas
use Rattle.termwiz_timed.proofs.laws.bounded.Goals as goal

pub returns : goal.returns
returns c = lemmas.bounded
