use Rattle.termwiz_timed.proofs.lemmas.ExactSegments as lemmas
use Rattle.termwiz_timed.proofs.laws.exact.Goals as goal

pub returns : goal.returns
returns c = lemmas.exact
