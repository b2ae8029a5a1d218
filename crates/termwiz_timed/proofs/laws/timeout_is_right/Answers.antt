use Rattle.termwiz_timed.proofs.lemmas.TimeoutRight as lemmas
use Rattle.termwiz_timed.proofs.laws.timeout_is_right.Goals as goal

pub returns : goal.returns
returns c = lemmas.timeout_is_right
