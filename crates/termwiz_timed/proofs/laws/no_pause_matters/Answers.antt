use Rattle.termwiz_timed.proofs.lemmas.PausesInTime as lemmas
use Rattle.termwiz_timed.proofs.laws.no_pause_matters.Goals as goal

pub returns : goal.returns
returns c = lemmas.no_pause_matters
