use Rattle.termwiz_timed.proofs.lemmas.DueInTime as lemmas
use Rattle.termwiz_timed.proofs.laws.on_time.Goals as goal

pub returns : goal.returns
returns c = lemmas.on_time
