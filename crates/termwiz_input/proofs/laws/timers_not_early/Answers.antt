use Rattle.termwiz_input.proofs.lemmas.time.TimerLaws as lemmas
use Rattle.termwiz_input.proofs.laws.timers_not_early.Goals as goal

pub returns : goal.returns
returns c = lemmas.not_early
