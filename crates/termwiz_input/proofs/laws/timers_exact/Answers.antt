use Rattle.termwiz_input.proofs.lemmas.time.TimerLaws as lemmas
use Rattle.termwiz_input.proofs.laws.timers_exact.Goals as goal

pub returns-clause-exact : goal.returns-clause-exact
returns-clause-exact c = lemmas.exact

pub returns-clause-idle : goal.returns-clause-idle
returns-clause-idle c = lemmas.idle_notes

pub returns-clause-zero : goal.returns-clause-zero
returns-clause-zero c = lemmas.due_is_nothing_left
