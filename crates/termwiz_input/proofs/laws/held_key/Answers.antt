use Rattle.termwiz_input.proofs.lemmas.time.TimerLaws as lemmas
use Rattle.termwiz_input.proofs.laws.held_key.Goals as goal

pub returns-clause-due : goal.returns-clause-due
returns-clause-due c = lemmas.held_key

pub returns-clause-in_order : goal.returns-clause-in_order
returns-clause-in_order c = lemmas.steps_of_clock
