use Rattle.termwiz_input.proofs.lemmas.time.TimerLaws as lemmas
use Rattle.termwiz_input.proofs.laws.any_clock.Goals as goal

pub returns-clause-within_limit : goal.returns-clause-within_limit
returns-clause-within_limit c = lemmas.due_within_limit

pub returns-clause-stands : goal.returns-clause-stands
returns-clause-stands c = lemmas.clock_stands
