use Rattle.termwiz_press_laws.proofs.lemmas.OneThings.{one_thing}
use Rattle.termwiz_press_laws.proofs.lemmas.SomePresses.{some_run_tells}
use Rattle.termwiz_press_laws.proofs.lemmas.ThingsInTurn.{reads_tell_what_was_sent}
use Rattle.termwiz_press_laws.proofs.lemmas.TimedPresses.{press_to_press}
use Rattle.termwiz_press_laws.proofs.press_to_press.Goals as goal

pub returns-clause-reads : goal.returns-clause-reads
returns-clause-reads c = reads_tell_what_was_sent one_thing

pub returns-clause-runs : goal.returns-clause-runs
returns-clause-runs c = press_to_press (reads_tell_what_was_sent one_thing)

pub returns-clause-some : goal.returns-clause-some
returns-clause-some c = some_run_tells
