use Rattle.termwiz_press_laws.proofs.lemmas.OneThings.{one_thing}
use Rattle.termwiz_press_laws.proofs.lemmas.ThingsInTurn.{reads_tell_what_was_sent}
use Rattle.termwiz_press_laws.proofs.lemmas.WorkedPresses.{asked_position, escape_apart, paste_with_end, two_in_order}
use Rattle.termwiz_press_laws.proofs.worked_presses.Goals as goal

pub returns-clause-order : goal.returns-clause-order
returns-clause-order c = two_in_order (reads_tell_what_was_sent one_thing)

pub returns-clause-apart : goal.returns-clause-apart
returns-clause-apart c = escape_apart (reads_tell_what_was_sent one_thing)

pub returns-clause-paste : goal.returns-clause-paste
returns-clause-paste c = paste_with_end (reads_tell_what_was_sent one_thing)

pub returns-clause-position : goal.returns-clause-position
returns-clause-position c = asked_position (reads_tell_what_was_sent one_thing)
