use Rattle.termwiz_keys.proofs.lemmas.equality.EventEquality.{same_keys, same_key_events, same_events}
use Rattle.termwiz_keys.proofs.laws.equality.Goals as goal

pub returns-clause-key_code : goal.returns-clause-key_code
returns-clause-key_code c = same_keys

pub returns-clause-key_event : goal.returns-clause-key_event
returns-clause-key_event c = same_key_events

pub returns-clause-input_event : goal.returns-clause-input_event
returns-clause-input_event c = same_events
