use Rattle.termwiz_laws.proofs.lemmas.paste_events.OnePaste as lemmas
use Rattle.termwiz_laws.proofs.paste_events.paste_is_one_event.Goals as goal

pub returns-clause-alone : goal.returns-clause-alone
returns-clause-alone c = lemmas.paste_alone

pub returns-clause-after_escape : goal.returns-clause-after_escape
returns-clause-after_escape c = lemmas.paste_after_escape

pub returns-clause-in_stream : goal.returns-clause-in_stream
returns-clause-in_stream c = lemmas.paste_in_stream

pub returns-clause-after_nothing : goal.returns-clause-after_nothing
returns-clause-after_nothing c = lemmas.paste_after_nothing

pub returns-clause-after_held_escape : goal.returns-clause-after_held_escape
returns-clause-after_held_escape c = lemmas.paste_after_held_escape

pub returns-clause-in_open_paste : goal.returns-clause-in_open_paste
returns-clause-in_open_paste c = lemmas.paste_in_open_paste
