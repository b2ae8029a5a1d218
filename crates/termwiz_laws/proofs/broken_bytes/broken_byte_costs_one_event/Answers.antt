use Rattle.termwiz_laws.proofs.lemmas.broken_bytes.BrokenItems as lemmas
use Rattle.termwiz_laws.proofs.broken_bytes.broken_byte_costs_one_event.Goals as goal

pub returns-clause-in_stream : goal.returns-clause-in_stream
returns-clause-in_stream c = lemmas.in_stream

pub returns-clause-after_escape : goal.returns-clause-after_escape
returns-clause-after_escape c = lemmas.after_escape
