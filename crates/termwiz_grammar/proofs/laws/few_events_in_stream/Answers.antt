use Rattle.termwiz_grammar.proofs.lemmas.cuts.Streams as lemmas
use Rattle.termwiz_grammar.proofs.laws.few_events_in_stream.Goals as goal

pub returns : goal.returns
returns c = lemmas.few_events_in_stream
