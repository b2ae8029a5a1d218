use Rattle.termwiz_extended_grammar.proofs.lemmas.cuts.ExtendedStreams as lemmas
use Rattle.termwiz_extended_grammar.proofs.laws.few_events_in_stream.Goals as goal

pub returns : goal.returns
returns c = lemmas.few_events_in_stream
