use Rattle.termwiz_laws.proofs.lemmas.key_streams.EachFlushed as lemmas
use Rattle.termwiz_laws.proofs.key_streams.listed_stream_reads_back.Goals as goal

pub returns : goal.returns
returns c = record { listed = lemmas.listed_stream_reads_back; others = lemmas.stream_reads_back }
