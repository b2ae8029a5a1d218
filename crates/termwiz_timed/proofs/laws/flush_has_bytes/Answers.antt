use Rattle.termwiz_timed.proofs.lemmas.FlushedBytes as lemmas
use Rattle.termwiz_timed.proofs.laws.flush_has_bytes.Goals as goal

pub returns : goal.returns
returns c = lemmas.flush_has_bytes
