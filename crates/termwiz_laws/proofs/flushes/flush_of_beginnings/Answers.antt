use Rattle.termwiz_laws.proofs.lemmas.flushes.FlushedBeginnings as lemmas
use Rattle.termwiz_laws.proofs.flushes.flush_of_beginnings.Goals as goal

pub returns-clause-sequence : goal.returns-clause-sequence
returns-clause-sequence c = lemmas.flush_of_sequence

pub returns-clause-character : goal.returns-clause-character
returns-clause-character c = lemmas.flush_of_character
