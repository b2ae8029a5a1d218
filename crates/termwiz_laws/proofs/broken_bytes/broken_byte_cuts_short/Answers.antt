use Rattle.termwiz_laws.proofs.lemmas.flushes.FlushedBeginnings as lemmas
use Rattle.termwiz_laws.proofs.broken_bytes.broken_byte_cuts_short.Goals as goal

pub returns-clause-sequence : goal.returns-clause-sequence
returns-clause-sequence c = lemmas.cuts_sequence

pub returns-clause-character : goal.returns-clause-character
returns-clause-character c = lemmas.cuts_character
