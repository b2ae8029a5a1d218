use Rattle.termwiz_laws.proofs.lemmas.broken_bytes.CutCharacters as cuts
use Rattle.termwiz_laws.proofs.lemmas.broken_bytes.FirstBytesOfNone as lemmas
use Rattle.termwiz_laws.proofs.broken_bytes.cut_characters.Goals as goal

pub returns-clause-before_other : goal.returns-clause-before_other
returns-clause-before_other c = lemmas.before_other

pub returns-clause-before_new : goal.returns-clause-before_new
returns-clause-before_new c = lemmas.before_new

pub returns-clause-each_byte : goal.returns-clause-each_byte
returns-clause-each_byte c = cuts.cut_character

pub returns-clause-first_alone : goal.returns-clause-first_alone
returns-clause-first_alone c = lemmas.first_byte_alone
