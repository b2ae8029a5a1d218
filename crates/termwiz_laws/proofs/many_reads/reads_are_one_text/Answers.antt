use Rattle.termwiz_laws.proofs.lemmas.many_reads.JoinedReads as lemmas
use Rattle.termwiz_laws.proofs.many_reads.reads_are_one_text.Goals as goal

pub returns : goal.returns
returns c = lemmas.reads_are_one_text
