use Rattle.termwiz_laws.proofs.lemmas.plain_texts.CharactersInTurn as lemmas
use Rattle.termwiz_laws.proofs.plain_texts.plain_text_is_itself.Goals as goal

pub returns-clause-alone : goal.returns-clause-alone
returns-clause-alone c = lemmas.plain_text_alone

pub returns-clause-in_stream : goal.returns-clause-in_stream
returns-clause-in_stream c = lemmas.plain_text_in_stream

pub returns-clause-in_reads : goal.returns-clause-in_reads
returns-clause-in_reads c = lemmas.plain_text_in_reads
