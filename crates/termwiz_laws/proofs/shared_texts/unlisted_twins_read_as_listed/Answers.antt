use Rattle.termwiz_laws.proofs.lemmas.shared_texts.TwinKeys as lemmas
use Rattle.termwiz_laws.proofs.shared_texts.unlisted_twins_read_as_listed.Goals as goal

pub returns : goal.returns
returns c = record { listed = lemmas.twins_read_as_listed; others = lemmas.twins_read_as_one }
