use Rattle.termwiz_laws.proofs.lemmas.shared_texts.TwinKeys as lemmas
use Rattle.termwiz_laws.proofs.shared_texts.listed_texts_differ.Goals as goal

pub returns : goal.returns
returns c = record { listed = lemmas.listed_texts_differ; others = lemmas.texts_differ }
