use Rattle.termwiz_laws.proofs.lemmas.key_streams.FourKeys as lemmas
use Rattle.termwiz_laws.proofs.key_streams.few_need_flush.Goals as goal

pub returns : goal.returns
returns c = record { listed = lemmas.few_listed_need_flush; others = lemmas.few_need_flush }
