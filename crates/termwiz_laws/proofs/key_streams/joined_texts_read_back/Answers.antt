use Rattle.termwiz_laws.proofs.lemmas.key_streams.FourKeys as lemmas
use Rattle.termwiz_laws.proofs.key_streams.joined_texts_read_back.Goals as goal

pub returns : goal.returns
returns c = record { listed = lemmas.joined_listed_read_back; others = lemmas.joined_texts_read_back }
