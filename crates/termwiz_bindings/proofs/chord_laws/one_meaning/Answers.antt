use Rattle.termwiz_bindings.proofs.lemmas.ChordReadings as lemmas
use Rattle.termwiz_bindings.proofs.chord_laws.one_meaning.Goals as goal

pub returns : goal.returns
returns g c = lemmas.one_meaning _
