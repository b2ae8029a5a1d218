use Rattle.termwiz_bindings.proofs.lemmas.ChordReadings as lemmas
use Rattle.termwiz_bindings.proofs.chord_laws.nothing_lost.Goals as goal

pub returns : goal.returns
returns g c = lemmas.nothing_lost _
