use Rattle.termwiz_bindings.proofs.lemmas.ChordReadings as lemmas
use Rattle.termwiz_bindings.proofs.chord_laws.cut_independent.Goals as goal

pub returns-clause-cuts : goal.returns-clause-cuts
returns-clause-cuts g c = lemmas.cut_independent _

pub returns-clause-joined : goal.returns-clause-joined
returns-clause-joined g c = lemmas.steps_join _
