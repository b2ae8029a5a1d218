use Rattle.termwiz_bindings.proofs.lemmas.PendingChords as lemmas
use Rattle.termwiz_bindings.proofs.chord_laws.longest.Goals as goal

pub returns-clause-bound : goal.returns-clause-bound
returns-clause-bound g c = lemmas.longest_chord _

pub returns-clause-unbound : goal.returns-clause-unbound
returns-clause-unbound g c = lemmas.unbound_only _
