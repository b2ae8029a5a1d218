use Rattle.termwiz_bindings.proofs.lemmas.PendingChords as lemmas
use Rattle.termwiz_bindings.proofs.chord_laws.pending.Goals as goal

pub returns-clause-shape : goal.returns-clause-shape
returns-clause-shape g c = lemmas.pending_shape _

pub returns-clause-none : goal.returns-clause-none
returns-clause-none g c = lemmas.nothing_pending _
