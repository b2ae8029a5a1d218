use Rattle.termwiz_bindings.proofs.lemmas.PendingChords as lemmas
use Rattle.termwiz_bindings.proofs.chord_laws.undecided.Goals as goal

pub returns : goal.returns
returns g c = lemmas.undecided _
