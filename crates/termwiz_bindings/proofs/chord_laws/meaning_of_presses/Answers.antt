use Rattle.termwiz_bindings.proofs.lemmas.PendingChords as lemmas
use Rattle.termwiz_bindings.proofs.chord_laws.meaning_of_presses.Goals as goal

pub returns : goal.returns
returns g c = lemmas.meaning_of_presses _
