use Rattle.termwiz_bindings.proofs.lemmas.BindingChords as lemmas
use Rattle.termwiz_bindings.proofs.chord_laws.bindings_are_chords.Goals as goal

pub returns : goal.returns
returns g c = lemmas.are_chords
