use Rattle.termwiz_bindings.proofs.lemmas.OneChord as lemmas
use Rattle.termwiz_bindings.proofs.laws.chords_in_order.Goals as goal

pub returns : goal.returns
returns g c = lemmas.chords_in_order
