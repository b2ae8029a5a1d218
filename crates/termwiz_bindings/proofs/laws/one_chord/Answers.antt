use Rattle.termwiz_bindings.proofs.lemmas.OneChord.{change_one_chord}
use Rattle.termwiz_bindings.proofs.laws.one_chord.Goals as goal

pub returns : goal.returns
returns g c = change_one_chord
