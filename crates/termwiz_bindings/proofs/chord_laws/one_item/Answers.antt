use Rattle.termwiz_bindings.proofs.lemmas.ChordItems as lemmas
use Rattle.termwiz_bindings.proofs.chord_laws.one_item.Goals as goal

pub returns : goal.returns
returns g c = lemmas.one_item _
