use Rattle.termwiz_bindings.proofs.lemmas.BindingChords as lemmas
use Rattle.termwiz_bindings.proofs.chord_laws.leaves_other_lists.Goals as goal

pub returns : goal.returns
returns g c = lemmas.leaves_other_lists _
