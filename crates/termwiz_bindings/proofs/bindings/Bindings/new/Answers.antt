use Rattle.termwiz_bindings.proofs.lemmas.BoundChords.{bindings_empty}
use Rattle.termwiz_bindings.proofs.bindings.Bindings.new.Goals as goal

pub invariant_of-result : goal.invariant_of-result
invariant_of-result g c = bindings_empty _ c.new.result c.new.ensures
