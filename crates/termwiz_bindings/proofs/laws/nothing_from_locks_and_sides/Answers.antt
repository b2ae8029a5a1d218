use Rattle.termwiz_bindings.proofs.lemmas.EventModifiers.{locks_change_nothing, sides_change_nothing}
use Rattle.termwiz_bindings.proofs.laws.nothing_from_locks_and_sides.Goals as goal

pub returns-clause-locks : goal.returns-clause-locks
returns-clause-locks c = locks_change_nothing

pub returns-clause-sides : goal.returns-clause-sides
returns-clause-sides c = sides_change_nothing
