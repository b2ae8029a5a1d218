use Rattle.termwiz_bindings.proofs.lemmas.SettledPresses as lemmas
use Rattle.termwiz_bindings.proofs.laws.presses_settle.Goals as goal

pub returns-clause-settled : goal.returns-clause-settled
returns-clause-settled c = lemmas.presses_settle

pub returns-clause-held : goal.returns-clause-held
returns-clause-held c = lemmas.presses_have_no_locks
