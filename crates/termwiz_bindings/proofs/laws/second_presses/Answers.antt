use Rattle.termwiz_bindings.proofs.lemmas.SecondPresses as lemmas
use Rattle.termwiz_bindings.proofs.laws.second_presses.Goals as goal

pub returns-clause-only : goal.returns-clause-only
returns-clause-only c = lemmas.second_only_of

pub returns-clause-text : goal.returns-clause-text
returns-clause-text c = lemmas.second_without_text
