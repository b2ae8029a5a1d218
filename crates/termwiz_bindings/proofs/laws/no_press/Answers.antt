use Rattle.termwiz_bindings.proofs.lemmas.EventModifiers.{no_press_of_release}
use Rattle.termwiz_bindings.proofs.lemmas.SecondPresses.{never_both}
use Rattle.termwiz_bindings.proofs.laws.no_press.Goals as goal

pub returns-clause-release : goal.returns-clause-release
returns-clause-release c = no_press_of_release

pub returns-clause-text : goal.returns-clause-text
returns-clause-text c = never_both
