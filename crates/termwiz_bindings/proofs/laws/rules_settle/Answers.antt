use Rattle.termwiz_bindings.proofs.lemmas.CharacterRules as lemmas
use Rattle.termwiz_bindings.proofs.laws.rules_settle.Goals as goal

pub returns-clause-main_key : goal.returns-clause-main_key
returns-clause-main_key c = lemmas.main_settles

pub returns-clause-control : goal.returns-clause-control
returns-clause-control c = lemmas.control_settles

pub returns-clause-told : goal.returns-clause-told
returns-clause-told c = lemmas.told_settles

pub returns-clause-shown : goal.returns-clause-shown
returns-clause-shown c = lemmas.shown_settles

pub returns-clause-lowered : goal.returns-clause-lowered
returns-clause-lowered c = lemmas.lowered_settles
