use Rattle.termwiz_bindings.proofs.lemmas.CodedPresses.{code_length, codes_begin, codes_tell}
use Rattle.termwiz_bindings.proofs.laws.codes_of_presses.Goals as goal

pub returns-clause-width : goal.returns-clause-width
returns-clause-width c = code_length

pub returns-clause-told : goal.returns-clause-told
returns-clause-told c = codes_tell

pub returns-clause-begin : goal.returns-clause-begin
returns-clause-begin c = codes_begin
