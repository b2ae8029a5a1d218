use Rattle.termwiz_bindings.proofs.lemmas.NamesReadBack as lemmas
use Rattle.termwiz_bindings.proofs.laws.names_read_back.Goals as goal

pub returns-clause-read_back : goal.returns-clause-read_back
returns-clause-read_back c = lemmas.names_read_back

pub returns-clause-presses : goal.returns-clause-presses
returns-clause-presses c = lemmas.reads_presses
