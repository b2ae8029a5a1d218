use Rattle.termwiz_senders.proofs.lemmas.SafePastes.{one_paste, one_paste_extended}
use Rattle.termwiz_senders.proofs.laws.one_paste.Goals as goal

pub returns-clause-port : goal.returns-clause-port
returns-clause-port c = one_paste

pub returns-clause-extended : goal.returns-clause-extended
returns-clause-extended c = one_paste_extended
