use Rattle.termwiz_senders.proofs.lemmas.SgrReports.{sgr_read_back, sgr_read_back_extended}
use Rattle.termwiz_senders.proofs.laws.sgr_read_back.Goals as goal

pub returns-clause-port : goal.returns-clause-port
returns-clause-port c = sgr_read_back

pub returns-clause-extended : goal.returns-clause-extended
returns-clause-extended c = sgr_read_back_extended
