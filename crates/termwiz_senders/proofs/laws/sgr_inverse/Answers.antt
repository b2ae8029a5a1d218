use Rattle.termwiz_senders.proofs.lemmas.SgrReports.{sgr_inverse, sgr_gives_again}
use Rattle.termwiz_senders.proofs.laws.sgr_inverse.Goals as goal

pub returns-clause-inverse : goal.returns-clause-inverse
returns-clause-inverse c = sgr_inverse

pub returns-clause-given_again : goal.returns-clause-given_again
returns-clause-given_again c = sgr_gives_again
