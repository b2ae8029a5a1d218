use Rattle.termwiz_senders.proofs.lemmas.SafePastes.{paste_stands, paste_stands_extended}
use Rattle.termwiz_senders.proofs.laws.paste_stands.Goals as goal

pub returns-clause-port : goal.returns-clause-port
returns-clause-port c = paste_stands

pub returns-clause-extended : goal.returns-clause-extended
returns-clause-extended c = paste_stands_extended
