use Rattle.termwiz_senders.proofs.lemmas.TypedPastes.{typed_paste, typed_paste_extended}
use Rattle.termwiz_senders.proofs.laws.typed_paste.Goals as goal

pub returns-clause-port : goal.returns-clause-port
returns-clause-port c = typed_paste

pub returns-clause-extended : goal.returns-clause-extended
returns-clause-extended c = typed_paste_extended
