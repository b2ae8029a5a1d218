use Rattle.termwiz_senders.proofs.lemmas.ByteReports.{default_read_back}
use Rattle.termwiz_senders.proofs.lemmas.UrxvtReports.{urxvt_read_back}
use Rattle.termwiz_senders.proofs.laws.other_mouse_read_back.Goals as goal

pub returns-clause-three_bytes : goal.returns-clause-three_bytes
returns-clause-three_bytes c = default_read_back

pub returns-clause-urxvt : goal.returns-clause-urxvt
returns-clause-urxvt c = urxvt_read_back
