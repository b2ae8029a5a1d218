use Rattle.termwiz_event_laws.proofs.lemmas.RepliesReadBack.{positions_read_back}
use Rattle.termwiz_event_laws.proofs.positions_read_back.Goals as goal

pub returns : goal.returns
returns c = positions_read_back
