use Rattle.termwiz_event_laws.proofs.lemmas.WrittenEvents.{read_back}
use Rattle.termwiz_event_laws.proofs.read_back.Goals as goal

pub returns : goal.returns
returns c = read_back
