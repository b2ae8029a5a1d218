use Rattle.termwiz_event_laws.proofs.lemmas.WrittenEvents.{whole}
use Rattle.termwiz_event_laws.proofs.whole.Goals as goal

pub returns : goal.returns
returns c = whole
