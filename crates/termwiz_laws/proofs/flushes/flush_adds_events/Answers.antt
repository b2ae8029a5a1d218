use Rattle.termwiz_laws.proofs.lemmas.flushes.MoreEvents as lemmas
use Rattle.termwiz_laws.proofs.flushes.flush_adds_events.Goals as goal

pub returns : goal.returns
returns c = lemmas.flush_adds_events
