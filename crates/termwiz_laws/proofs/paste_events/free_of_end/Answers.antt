use Rattle.termwiz_laws.proofs.lemmas.paste_events.NoBorder as lemmas
use Rattle.termwiz_laws.proofs.paste_events.free_of_end.Goals as goal

pub returns : goal.returns
returns c = lemmas.free_of_end
