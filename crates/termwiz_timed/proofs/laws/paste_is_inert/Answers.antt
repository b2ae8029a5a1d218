use Rattle.termwiz_timed.proofs.lemmas.InertPastes as lemmas
use Rattle.termwiz_timed.proofs.laws.paste_is_inert.Goals as goal

pub returns : goal.returns
returns c = lemmas.paste_is_inert
