use Rattle.termwiz_kitty.proofs.lemmas.FullyTold as lemmas
use Rattle.termwiz_kitty.proofs.laws.fully_told.Goals as goal

pub returns : goal.returns
returns c = lemmas.fully_told
