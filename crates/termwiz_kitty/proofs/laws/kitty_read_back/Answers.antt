use Rattle.termwiz_kitty.proofs.lemmas.read_back.SequencesMean as lemmas
use Rattle.termwiz_kitty.proofs.laws.kitty_read_back.Goals as goal

pub returns : goal.returns
returns c = lemmas.kitty_read_back
