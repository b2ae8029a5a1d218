use Rattle.termwiz_kitty.proofs.lemmas.typed.TypedTexts as lemmas
use Rattle.termwiz_kitty.proofs.laws.typed_read_back.Goals as goal

pub returns : goal.returns
returns c = lemmas.typed_read_back
