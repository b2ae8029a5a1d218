use Rattle.termwiz_laws.proofs.lemmas.plain_texts.CharactersInTurn as lemmas
use Rattle.termwiz_laws.proofs.plain_texts.text_characters.Goals as goal

pub returns : goal.returns
returns c = lemmas.text_characters
