use Rattle.termwiz_timed.proofs.lemmas.OneAnswers as lemmas
use Rattle.termwiz_timed.proofs.laws.one_answer.Goals as goal

pub returns : goal.returns
returns c = lemmas.one_answer
