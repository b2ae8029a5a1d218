use Rattle.termwiz_extended_grammar.proofs.lemmas.cuts.QuestionsMoveNothing as lemmas
use Rattle.termwiz_extended_grammar.proofs.laws.questions_move_nothing.Goals as goal

pub returns : goal.returns
returns c = lemmas.questions_move_nothing
