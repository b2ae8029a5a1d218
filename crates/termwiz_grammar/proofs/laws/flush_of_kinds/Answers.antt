use Rattle.termwiz_grammar.proofs.lemmas.waiting.RestKinds as lemmas
use Rattle.termwiz_grammar.proofs.laws.flush_of_kinds.Goals as goal

pub returns : goal.returns
returns c = lemmas.flush_of_kinds
