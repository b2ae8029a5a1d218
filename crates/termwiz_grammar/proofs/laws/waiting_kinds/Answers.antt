use Rattle.termwiz_grammar.proofs.lemmas.waiting.RestKinds as lemmas
use Rattle.termwiz_grammar.proofs.laws.waiting_kinds.Goals as goal

pub returns : goal.returns
returns c = lemmas.waiting_kinds
