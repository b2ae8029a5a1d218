use Rattle.termwiz_extended_grammar.proofs.lemmas.waiting.KindsOfRests as lemmas
use Rattle.termwiz_extended_grammar.proofs.laws.waiting_kinds.Goals as goal

pub returns : goal.returns
returns c = lemmas.waiting_kinds
