use Rattle.termwiz_grammar.proofs.lemmas.cuts.FewEvents as lemmas
use Rattle.termwiz_grammar.proofs.laws.few_events.Goals as goal

pub returns : goal.returns
returns c = lemmas.few_events
