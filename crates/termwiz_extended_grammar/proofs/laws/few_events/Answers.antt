use Rattle.termwiz_extended_grammar.proofs.lemmas.cuts.ExtendedCuts as lemmas
use Rattle.termwiz_extended_grammar.proofs.laws.few_events.Goals as goal

pub returns : goal.returns
returns c = lemmas.few_events
