use Rattle.termwiz_extended_grammar.proofs.lemmas.items.ExtraHeads as lemmas
use Rattle.termwiz_extended_grammar.proofs.laws.opening_is_longest.Goals as goal

pub returns : goal.returns
returns c = lemmas.opening_is_longest
