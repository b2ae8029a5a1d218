use Rattle.termwiz_extended_grammar.proofs.lemmas.items.ExtraHeads as lemmas
use Rattle.termwiz_extended_grammar.proofs.laws.four_beginnings.Goals as goal

pub returns : goal.returns
returns c = lemmas.four_beginnings
