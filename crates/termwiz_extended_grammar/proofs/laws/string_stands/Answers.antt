use Rattle.termwiz_extended_grammar.proofs.lemmas.cuts.StringsStand as lemmas
use Rattle.termwiz_extended_grammar.proofs.laws.string_stands.Goals as goal

pub returns : goal.returns
returns c = lemmas.string_stands
