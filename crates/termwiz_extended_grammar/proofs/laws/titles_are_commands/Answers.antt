use Rattle.termwiz_extended_grammar.proofs.lemmas.forms.TitleEvents as lemmas
use Rattle.termwiz_extended_grammar.proofs.laws.titles_are_commands.Goals as goal

pub returns : goal.returns
returns c = lemmas.titles_are_commands
