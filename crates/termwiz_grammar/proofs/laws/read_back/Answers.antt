use Rattle.termwiz_grammar.proofs.lemmas.read_back.KeysReadBack as lemmas
use Rattle.termwiz_grammar.proofs.laws.read_back.Goals as goal

pub returns : goal.returns
returns c = lemmas.read_back c.args.key c.args.modifiers c.args.modes
