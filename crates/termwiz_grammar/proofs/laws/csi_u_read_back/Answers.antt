use Rattle.std.proofs.Common.{arith}
use Rattle.termwiz_grammar.proofs.lemmas.read_back.KeysReadBack as lemmas
use Rattle.termwiz_grammar.proofs.laws.csi_u_read_back.Goals as goal

pub returns : goal.returns
returns c = λ small some few. lemmas.csi_u_read_back c.args.c c.args.m (omega arith) (omega arith) (omega arith)
