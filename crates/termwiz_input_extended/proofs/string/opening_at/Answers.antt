use Rattle.std.proofs.Common.{arith}
use Rattle.termwiz_input_extended.proofs.lemmas.strings.Openings.{nothing_at, escape_at}
use Rattle.termwiz_input_extended.proofs.string.opening_at.Goals as goal

pub returns-in-empty : goal.returns-in-empty
returns-in-empty c = nothing_at c.args.text.now (omega arith)

pub returns-in-empty-2 : goal.returns-in-empty-2
returns-in-empty-2 c = escape_at c.args.text.now (omega arith) (omega arith)
