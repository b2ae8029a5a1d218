use Rattle.std.proofs.Common.{arith}
use Rattle.termwiz_input_extended.proofs.lemmas.fronts.KnownFronts.{escapes_front}
use Rattle.termwiz_input_extended.proofs.next_item.is_alt_escape.Goals as goal

pub returns-in-27 : goal.returns-in-27
returns-in-27 c = λ reading more is.
    escapes_front reading c.args.text.now more (omega arith) (omega arith) (omega arith) (omega arith)
