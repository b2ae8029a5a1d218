use Rattle.std.proofs.Common.{arith}
use Rattle.std.proofs.lemmas.Bool.Decides.{nat_tests}
use Rattle.termwiz_input.proofs.lemmas.items.ItemByHead.{start_row}
use Rattle.termwiz_input.proofs.front.is_paste_start.Goals as goal

pub returns-else-len : goal.returns-else-len
returns-else-len c = (
  λ test. absurd (c.if-len.false (grind (arith, nat_tests))),
  λ begins. absurd (c.if-len.false (start_row c.args.text.now c.requires.0 c.args.len c.requires.1 begins)),
)
