use Rattle.std.proofs.Common.{arith}
use Rattle.std.proofs.lemmas.Bool.Decides.{nat_tests}
use Rattle.std.proofs.lemmas.Nat.{and_comm}
use Rattle.std.specs.Int.Bits.{or_add_and}
use Rattle.termwiz_base.proofs.laws.every_by_union.Goals as goal

pub returns : goal.returns
returns c = λ a b. grind (arith, nat_tests, or_add_and b a, and_comm a b)
