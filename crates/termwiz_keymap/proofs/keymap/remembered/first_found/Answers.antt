use Rattle.std.proofs.Common.{arith}
use Rattle.termwiz_keymap.proofs.lemmas.rows.RememberedRanges.{number_shorter}
use Rattle.termwiz_keymap.proofs.keymap.remembered.first_found.Goals as goal

pub loop-depth-preserved : goal.loop-depth-preserved
loop-depth-preserved c = record {
  inside = omega (arith, c.loop-depth.invariant.inside);
  few = omega (arith, c.loop-depth.invariant.few);
  number = number_shorter c.args.text.now c.loop-depth.depth c.loop-depth.number (λ k. omega (arith, c.type_inv.text k))
      (omega arith) c.loop-depth.invariant.inside c.loop-depth.invariant.number;
}
