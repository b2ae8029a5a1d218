use Rattle.std.proofs.Common.{arith}
use Rattle.termwiz_keymap.proofs.lemmas.rows.RememberedRanges.{front_fits}
use Rattle.termwiz_keymap.proofs.keymap.remembered.number_of.Goals as goal

pub overflow_mul-number : goal.overflow_mul-number
overflow_mul-number c =
    let small = front_fits c.args.bytes.now c.loop-byte.byte-index (λ k. omega (arith, c.type_inv.bytes k)) (omega arith) in
    omega (arith, small)

pub overflow_add-number : goal.overflow_add-number
overflow_add-number c =
    let small = front_fits c.args.bytes.now c.loop-byte.byte-index (λ k. omega (arith, c.type_inv.bytes k)) (omega arith) in
    omega (arith, small, c.type_inv.bytes c.loop-byte.byte-index)
