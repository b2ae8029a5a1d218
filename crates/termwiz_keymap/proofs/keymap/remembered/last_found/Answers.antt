use Rattle.std.proofs.Common.{arith}
use Rattle.termwiz_keymap.proofs.lemmas.rows.RememberedRanges.{front_fits, found_more}
use Rattle.termwiz_keymap.proofs.keymap.remembered.last_found.Goals as goal

pub overflow_mul-number : goal.overflow_mul-number
overflow_mul-number c =
    let small = front_fits c.args.text.now c.loop-number.found.now.depth (λ k. omega (arith, c.type_inv.text k))
    (omega arith) in
    omega (arith, small)

pub overflow_add-number : goal.overflow_add-number
overflow_add-number c =
    let small = front_fits c.args.text.now c.loop-number.found.now.depth (λ k. omega (arith, c.type_inv.text k))
    (omega arith) in
    omega (arith, small, c.type_inv.text c.loop-number.found.now.depth)

pub loop-number-preserved : goal.loop-number-preserved
loop-number-preserved c = found_more c.args.places.now c.args.text.now c.loop-number.found.now c.in-Some.next.now
    c.loop-number.invariant (omega arith) c.in-Some.ensures
