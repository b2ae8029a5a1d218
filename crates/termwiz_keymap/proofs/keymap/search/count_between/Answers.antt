use Rattle.std.proofs.Common.{◌+◌, ◌-◌, ◌/◌, arith}
use Rattle.termwiz_keymap.proofs.lemmas.rows.BinarySearch.{narrowed_above, narrowed_below}
use Rattle.termwiz_keymap.proofs.keymap.search.count_between.Goals as goal

pub loop-low-preserved-then-is_after : goal.loop-low-preserved-then-is_after
loop-low-preserved-then-is_after g c =
    let agree = rw c.key-other.ensures at c.shared_len-shared.ensures in
    let tells = rw c.key-other.ensures at c.is_after.ensures in
    narrowed_above c.args.rows.now c.requires.ascending c.args.key.now c.loop-low.low c.loop-low.high
    c.loop-low.low_shared c.loop-low.high_shared c.loop-low.invariant
    (c.loop-low.low + (c.loop-low.high - c.loop-low.low) / 2) c.index-rows-middle.result (omega arith)
    (omega arith) c.index-rows-middle.is c.shared_len-shared.result agree (tells.0 c.if-is_after.true)

pub loop-low-preserved : goal.loop-low-preserved
loop-low-preserved g c =
    let agree = rw c.key-other.ensures at c.shared_len-shared.ensures in
    let tells = rw c.key-other.ensures at c.is_after.ensures in
    narrowed_below c.args.rows.now c.requires.ascending c.args.key.now c.loop-low.low c.loop-low.high
    c.loop-low.low_shared c.loop-low.high_shared c.loop-low.invariant
    (c.loop-low.low + (c.loop-low.high - c.loop-low.low) / 2) c.index-rows-middle.result (omega arith)
    (omega arith) c.index-rows-middle.is c.shared_len-shared.result agree
    (λ before. cc (tells.1 before, c.if-is_after.false))
