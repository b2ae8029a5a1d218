use Rattle.std.proofs.Common.{◌+◌, ◌-◌, ◌/◌, arith}
use Rattle.termwiz_keymap.proofs.lemmas.rows.ByteSearch.{closed, closing_above, closing_all, closing_below}
use Rattle.termwiz_keymap.proofs.keymap.range.first_from.Goals as goal

pub returns-then-byte-limit : goal.returns-then-byte-limit
returns-then-byte-limit g c = closed c.args.rows.now c.args.depth c.args.limit c.args.low c.args.high c.args.low
    c.args.low (closing_below c.args.rows.now c.args.depth c.args.limit c.args.low c.args.high c.args.low c.args.high
    c.requires.rising (closing_all c.args.rows.now c.args.depth c.args.limit c.args.low c.args.high c.requires.ordered)
    c.args.low (omega arith) c.if-low-high.true c.byte.result c.index-rows-low.result c.index-rows-low.is c.byte.ensures
    c.if-byte-limit.true) (omega arith)

pub loop-low-preserved-then-byte-limit-2 : goal.loop-low-preserved-then-byte-limit-2
loop-low-preserved-then-byte-limit-2 g c = closing_above c.args.rows.now c.args.depth c.args.limit c.args.low
    c.args.high c.loop-low.low c.loop-low.high c.requires.rising c.loop-low.invariant
    (c.loop-low.low + (c.loop-low.high - c.loop-low.low) / 2) (omega arith) (omega arith) c.byte-in-loop-low.result
    c.index-rows-middle.result c.index-rows-middle.is c.byte-in-loop-low.ensures c.if-byte-limit-2.true

pub loop-low-preserved : goal.loop-low-preserved
loop-low-preserved g c = closing_below c.args.rows.now c.args.depth c.args.limit c.args.low c.args.high
    c.loop-low.low c.loop-low.high c.requires.rising c.loop-low.invariant
    (c.loop-low.low + (c.loop-low.high - c.loop-low.low) / 2) (omega arith) (omega arith) c.byte-in-loop-low.result
    c.index-rows-middle.result c.index-rows-middle.is c.byte-in-loop-low.ensures c.if-byte-limit-2.false
