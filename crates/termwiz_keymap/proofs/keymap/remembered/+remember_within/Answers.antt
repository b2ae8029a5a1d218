use Rattle.std.proofs.Common.{rules, arith}
use Rattle.termwiz_keymap.proofs.lemmas.rows.Narrowing.{key_longer, range_of_key}
use Rattle.termwiz_keymap.proofs.keymap.remembered.+remember_within.Goals as goal

pub narrowed-next-requires-clause-inside : goal.narrowed-next-requires-clause-inside
narrowed-next-requires-clause-inside g t c =
    key_longer c.args.rows.now c.args.text.now c.args.depth c.args.range c.requires.first c.requires.inside c.loop-low.low
    c.loop-low.invariant.past c.loop-low-test.true c.index-rows-low.result c.index-rows-low.is c.key-key.result.now
    c.key-key.ensures

pub narrowed-next-requires-clause-first : goal.narrowed-next-requires-clause-first
narrowed-next-requires-clause-first g t c =
    range_of_key c.args.rows.now c.args.text.now c.args.depth c.args.range c.requires.first c.requires.inside c.loop-low.low
    c.loop-low.invariant.past c.loop-low-test.true c.index-rows-low.result c.index-rows-low.is c.key-key.result.now
    c.key-key.ensures

pub remember-requires-clause-inside : goal.remember-requires-clause-inside
remember-requires-clause-inside g t c =
    let longer = key_longer c.args.rows.now c.args.text.now c.args.depth c.args.range c.requires.first c.requires.inside
    c.loop-low.low c.loop-low.invariant.past c.loop-low-test.true c.index-rows-low.result c.index-rows-low.is
    c.key-key.result.now c.key-key.ensures in
    omega (arith, longer)

pub remember_within-requires : goal.remember_within-requires
remember_within-requires g t c =
    let longer = key_longer c.args.rows.now c.args.text.now c.args.depth c.args.range c.requires.first c.requires.inside
    c.loop-low.low c.loop-low.invariant.past c.loop-low-test.true c.index-rows-low.result c.index-rows-low.is
    c.key-key.result.now c.key-key.ensures in
    search (rules, longer)
