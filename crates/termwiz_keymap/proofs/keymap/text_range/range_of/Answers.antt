use Rattle.termwiz_keymap.proofs.lemmas.rows.Narrowing.{ended}
use Rattle.termwiz_keymap.proofs.keymap.text_range.range_of.Goals as goal

pub returns-else-range : goal.returns-else-range
returns-else-range g c =
    ended c.args.rows.now c.args.text.now c.loop-depth.depth c.loop-depth.range c.loop-depth.invariant.range
    c.if-range.false
