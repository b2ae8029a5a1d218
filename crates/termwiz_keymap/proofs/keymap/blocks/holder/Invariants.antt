use Rattle.std.proofs.Common.{◌-◌, ◌<◌, ◌≤◌, length, get_or}
use Rattle.termwiz_keymap.specs.declared.keymap.blocks.Block.{Block}
use Rattle.termwiz_keymap.proofs.keymap.blocks.holder.Given as goal

abbrev pub invariant-loop-low : goal.invariant-loop-low
invariant-loop-low g l = record {
  ordered : l.low < l.high;
  inside : l.high ≤ length l.blocks;
  started : (b : Block _) → (get_or l.blocks l.low b).start ≤ l.place;
  next : (b : Block _) → l.high < length l.blocks → l.place < (get_or l.blocks l.high b).start;
}

abbrev pub decreases-loop-low : goal.decreases-loop-low
decreases-loop-low g l = l.high - l.low
