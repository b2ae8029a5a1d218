use Rattle.std.proofs.Common.{◌≡◌, ◌≢◌, ◌-◌, ◌<◌, ◌≤◌, length, get_or}
use Rattle.std.specs.Ordering.{nat_cmp}
use Rattle.std.specs.declared.cmp.Ordering.TheVariants.{Less}
use Rattle.std.specs.Cmp.Lexicographic.{slice_cmp}
use Rattle.termwiz_keymap.specs.declared.keymap.blocks.Block.{Block}
use Rattle.termwiz_keymap.specs.declared.keymap.row.Row.{Row}
use Rattle.termwiz_keymap.specs.KeyRows.{key_of}
use Rattle.termwiz_keymap.proofs.keymap.search.blocks_up_to.Given as goal

abbrev pub invariant-loop-low : goal.invariant-loop-low
invariant-loop-low g l = record {
  ordered : l.low ≤ l.high;
  inside : l.high ≤ length l.blocks;
  up_to : (b : Block (Row _)) (r : Row _) → 0 < l.low
      → slice_cmp nat_cmp l.key (key_of (get_or (get_or l.blocks (l.low - 1) b).items.items 0 r)) ≢ Less;
  after : (b : Block (Row _)) (r : Row _) → l.high < length l.blocks
      → slice_cmp nat_cmp l.key (key_of (get_or (get_or l.blocks l.high b).items.items 0 r)) ≡ Less;
}

abbrev pub decreases-loop-low : goal.decreases-loop-low
decreases-loop-low g l = l.high - l.low
