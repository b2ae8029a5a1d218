use Rattle.std.proofs.Common.{◌≤◌, ◌-◌, length, take}
use Rattle.termwiz_keymap.specs.KeyRanges.{IsRangeOf}
use Rattle.termwiz_keymap.proofs.keymap.text_range.range_of.Given as goal

abbrev pub invariant-loop-depth : goal.invariant-loop-depth
invariant-loop-depth g l = record {
  inside : l.depth ≤ length l.text;
  range : IsRangeOf l.rows (take l.depth l.text) l.range;
}

abbrev pub decreases-loop-depth : goal.decreases-loop-depth
decreases-loop-depth g l = length l.text - l.depth
