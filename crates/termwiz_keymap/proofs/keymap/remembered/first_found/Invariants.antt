use Rattle.std.proofs.Common.{◌≡◌, ◌≤◌, length, take}
use Rattle.termwiz_keymap.specs.Remembering.{number_of}
use Rattle.termwiz_keymap.proofs.keymap.remembered.first_found.Given as goal

abbrev pub invariant-loop-depth : goal.invariant-loop-depth
invariant-loop-depth l = record {
  inside : l.depth ≤ length l.text;
  few : l.depth ≤ 3;
  number : l.number ≡ number_of (take l.depth l.text);
}

abbrev pub decreases-loop-depth : goal.decreases-loop-depth
decreases-loop-depth l = l.depth
