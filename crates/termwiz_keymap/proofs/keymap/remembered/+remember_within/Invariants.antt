use Rattle.std.proofs.Common.{◌-◌, ◌≤◌}
use Rattle.termwiz_keymap.specs.Remembering.{AreRemembered}
use Rattle.termwiz_keymap.proofs.keymap.remembered.+remember_within.Given as goal

abbrev pub decreases-remember_within : goal.decreases-remember_within
decreases-remember_within g l = 8 - l.depth

abbrev pub invariant-loop-low : goal.invariant-loop-low
invariant-loop-low g l = record { past : l.range.low ≤ l.low; remembered : AreRemembered l.rows l.places }

abbrev pub decreases-loop-low : goal.decreases-loop-low
decreases-loop-low g l = l.range.high - l.low
