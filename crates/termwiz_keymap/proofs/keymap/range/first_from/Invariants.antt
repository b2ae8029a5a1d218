use Rattle.std.proofs.Common.{◌-◌}
use Rattle.termwiz_keymap.proofs.lemmas.rows.ByteSearch.{IsClosing}
use Rattle.termwiz_keymap.proofs.keymap.range.first_from.Given as goal

abbrev pub invariant-loop-low : goal.invariant-loop-low
invariant-loop-low g l = IsClosing l.rows l.depth l.limit l.initial.low l.initial.high l.low l.high

abbrev pub decreases-loop-low : goal.decreases-loop-low
decreases-loop-low g l = l.high - l.low
