use Rattle.std.proofs.Common.{◌-◌}
use Rattle.termwiz_keymap.proofs.lemmas.rows.BinarySearch.{IsNarrowed}
use Rattle.termwiz_keymap.proofs.keymap.search.count_between.Given as goal

abbrev pub invariant-loop-low : goal.invariant-loop-low
invariant-loop-low g l = IsNarrowed l.rows l.key l.low l.high l.low_shared l.high_shared

abbrev pub decreases-loop-low : goal.decreases-loop-low
decreases-loop-low g l = l.high - l.low
