use Rattle.std.proofs.Common.{◌-◌, ◌<◌, ◌≤◌, ℕ, length, get_or}
use Rattle.termwiz_keymap.specs.declared.keymap.row.Row.{Row}
use Rattle.termwiz_keymap.specs.KeyRows.{ShareFirst, key_of}
use Rattle.termwiz_keymap.proofs.keymap.text_search.end_of.Given as goal

abbrev pub invariant-loop-low : goal.invariant-loop-low
invariant-loop-low g l = record {
  past : l.fn.low ≤ l.low;
  ordered : l.low ≤ l.high;
  inside : l.high ≤ length l.rows;
  sharing : (i : ℕ) (r : Row _) → l.fn.low ≤ i → i < l.low → ShareFirst (key_of (get_or l.rows i r)) l.text (length l.text);
  others : (i : ℕ) (r : Row _) → l.high ≤ i → i < length l.rows
      → ShareFirst (key_of (get_or l.rows i r)) l.text (length l.text) → ⊥;
}

abbrev pub decreases-loop-low : goal.decreases-loop-low
decreases-loop-low g l = l.high - l.low
