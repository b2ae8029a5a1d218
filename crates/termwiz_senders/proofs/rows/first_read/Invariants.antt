use Rattle.std.proofs.Common.{◌≡◌, ◌≤◌, ◌-◌, ℕ, List}
use Rattle.std.specs.FinMap as map
use Rattle.termwiz_keys.specs.declared.types.KeyEvent.{KeyEvent}
use Rattle.termwiz_grammar.specs.RowsInOrder.{IsRowAt}
use Rattle.termwiz_grammar.specs.Table.{table}
use Rattle.termwiz_senders.proofs.lemmas.ReadAlone.{NoneBefore}
use Rattle.termwiz_senders.proofs.rows.first_read.Given as goal

-- a row at this place has the key, and no row before it is read as the key
abbrev pub invariant-loop-row : goal.invariant-loop-row
invariant-loop-row l = record {
  inside : l.place ≤ map.len table;
  own : (bytes : List ℕ) (other : KeyEvent) → IsRowAt l.place bytes other → other ≡ l.fn.key;
  none : NoneBefore l.fn.reading l.fn.report l.fn.key l.place;
}

abbrev pub decreases-loop-row : goal.decreases-loop-row
decreases-loop-row l = map.len table - l.place
