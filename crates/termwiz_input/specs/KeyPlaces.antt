-- The places of the rows that have a key.
use Rattle.std.specs.Prelude.{◌≡◌, ◌<◌, ◌≤◌, ℕ, List}
use Rattle.std.specs.FinMap as map
use Rattle.termwiz_keys.specs.declared.types.KeyEvent.{KeyEvent}
use Rattle.termwiz_grammar.specs.Table.{table}
use Rattle.termwiz_grammar.specs.RowsInOrder.{IsRowAt}

-- This is the first place, from a place on, of a row that has the key. If there is none, it is the number of rows.
pub record IsNextPlaceOf (key : KeyEvent) (from place : ℕ) : Type 0 where
  pub low : from ≤ place
  pub high : place ≤ map.len table
  pub own : (bytes : List ℕ) (other : KeyEvent) → IsRowAt place bytes other → other ≡ key
  pub none : (between : ℕ) (bytes : List ℕ) → from ≤ between → between < place → ¬ IsRowAt between bytes key
