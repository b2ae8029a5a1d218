-- The rows of the sequence table in the order of their bytes, and those that would complete a text.
use Rattle.std.specs.Prelude.{◌≡◌, ◌<◌, ◌≤◌, ◌↔◌, ℕ, Bool, true, false, List, ◌++◌, Contains, IsTrue}
use Rattle.std.specs.Ordering.{nat_cmp}
use Rattle.std.specs.declared.cmp.Ordering.TheVariants.{Less}
use Rattle.std.specs.Cmp.Lexicographic.{slice_cmp}
use Rattle.std.specs.FinMap as map
use Rattle.termwiz_keymap.specs.KeysInOrder.{IsEntryAt, AreExtensions}
use Rattle.termwiz_keymap.specs.Lookup.{IsExtended}
use Rattle.termwiz_keys.specs.Introducers.{ESC}
use Rattle.termwiz_keys.specs.declared.types.KeyEvent.{KeyEvent}
use Rattle.termwiz_grammar.specs.Table.{rows, table}
use Rattle.termwiz_grammar.specs.Laws.{row_count}

-- the row at this place, in the order of the rows' bytes, has these bytes and this key
abbrev pub IsRowAt : ℕ → List ℕ → KeyEvent → Type 0
IsRowAt place bytes key = IsEntryAt table place bytes key

-- The places have exactly the rows of the table, in the order of their bytes.
pub record RowsInOrder : Type 0 where
  pub counted : map.len table ≡ row_count
  pub exactly : (bytes : List ℕ) (key : KeyEvent) → Contains rows (bytes, key) ↔ ((place : ℕ) × IsRowAt place bytes key)
  pub ascending : (i j : ℕ) (bytes later : List ℕ) (key other : KeyEvent) → IsRowAt i bytes key → IsRowAt j later other
      → i < j → slice_cmp nat_cmp bytes later ≡ Less

-- some row begins with the text and is longer
abbrev pub BeginsRows : List ℕ → Type 0
BeginsRows text = IsExtended table text

-- the text is ESC and the beginning of rows
abbrev pub BeginsRowsAfterEscape : List ℕ → Type 0
BeginsRowsAfterEscape text = (after : List ℕ) × (text ≡ ESC ++ after) × BeginsRows after

-- The rows that would complete a text, by their places: from `low` on and below `high`, and none if both are the same. They are the rows
-- that begin with the text and are longer. If there are none, they are those that begin with what follows the text's ESC and are longer.
pub record AreCompletions (text : List ℕ) (with_alt : Bool) (low high : ℕ) : Type 0 where
  pub ordered : low ≤ high
  -- the second case: the keys of the rows get ALT
  pub when : IsTrue with_alt ↔ ((¬ BeginsRows text) × BeginsRowsAfterEscape text)
  -- the places are exactly those of such rows
  pub whole : with_alt ≡ false → AreExtensions table text low high
  pub after_escape : with_alt ≡ true → (after : List ℕ) → text ≡ ESC ++ after → AreExtensions table after low high
