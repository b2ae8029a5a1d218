-- What a buffered text means once the rest of a row has come.
use Rattle.std.specs.Prelude.{◌≡◌, ◌≢◌, ◌<◌, ◌≤◌, ℕ, Bool, true, false, List, [], ◌∷◌, ◌++◌}
use Rattle.termwiz_keys.specs.Introducers.{ESC, START}
use Rattle.termwiz_keys.specs.Keys.{escape, with_alt}
use Rattle.termwiz_keys.specs.declared.types.KeyEvent.{KeyEvent}
use Rattle.termwiz_keys.specs.declared.types.InputEvent.TheVariants.{Key}
use Rattle.termwiz_grammar.specs.Grammar.{Means}
use Rattle.termwiz_grammar.specs.RowsInOrder.{AreCompletions, IsRowAt}

-- With a tail the text is the bytes of a row, and means its key. But START is no key: it opens a paste.
pub record IsCompletedBy (row : List ℕ) (key : KeyEvent) (text : List ℕ) : Type 0 where
  pub tail : List ℕ
  pub longer : tail ≢ []
  pub whole : text ++ tail ≡ row
  pub is_key : row ≢ START → Means (text ++ tail) false (Key key ∷ []) []
  pub is_start : row ≡ START → Means (text ++ tail) false [] START

-- With a tail the text is ESC and the bytes of a row, and means its key with ALT. But ESC before START is the key Escape, and START opens
-- a paste.
pub record IsCompletedAfterEscape (row : List ℕ) (key : KeyEvent) (text : List ℕ) : Type 0 where
  pub tail : List ℕ
  pub longer : tail ≢ []
  pub whole : text ++ tail ≡ ESC ++ row
  pub is_key : row ≢ START → Means (text ++ tail) false (Key (with_alt key) ∷ []) []
  pub is_start : row ≡ START → Means (text ++ tail) false (Key escape ∷ []) START

-- Each row that would complete a text does.
abbrev pub CompletionsAreRead : Type 0
CompletionsAreRead = (text row : List ℕ) (key : KeyEvent) (low high place : ℕ) (with_alt : Bool)
    → AreCompletions text with_alt low high → low ≤ place → place < high → IsRowAt place row key
    → (with_alt ≡ false → IsCompletedBy row key text) × (with_alt ≡ true → IsCompletedAfterEscape row key text)
