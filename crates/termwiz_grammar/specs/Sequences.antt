-- The sequences: each stands for one event.
use Rattle.std.specs.Prelude.{ℕ, List, Contains}
use Rattle.termwiz_keys.specs.declared.types.KeyEvent.{KeyEvent}
use Rattle.termwiz_keys.specs.declared.types.MouseEvent.{MouseEvent}
use Rattle.termwiz_grammar.specs.Table.{rows}
use Rattle.termwiz_grammar.specs.MouseReports.{IsMouseReport}

-- what a sequence stands for
pub data Meaning : Type 0 where
  Row : KeyEvent → Meaning
  Report : MouseEvent → Meaning

-- A sequence is the bytes of a row of the table, or an SGR mouse report.
unfoldable pub IsSequence : List ℕ → Meaning → Type 0
IsSequence text (Row key) = Contains rows (text, key)
IsSequence text (Report mouse) = IsMouseReport text mouse
