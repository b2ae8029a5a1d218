-- The words that the program is started with, and the lines of faults.
use Rattle.std.specs.Prelude.{◌≡◌, ◌≤◌, ℕ, List, [], ◌∷◌, All, Option, Some, None, length, codes}
use Rattle.std.specs.Char.{IsAsciiDigit}
use Rattle.std.specs.Option.{SomeIff}
use Rattle.std.specs.Str.Parse.{digits_value}
use Rattle.keyshow.specs.declared.pump.RunError.{RunError}
use Rattle.keyshow.specs.declared.pump.RunError.TheVariants.{Read, Write, Memory}

-- one to four ASCII digits, with a value from 1 to 4096
pub record IsPiece (word : List ℕ) : Type 0 where
  pub some : 1 ≤ length word
  pub few : length word ≤ 4
  pub digits : All IsAsciiDigit word
  pub least : 1 ≤ digits_value 10 word
  pub most : digits_value 10 word ≤ 4096

-- the piece that the words give: 64 if there are none, the value of a single word that is a piece,
-- and nothing for other words
abbrev pub PieceOf : List (List ℕ) → Option ℕ → Type 0
PieceOf [] piece = piece ≡ Some 64
PieceOf (word ∷ []) piece = SomeIff piece (IsPiece word) (digits_value 10 word)
PieceOf (first ∷ second ∷ others) piece = piece ≡ None

-- the line that says why a run ended early
abbrev pub fault_text : RunError → List ℕ
fault_text Read = codes "keyshow: read failed"
fault_text Write = codes "keyshow: write failed"
fault_text Memory = codes "keyshow: out of memory"
