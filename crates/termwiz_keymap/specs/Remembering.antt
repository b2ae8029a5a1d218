-- Ranges that a key map remembers by the bytes that their keys begin with.
use Rattle.std.specs.Prelude.{◌≡◌, ◌+◌, ◌*◌, ◌<◌, ◌≤◌, ℕ, List, [], ◌∷◌, get_or, length, take}
use Rattle.std.specs.List.{All, Contains}
use Rattle.termwiz_keymap.specs.declared.keymap.row.Row.{Row}
use Rattle.termwiz_keymap.specs.declared.keymap.range.Range.{Range}
use Rattle.termwiz_keymap.specs.declared.keymap.remembered.Remembered.{Remembered}
use Rattle.termwiz_keymap.specs.KeyRows.{AreAscending}
use Rattle.termwiz_keymap.specs.KeyRanges.{IsRangeOf}

-- the number that goes on with these bytes as its last digits, in base 256
abbrev pub number_after : ℕ → List ℕ → ℕ
number_after n [] = n
number_after n (b ∷ bytes) = number_after (n * 256 + b) bytes

-- some bytes as one number, of which the first byte is the most significant
abbrev pub number_of : List ℕ → ℕ
number_of bytes = number_after 0 bytes

abbrev pub AreBytes : List ℕ → Type 0
AreBytes bytes = (k : ℕ) → get_or bytes k 0 < 256

-- the remembered range
abbrev pub range_in : Remembered → Range
range_in found = record { low = found.low; high = found.high; longest = found.longest }

-- what stands in a place, with this number and for so many bytes
pub record IsAmongPlaces (places : List Remembered) (number depth : ℕ) (found : Remembered) : Type 0 where
  pub among : Contains places found
  pub its_number : found.number ≡ number
  pub its_depth : found.depth ≡ depth

-- what is remembered for first bytes of a text
pub record IsFoundFor (places : List Remembered) (text : List ℕ) (found : Remembered) : Type 0 where
  pub among : Contains places found
  pub some : 0 < found.depth
  pub inside : found.depth ≤ length text
  pub its_number : found.number ≡ number_of (take found.depth text)

module _ {V : Type 0} where
  -- What is remembered is the range of the bytes that it is remembered by: of so many, with this number.
  abbrev pub IsRight : List (Row V) → Remembered → Type 0
  IsRight rows found = (front : List ℕ) → AreBytes front → 0 < found.depth → length front ≡ found.depth
      → number_of front ≡ found.number → IsRangeOf rows front (range_in found)

  -- each remembered range is right
  abbrev pub AreRemembered : List (Row V) → List Remembered → Type 0
  AreRemembered rows places = All (IsRight rows) places

  -- ascending rows, and what is remembered of them
  pub record AreSearchable (rows : List (Row V)) (places : List Remembered) : Type 0 where
    pub ascending : AreAscending rows
    pub remembered : AreRemembered rows places
