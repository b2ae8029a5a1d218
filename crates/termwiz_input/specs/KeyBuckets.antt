-- The buckets of the keys, and the chain of each bucket's rows by their places.
use Rattle.std.specs.Prelude.{◌≡◌, ◌+◌, ◌*◌, ◌%◌, ◌<◌, ◌≤◌, ℕ, List, length, slice_index}
use Rattle.std.specs.FinMap as map
use Rattle.termwiz_keys.specs.declared.types.KeyCode.{KeyCode}
use Rattle.termwiz_keys.specs.declared.types.KeyCode.TheVariants.{Char, Function}
use Rattle.termwiz_keys.specs.declared.types.KeyEvent.{KeyEvent}
use Rattle.termwiz_grammar.specs.Table.{table}
use Rattle.termwiz_grammar.specs.RowsInOrder.{IsRowAt}

-- a number of a key: its character, 128 and its number for a function key, 0 for any other
abbrev pub code_of : KeyCode → ℕ
code_of (Char character) = character
code_of (Function number) = 128 + number
code_of _ = 0

-- how many buckets the keys are parted into
abbrev pub bucket_count : ℕ
bucket_count = 256

-- the bucket of a key
unfoldable pub bucket_of : KeyEvent → ℕ
bucket_of key = (code_of key.key + 16 * key.modifiers.0) % bucket_count

-- The keys of a row that may be at a place are of this bucket.
abbrev pub IsOfBucket : ℕ → ℕ → Type 0
IsOfBucket bucket place = (bytes : List ℕ) (key : KeyEvent) → IsRowAt place bytes key → bucket_of key ≡ bucket

-- This is the first place, from a place on, of a row whose key is of the bucket. If there is none, it is the number of rows.
pub record IsNextOfBucket (bucket from place : ℕ) : Type 0 where
  pub low : from ≤ place
  pub high : place ≤ map.len table
  pub own : IsOfBucket bucket place
  pub none : (between : ℕ) (bytes : List ℕ) (key : KeyEvent) → from ≤ between → between < place → IsRowAt between bytes key
      → ¬ (bucket_of key ≡ bucket)

-- for each bucket its first place from a place on
pub record AreFirst (from : ℕ) (first : List ℕ) : Type 0 where
  pub counted : length first ≡ bucket_count
  pub each : (bucket : ℕ) → bucket < bucket_count → IsNextOfBucket bucket from (slice_index first bucket)

-- for each row from a place on the next place of its key's bucket
pub record AreNext (from : ℕ) (next : List ℕ) : Type 0 where
  pub counted : length next ≡ map.len table
  pub each : (place : ℕ) (bytes : List ℕ) (key : KeyEvent) → from ≤ place → IsRowAt place bytes key
      → IsNextOfBucket (bucket_of key) (place + 1) (slice_index next place)

-- From a row of the key's bucket on, no row that has the key was passed by.
pub record IsSearched (key : KeyEvent) (from place : ℕ) : Type 0 where
  pub low : from ≤ place
  pub high : place ≤ map.len table
  pub own : IsOfBucket (bucket_of key) place
  pub none : (between : ℕ) (bytes : List ℕ) → from ≤ between → between < place → ¬ IsRowAt between bytes key
