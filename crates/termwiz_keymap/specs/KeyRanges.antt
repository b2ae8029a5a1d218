-- Ranges of rows whose keys begin with the same bytes.
use Rattle.std.specs.Prelude.{◌≡◌, ◌≢◌, ◌<◌, ◌≤◌, ℕ, List, [], ◌++◌, get_or, length}
use Rattle.termwiz_keymap.specs.declared.keymap.row.Row.{Row}
use Rattle.termwiz_keymap.specs.declared.keymap.range.Range.{Range}
use Rattle.termwiz_keymap.specs.Bytes.{Begins}
use Rattle.termwiz_keymap.specs.KeyRows.{key_of}

-- the key begins with these bytes and is longer
abbrev pub GoesOn : List ℕ → List ℕ → Type 0
GoesOn front key = (rest : List ℕ) × (rest ≢ []) × (key ≡ front ++ rest)

module _ {V : Type 0} where
  -- the rows from `low` up to `high` are those whose keys begin with these bytes and are longer
  pub record AreGoingOn (rows : List (Row V)) (front : List ℕ) (low high : ℕ) : Type 0 where
    pub inside : high ≤ length rows
    pub those : (i : ℕ) (r : Row V) → low ≤ i → i < high → GoesOn front (key_of (get_or rows i r))
    pub no_others : (i : ℕ) (r : Row V) → i < length rows → GoesOn front (key_of (get_or rows i r))
        → (low ≤ i) × (i < high)

  -- some key begins with these bytes and is longer
  abbrev pub SomeGoesOn : List (Row V) → List ℕ → Type 0
  SomeGoesOn rows front = (i : ℕ) × (i < length rows) × ((r : Row V) → GoesOn front (key_of (get_or rows i r)))

  -- of the keys that begin a text the longest is that of the row at this place; if there are none, no row is there
  pub record IsLongest (rows : List (Row V)) (text : List ℕ) (place : ℕ) : Type 0 where
    pub begins : (r : Row V) → place < length rows → Begins (key_of (get_or rows place r)) text
    pub some : (i : ℕ) (r : Row V) → i < length rows → Begins (key_of (get_or rows i r)) text → place < length rows
    pub longest : (i : ℕ) (r : Row V) → i < length rows → Begins (key_of (get_or rows i r)) text
        → length (key_of (get_or rows i r)) ≤ length (key_of (get_or rows place r))

  -- the range of some bytes: the rows that go on after them, and the row of the longest key that begins them
  pub record IsRangeOf (rows : List (Row V)) (front : List ℕ) (range : Range) : Type 0 where
    pub going_on : AreGoingOn rows front range.low range.high
    pub longest : IsLongest rows front range.longest

  -- each key from `low` up to `high` has a byte at this depth, and these bytes rise
  pub record AreRising (rows : List (Row V)) (depth low high : ℕ) : Type 0 where
    pub inside : high ≤ length rows
    pub longer : (i : ℕ) (r : Row V) → low ≤ i → i < high → depth < length (key_of (get_or rows i r))
    pub rising : (i j : ℕ) (r : Row V) → low ≤ i → i < j → j < high
        → get_or (key_of (get_or rows i r)) depth 0 ≤ get_or (key_of (get_or rows j r)) depth 0

  -- the first place from `low` on whose key's byte at this depth isn't below the limit, or `high`
  pub record IsFirstFrom (rows : List (Row V)) (depth limit low high place : ℕ) : Type 0 where
    pub past_low : low ≤ place
    pub up_to_high : place ≤ high
    pub below : (i : ℕ) (r : Row V) → low ≤ i → i < place → get_or (key_of (get_or rows i r)) depth 0 < limit
    pub from : (i : ℕ) (r : Row V) → place ≤ i → i < high → limit ≤ get_or (key_of (get_or rows i r)) depth 0
