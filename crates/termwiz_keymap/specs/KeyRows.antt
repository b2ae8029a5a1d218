-- A map from byte lists as the list of its rows, in ascending order of their keys.
use Rattle.std.specs.Prelude.{◌≡◌, ◌≢◌, ◌-◌, ◌<◌, ◌≤◌, ℕ, List, get_or, length, take, min, map as each}
use Rattle.std.specs.Ordering.{nat_cmp}
use Rattle.std.specs.declared.cmp.Ordering.TheVariants.{Less}
use Rattle.std.specs.Cmp.Lexicographic.{slice_cmp}
use Rattle.std.specs.List.{AllZip}
use Rattle.termwiz_keymap.specs.declared.keymap.blocks.Block.{Block}
use Rattle.termwiz_keymap.specs.declared.keymap.row.TheConstants.{SHORT}
use Rattle.termwiz_keymap.specs.declared.keymap.row.Key.{Key}
use Rattle.termwiz_keymap.specs.declared.keymap.row.Key.TheVariants.{Short, Long}
use Rattle.termwiz_keymap.specs.declared.keymap.row.Row.{Row}
use Rattle.termwiz_keymap.specs.Entries.{Entries}

-- a key and a text have the same first bytes, so many of them and no more
pub record AgreeFor (key text : List ℕ) (count : ℕ) : Type 0 where
  pub in_key : count ≤ length key
  pub in_text : count ≤ length text
  pub same : (i : ℕ) → i < count → get_or key i 0 ≡ get_or text i 0
  pub differ : count < length key → count < length text → get_or key count 0 ≢ get_or text count 0

-- a key and a text have so many first bytes in common, or more
pub record ShareFirst (key text : List ℕ) (count : ℕ) : Type 0 where
  pub in_key : count ≤ length key
  pub in_text : count ≤ length text
  pub same : (i : ℕ) → i < count → get_or key i 0 ≡ get_or text i 0

-- the bytes of a key: a short one has them in itself, at most `SHORT` of them, and a long one in a vector
unfoldable pub bytes_of : Key → List ℕ
bytes_of (Short bytes len) = take (min len SHORT) bytes
bytes_of (Long bytes) = bytes.value.items

module _ {V : Type 0} where
  -- the key of a row
  abbrev pub key_of : Row V → List ℕ
  key_of row = bytes_of row.key

  -- the value of a row
  abbrev pub value_of : Row V → V
  value_of row = row.value

  -- the rows as entries
  abbrev pub row_entries : List (Row V) → Entries V
  row_entries rows = each (λ row. (key_of row, value_of row)) rows

  -- each key is before those after it, in the order of bytes
  abbrev pub AreAscending : List (Row V) → Type 0
  AreAscending rows = (i j : ℕ) (r : Row V) → i < j → j < length rows
      → slice_cmp nat_cmp (key_of (get_or rows i r)) (key_of (get_or rows j r)) ≡ Less

  -- the row has this key and this value
  pub record IsRowOf (k : List ℕ) (v : V) (row : Row V) : Type 0 where
    pub key : key_of row ≡ k
    pub value : value_of row ≡ v

  -- the copy has the row's key, and a clone of its value
  pub record IsRowClone (is_clone : V → V → Type 0) (row copy : Row V) : Type 0 where
    pub key : key_of copy ≡ key_of row
    pub value : is_clone (value_of row) (value_of copy)

  abbrev pub AreRowClones : (V → V → Type 0) → List (Row V) → List (Row V) → Type 0
  AreRowClones is_clone rows copies = AllZip (IsRowClone is_clone) rows copies

  -- the row at place i has this key
  pub record IsAt (rows : List (Row V)) (key : List ℕ) (i : ℕ) : Type 0 where
    pub in_range : i < length rows
    pub same : (r : Row V) → key_of (get_or rows i r) ≡ key

  -- a row with this key would stand at place i
  pub record IsGapFor (rows : List (Row V)) (key : List ℕ) (i : ℕ) : Type 0 where
    pub in_range : i ≤ length rows
    pub smaller_before : (j : ℕ) (r : Row V) → j < i → slice_cmp nat_cmp (key_of (get_or rows j r)) key ≡ Less
    pub greater_after : (j : ℕ) (r : Row V) → i ≤ j → j < length rows
        → slice_cmp nat_cmp key (key_of (get_or rows j r)) ≡ Less

  -- none of the rows before the first place has a key after this one, and each from the second place on has
  pub record IsBounded (rows : List (Row V)) (key : List ℕ) (low high : ℕ) : Type 0 where
    pub low_inside : low ≤ length rows
    pub high_inside : high ≤ length rows
    pub up_to : (i : ℕ) (r : Row V) → i < low → slice_cmp nat_cmp key (key_of (get_or rows i r)) ≢ Less
    pub after : (i : ℕ) (r : Row V) → high ≤ i → i < length rows → slice_cmp nat_cmp key (key_of (get_or rows i r)) ≡ Less

  -- the first rows, so many of them, are those whose keys aren't after this one
  abbrev pub IsCountUpTo : List (Row V) → List ℕ → ℕ → Type 0
  IsCountUpTo rows key count = IsBounded rows key count count

  -- of the first so many blocks the last begins with a key that isn't after this one, and the next block begins with one that is
  pub record IsBegun (blocks : List (Block (Row V))) (key : List ℕ) (count : ℕ) : Type 0 where
    pub inside : count ≤ length blocks
    pub up_to : (b : Block (Row V)) (r : Row V) → 0 < count
        → slice_cmp nat_cmp key (key_of (get_or (get_or blocks (count - 1) b).items.items 0 r)) ≢ Less
    pub after : (b : Block (Row V)) (r : Row V) → count < length blocks
        → slice_cmp nat_cmp key (key_of (get_or (get_or blocks count b).items.items 0 r)) ≡ Less
