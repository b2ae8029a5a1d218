-- The keys of a map in the order of their bytes, each at a place of its own.
use Rattle.std.specs.Prelude.{◌≡◌, ◌<◌, ◌≤◌, ◌↔◌, ℕ, List, get_or, Some}
use Rattle.std.specs.Ordering.{nat_cmp}
use Rattle.std.specs.declared.cmp.Ordering.TheVariants.{Less}
use Rattle.std.specs.Cmp.Lexicographic.{slice_cmp}
use Rattle.std.specs.FinMap as map
use Rattle.termwiz_keymap.specs.KeyRanges.{GoesOn}
use Rattle.termwiz_keymap.specs.Lookup.{ByteMap}

module _ {V : Type 0} where
  -- the key at this place, and its value
  pub record IsEntryAt (m : ByteMap V) (place : ℕ) (key : List ℕ) (value : V) : Type 0 where
    pub inside : place < map.len m
    pub there : (entry : List ℕ × V) → get_or (map.entries m) place entry ≡ (key, value)

  -- the keys that begin with a text and are longer are those from the first place up to the second
  pub record AreExtensions (m : ByteMap V) (text : List ℕ) (low high : ℕ) : Type 0 where
    pub ordered : low ≤ high
    pub inside : high ≤ map.len m
    pub those : (place : ℕ) (key : List ℕ) (value : V) → IsEntryAt m place key value
        → GoesOn text key ↔ ((low ≤ place) × (place < high))

-- Each key is at one place, and the keys at higher places are greater.
pub record AreInOrder (V : Type 0) : Type 0 where
  pub stored : (m : ByteMap V) (key : List ℕ) (value : V)
      → (map.get m key ≡ Some value) ↔ ((place : ℕ) × IsEntryAt m place key value)
  pub ascending : (m : ByteMap V) (i j : ℕ) (key later : List ℕ) (value other : V) → IsEntryAt m i key value
      → IsEntryAt m j later other → i < j → slice_cmp nat_cmp key later ≡ Less
