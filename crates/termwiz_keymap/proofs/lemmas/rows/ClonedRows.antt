-- Copies of rows with clones of their values.
use Rattle.std.proofs.Common.{◌≡◌, ◌<◌, ◌+◌, ℕ, List, [], ◌∷◌, ◌++◌, length, take, get_or}
use Rattle.std.specs.FinMap.{from_entries}
use Rattle.std.proofs.lemmas.List.Elements.{all_zip_more}
use Rattle.termwiz_keymap.specs.declared.keymap.row.Row.{Row}
use Rattle.termwiz_keymap.specs.Entries.{AreClones}
use Rattle.termwiz_keymap.specs.Lookup.{ByteMap, ClonesEqual, IsClone}
use Rattle.termwiz_keymap.specs.KeyRows.{key_of, value_of, row_entries, IsRowClone, AreRowClones}
use Rattle.termwiz_keymap.proofs.lemmas.entries.ClonedEntries.{IsClone-from_entries, same_from_clone}

module _ {V : Type 0} (is_clone : V → V → Type 0) where
  entries_cloned : (rows copies : List (Row V)) → AreRowClones is_clone rows copies
      → AreClones is_clone (row_entries rows) (row_entries copies)
  entries_cloned [] [] these = tt
  entries_cloned [] (c ∷ cs) these = absurd these
  entries_cloned (r ∷ rs) [] these = absurd these
  entries_cloned (r ∷ rs) (c ∷ cs) these = ((these.0.key, these.0.value), entries_cloned rs cs these.1)

  -- one row more is copied
  pub one_more_copied : (rows copies : List (Row V)) (i : ℕ) (row copy : Row V)
      → AreRowClones is_clone (take i rows) copies → i < length rows → row ≡ get_or rows i row
      → key_of copy ≡ key_of row → is_clone (value_of row) (value_of copy)
      → AreRowClones is_clone (take (i + 1) rows) (copies ++ copy ∷ [])
  one_more_copied rows copies i row copy these inside is key value =
      all_zip_more (IsRowClone is_clone) rows copies i row copy inside is these (record { key = key; value = value })

  module _ (rows copies : List (Row V)) (these : AreRowClones is_clone rows copies) where
    -- the copies' map is a clone of the rows' map
    pub map_cloned : (m : ByteMap V) → from_entries (row_entries rows) ≡ m
        → IsClone is_clone m (from_entries (row_entries copies))
    map_cloned m is =
        IsClone-from_entries is_clone m (row_entries rows) (row_entries copies) is (entries_cloned rows copies these)

    -- or, if clones of the values equal them, the same map
    pub map_same : (m : ByteMap V) → ClonesEqual is_clone → from_entries (row_entries rows) ≡ m
        → from_entries (row_entries copies) ≡ m
    map_same m equal is = same_from_clone is_clone m (from_entries (row_entries copies)) equal (map_cloned m is)
