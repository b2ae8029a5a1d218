-- The place of a row is that of its key among the keys in order.
use Rattle.std.proofs.Common.{⊎_elim, ◌≡◌, ◌∙◌, ◌<◌, ℕ, suc, List, [], ◌∷◌, length, get_or, refl, sym, ap, ap₂, subst, arith, ◌≤◌}
use Rattle.std.specs.FinMap as map
use Rattle.std.specs.FinMap.Entries.{by_order}
use Rattle.std.specs.Ordering.{nat_cmp}
use Rattle.std.specs.Cmp.Lexicographic.{slice_cmp}
use Rattle.std.proofs.lemmas.Cmp.{nat_list_cmp_total}
use Rattle.std.proofs.lemmas.Bool.{cases_lt}
use Rattle.std.proofs.lemmas.List.{get_or-map, length-map}
use Rattle.termwiz_keymap.specs.declared.keymap.row.Row.{Row}
use Rattle.termwiz_keymap.specs.Lookup.{ByteMap}
use Rattle.termwiz_keymap.specs.KeyRows.{key_of, value_of, row_entries, AreAscending}
use Rattle.termwiz_keymap.specs.KeyRanges.{AreGoingOn, GoesOn}
use Rattle.termwiz_keymap.specs.KeysInOrder.{IsEntryAt, AreExtensions}
use Rattle.termwiz_keymap.proofs.lemmas.rows.KeyOrder.{Before}

no_entries : {A : Type 0} (es : List A) → length es ≡ 0 → es ≡ []
no_entries [] e = refl
no_entries (x ∷ es) e = absurd (omega arith)

row_there : {V : Type 0} (rows : List (Row V)) (i : ℕ) → i < length rows → Row V
row_there [] i inside = absurd (omega arith)
row_there (x ∷ rows) i inside = x

module _ {V : Type 0} where
  abbrev entry_of : Row V → List ℕ × V
  entry_of row = (key_of row, value_of row)

  -- an entry before all others is put in front
  put_first : (k : List ℕ) (v : V) (rows : List (Row V))
      → ((r : Row V) → 0 < length rows → Before k (key_of (get_or rows 0 r)))
      → map.put (slice_cmp nat_cmp) k v (row_entries rows) ≡ (k, v) ∷ row_entries rows
  put_first k v [] before = refl
  put_first k v (y ∷ ys) before = ap
      (λ o. by_order o ((k, v) ∷ row_entries (y ∷ ys)) ((key_of y, v) ∷ row_entries ys)
      ((key_of y, value_of y) ∷ map.put (slice_cmp nat_cmp) k v (row_entries ys)))
      (before y (omega arith))

  -- ascending rows are the entries of the map that they make
  pub entries_of_rows : (rows : List (Row V)) → AreAscending rows
      → map.entries (map.from_entries {R = slice_cmp nat_cmp} (row_entries rows)) ≡ row_entries rows
  entries_of_rows [] up = no_entries _ (sym (map.len-entries (map.empty {X = V} {R = slice_cmp nat_cmp}))
      ∙ map.len-empty (slice_cmp nat_cmp) V)
  entries_of_rows (x ∷ rows) up =
      let later : AreAscending rows = λ a b s lt within. up (suc a) (suc b) s (omega arith) (omega arith) in
      map.entries-insert nat_list_cmp_total (map.from_entries (row_entries rows)) (key_of x) (value_of x)
      ∙ ap (map.put (slice_cmp nat_cmp) (key_of x) (value_of x)) (entries_of_rows rows later)
      ∙ put_first (key_of x) (value_of x) rows (λ r inside. up 0 1 r (omega arith) (omega arith))

  module _ (m : ByteMap V) (rows : List (Row V)) (up : AreAscending rows)
      (is : map.from_entries (row_entries rows) ≡ m) where
    entries_are : map.entries m ≡ row_entries rows
    entries_are = ap map.entries (sym is) ∙ entries_of_rows rows up

    pub as_many : map.len m ≡ length rows
    as_many = map.len-entries m ∙ ap length entries_are ∙ length-map rows entry_of

    -- the row at a place is the entry there
    pub row_at : (i : ℕ) (row : Row V) (key : List ℕ) (value : V) → i < length rows → row ≡ get_or rows i row
        → key ≡ key_of row → value ≡ value_of row → IsEntryAt m i key value
    row_at i row key value inside there key_is value_is = record {
      inside = omega (arith, as_many);
      there = λ e. ap (λ es. get_or es i e) entries_are ∙ get_or-map entry_of rows i row e inside
          ∙ ap entry_of (sym there) ∙ ap₂ (λ k v. (k, v)) (sym key_is) (sym value_is);
    }

    -- the entry at a place has the row's key
    key_at : (i : ℕ) (key : List ℕ) (value : V) (r : Row V) → IsEntryAt m i key value → key_of (get_or rows i r) ≡ key
    key_at i key value r at =
        ap (λ e. e.0) (sym (get_or-map entry_of rows i r (key, value) (omega (arith, at.inside, as_many)))
        ∙ ap (λ es. get_or es i (key, value)) (sym entries_are) ∙ at.there (key, value))

    -- the places of the rows that go on after a text
    pub extensions_of : (t : List ℕ) (first low high : ℕ) → AreGoingOn rows t first high → low ≤ high
        → (first ≤ high → low ≡ first) → (high < first → low ≡ high) → AreExtensions m t low high
    extensions_of t first low high of ordered same none = record {
      ordered = ordered;
      inside = omega (arith, of.inside, as_many);
      those = λ i key value at.
          let inside : i < length rows = omega (arith, at.inside, as_many) in
          let r = row_there rows i inside in
          let is = key_at i key value r at in (
            λ goes. let within = of.no_others i r inside (subst (GoesOn t) (sym is) goes) in
                (omega (arith, within.0, within.1, same (omega (arith, within.0, within.1))), within.1),
            λ within. subst (GoesOn t) is (of.those i r
                (⊎_elim (λ (down : high < first). absurd (omega (arith, within.0, within.1, none down)))
                (λ (up : first ≤ high). omega (arith, within.0, same up))
                (cases_lt high first)) within.1),
          );
    }
