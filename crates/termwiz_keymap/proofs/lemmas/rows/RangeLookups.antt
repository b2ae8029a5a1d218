-- What a search for a text among the rows says of the map that they make.
use Rattle.std.proofs.Common.{◌≡◌, ◌∙◌, ◌<◌, ◌≤◌, ℕ, List, [], ◌∷◌, ◌++◌, length, take, drop, get_or, refl, sym, ap, arith, take-append-drop}
use Rattle.std.specs.Prelude.{◌↔◌, Bool, IsTrue, Option, Some, None, is_some, IsSome}
use Rattle.std.specs.FinMap as map
use Rattle.std.proofs.Math.Seq.{take-append_seam}
use Rattle.std.proofs.lemmas.List.{length-take-le}
use Rattle.termwiz_keymap.specs.declared.keymap.row.Row.{Row}
use Rattle.termwiz_keymap.specs.Bytes.{Begins}
use Rattle.termwiz_keymap.specs.KeyRows.{key_of, value_of, row_entries, AreAscending}
use Rattle.termwiz_keymap.specs.KeyRanges.{IsLongest, SomeGoesOn}
use Rattle.termwiz_keymap.specs.Lookup.{ByteMap, IsExtended, IsLongestKey, NoKeyBegins}
use Rattle.termwiz_keymap.proofs.lemmas.lists.CommonPrefixes.{length-some, length-Begins}
use Rattle.termwiz_keymap.proofs.lemmas.entries.KeysInEntries.{found, get-entries}
use Rattle.termwiz_keymap.proofs.lemmas.rows.KeysInRows.{found_row, stored}

some_row : {V : Type 0} (rows : List (Row V)) (i : ℕ) → i < length rows → Row V
some_row [] i inside = absurd (omega arith)
some_row (x ∷ xs) i inside = x

none_by : {V : Type 0} (o : Option V) → (IsSome o → ⊥) → o ≡ None
none_by None h = refl
none_by (Some v) h = absurd (h refl)

module _ {V : Type 0} (m : ByteMap V) (rows : List (Row V)) (up : AreAscending rows)
    (is : map.from_entries (row_entries rows) ≡ m) (t : List ℕ) where
  gets : (q : List ℕ) → map.get m q ≡ found q (row_entries rows)
  gets q = ap (λ k. map.get k q) (sym is) ∙ get-entries (row_entries rows) q

  row_with : (q : List ℕ) → IsSome (map.get m q)
      → (i : ℕ) × (i < length rows) × ((r : Row V) → key_of (get_or rows i r) ≡ q)
  row_with q some = found_row rows q (ap is_some (sym (gets q)) ∙ some)

  value_at : (i : ℕ) (r : Row V) → i < length rows
      → map.get m (key_of (get_or rows i r)) ≡ Some (value_of (get_or rows i r))
  value_at i r inside = gets (key_of (get_or rows i r)) ∙ stored rows up i r inside

  begins_front : (key : List ℕ) (k : ℕ) → key ≡ take k t → Begins key t
  begins_front key k same = (drop k t, sym (take-append-drop k t) ∙ ap (λ x. x ++ drop k t) (sym same))

  module _ (place : ℕ) (of : IsLongest rows t place) where
    -- the row of the longest key that begins the text
    pub longest_found : (row : Row V) (len : ℕ) (value : V) → place < length rows → row ≡ get_or rows place row
        → len ≡ length (key_of row) → value ≡ value_of row → IsLongestKey m t len value
    longest_found row len value inside there len_is value_is =
        let key = key_of (get_or rows place row) in
        let same : length key ≡ len = ap (λ (x : Row V). length (key_of x)) (sym there) ∙ sym len_is in
        let begins : Begins key t = of.begins row inside in
        let front : take len t ≡ key =
        ap (take len) begins.1 ∙ ap (λ n. take n (key ++ begins.0)) (sym same) ∙ take-append_seam key begins.0 in
        record {
          within = omega (arith, length-Begins key t begins);
          stored =
              ap (map.get m) front ∙ value_at place row inside
              ∙ ap (λ v. Some v) (ap (λ (x : Row V). value_of x) (sym there) ∙ sym value_is);
          longest = λ k above below. none_by (map.get m (take k t)) (λ some.
              let p = row_with (take k t) some in
              omega (
                arith,
                of.longest p.0 row p.1 (begins_front (key_of (get_or rows p.0 row)) k (p.2 row)),
                ap length (p.2 row),
                length-take-le k t below,
              ));
        }

    pub none_found : length rows ≤ place → NoKeyBegins m t
    none_found none k below = none_by (map.get m (take k t)) (λ some.
        let p = row_with (take k t) some in
        let r = some_row rows p.0 p.1 in
        omega (arith, of.some p.0 r p.1 (begins_front (key_of (get_or rows p.0 r)) k (p.2 r))))

  extended_from : SomeGoesOn rows t → IsExtended m t
  extended_from (i, inside, goes) =
      let r = some_row rows i inside in
      ((goes r).0, length-some (goes r).0 (goes r).1, ap is_some (ap (map.get m) (sym (goes r).2) ∙ value_at i r inside))

  goes_on_from : IsExtended m t → SomeGoesOn rows t
  goes_on_from (x, long, there) =
      let p = row_with (t ++ x) there in
      (p.0, p.1, λ r. (x, (λ none. omega (arith, long, ap length none)), p.2 r))

  -- a test of whether some row goes on after the text tells whether some key does
  pub extended_by : (test : Bool) → IsTrue test ↔ SomeGoesOn rows t → IsTrue test ↔ IsExtended m t
  extended_by test is = (λ yes. extended_from (is.0 yes), λ ext. is.1 (goes_on_from ext))
