-- The keys of ascending rows in the map that the rows make, and what an edit of the rows does to the map.
use Rattle.std.proofs.Common.{◌≡◌, ◌≢◌, ◌∙◌, ◌<◌, ◌≤◌, ◌+◌, ⊎_elim, ℕ, zero, suc, Bool, true, false, cond, List, [], ◌∷◌, ◌++◌, length, take, drop, set, get_or, nat_eq, refl, sym, ap, ap₂, subst, arith, take-append-drop}
use Rattle.std.specs.Prelude.{Option, Some, None, IsSome, is_some}
use Rattle.std.specs.Option.{option_or}
use Rattle.std.specs.List.{insert, remove}
use Rattle.std.specs.Ordering.{nat_cmp}
use Rattle.std.specs.Cmp.Lexicographic.{slice_cmp, pointwise, same_text}
use Rattle.std.specs.FinMap as map
use Rattle.std.proofs.lemmas.Cmp.{nat_list_cmp_total, nat_list_eq_equiv}
use Rattle.std.proofs.lemmas.Bool.{cases_lt}
use Rattle.std.proofs.lemmas.List.{get_or-map, get_or-take, take-map, drop-map, map-append, map-set, length-map, length-take-le, get_or-drop, length-drop}
use Rattle.termwiz_keymap.specs.declared.keymap.row.Row.{Row}
use Rattle.termwiz_keymap.specs.Entries.{Entries, IsFirstPlace}
use Rattle.termwiz_keymap.specs.KeyRows.{key_of, value_of, row_entries, AreAscending, IsAt, IsGapFor, IsRowOf}
use Rattle.termwiz_keymap.proofs.lemmas.entries.KeysInEntries.{found, found-append, find_here, find_later, tied, tied_same, get-entries, key_set}
use Rattle.termwiz_keymap.proofs.lemmas.entries.RemovedEntries.{removed}
use Rattle.termwiz_keymap.proofs.lemmas.entries.ReplacedEntries.{replaced}
use Rattle.termwiz_keymap.proofs.lemmas.rows.KeyOrder.{Before, not_itself}

module _ {V : Type 0} where
  -- a key that is found is a row's
  pub found_row : (rows : List (Row V)) (q : List ℕ) → IsSome (found q (row_entries rows))
      → (i : ℕ) × (i < length rows) × ((r : Row V) → key_of (get_or rows i r) ≡ q)
  found_row [] q h = absurd (cc)
  found_row (x ∷ rows) q h =
      elim (pointwise nat_eq (key_of x) q) as (λ b. b ≡ pointwise nat_eq (key_of x) q
      → (i : ℕ) × (i < length (x ∷ rows)) × ((r : Row V) → key_of (get_or (x ∷ rows) i r) ≡ q)) [
        | true ↦ λ is. (0, omega arith, λ r. same_text (key_of x) q is)
        | false ↦ λ other. let p =
            found_row rows q (ap is_some (sym (find_later q (key_of x) (value_of x) (row_entries rows) other)) ∙ h) in
            (suc p.0, omega (arith, p.1), λ r. p.2 r)
      ] refl

  -- a key that no row has isn't found
  absent : (rows : List (Row V)) (q : List ℕ)
      → ((i : ℕ) (r : Row V) → i < length rows → key_of (get_or rows i r) ≢ q) → found q (row_entries rows) ≡ None
  absent [] q apart = refl
  absent (x ∷ rows) q apart =
      elim (pointwise nat_eq (key_of x) q) as (λ b. b ≡ pointwise nat_eq (key_of x) q
      → found q (row_entries (x ∷ rows)) ≡ None) [
        | true ↦ λ is. absurd (apart 0 x (omega arith) (same_text (key_of x) q is))
        | false ↦ λ other. find_later q (key_of x) (value_of x) (row_entries rows) other
            ∙ absent rows q (λ i r inside. apart (suc i) r (omega arith))
      ] refl

  -- each row's key has its value
  pub stored : (rows : List (Row V)) → AreAscending rows → (i : ℕ) (r : Row V) → i < length rows
      → found (key_of (get_or rows i r)) (row_entries rows) ≡ Some (value_of (get_or rows i r))
  stored [] up i r inside = absurd (omega arith)
  stored (x ∷ rows) up zero r inside =
      find_here (key_of x) (key_of x) (value_of x) (row_entries rows) (sym (nat_list_eq_equiv.refl (key_of x)))
  stored (x ∷ rows) up (suc i) r inside =
      let k = key_of (get_or rows i r) in
      elim (pointwise nat_eq (key_of x) k) as (λ b. b ≡ pointwise nat_eq (key_of x) k
      → found k (row_entries (x ∷ rows)) ≡ Some (value_of (get_or rows i r))) [
        | true ↦ λ is. absurd (not_itself k
            (subst (λ (y : List ℕ). Before y k) (same_text (key_of x) k is) (up 0 (suc i) r (omega arith) inside)))
        | false ↦ λ other. find_later k (key_of x) (value_of x) (row_entries rows) other
            ∙ stored rows (λ a b s lt within. up (suc a) (suc b) s (omega arith) (omega arith)) i r (omega arith)
      ] refl

  -- ascending rows make a map of as many keys
  pub counted : (rows : List (Row V)) → AreAscending rows
      → map.len (map.from_entries {R = slice_cmp nat_cmp} (row_entries rows)) ≡ length rows
  counted [] up = map.len-empty (slice_cmp nat_cmp) V
  counted (x ∷ rows) up =
      let k = key_of x in let m = map.from_entries {R = slice_cmp nat_cmp} (row_entries rows) in
      let new : map.get m k ≡ None = get-entries (row_entries rows) k ∙ absent rows k (λ i r inside same. not_itself k
      (subst (λ (y : List ℕ). Before k y) same (up 0 (suc i) r (omega arith) (omega arith)))) in
      map.len-insert nat_list_cmp_total m k (value_of x)
      ∙ ap (λ o. cond (is_some o) (map.len m) (map.len m + 1)) new
      ∙ ap (λ n. n + 1) (counted rows (λ a b s lt within. up (suc a) (suc b) s (omega arith) (omega arith)))
      ∙ omega arith

  put_in : (b : Bool) (v : V) (o p : Option V) → (b ≡ true → o ≡ None)
      → option_or o (cond b (Some v) p) ≡ cond b (Some v) (option_or o p)
  put_in true v o p none = ap (λ x. option_or x (Some v)) (none refl)
  put_in false v o p none = refl

  front_none : (o p : Option V) → option_or o p ≡ None → o ≡ None
  front_none None p e = refl
  front_none (Some v) p e = absurd (cc (e))

  -- one more entry, with a key that isn't there
  added : (es : Entries V) (key : List ℕ) (i : ℕ) (v : V) → found key es ≡ None
      → map.from_entries {R = slice_cmp nat_cmp} (insert es i (key, v)) ≡ map.insert (map.from_entries es) key v
  added es key i v new = key_set (insert es i (key, v)) (map.from_entries es) key v
      (λ q. at q ∙ sym (ap (cond (tied q key) (Some v)) (get-entries es q)))
    where
      parted : (q : List ℕ) → option_or (found q (take i es)) (found q (drop i es)) ≡ found q es
      parted q = sym (found-append q (take i es) (drop i es)) ∙ ap (found q) (take-append-drop i es)

      at : (q : List ℕ) → found q (insert es i (key, v)) ≡ cond (tied q key) (Some v) (found q es)
      at q =
          found-append q (take i es) ((key, v) ∷ drop i es)
          ∙ put_in (tied q key) v (found q (take i es)) (found q (drop i es))
          (λ is. front_none _ _ (parted q ∙ ap (λ k. found k es) (tied_same q key is) ∙ new))
          ∙ ap (cond (tied q key) (Some v)) (parted q)

  abbrev entry : Row V → List ℕ × V
  entry row = (key_of row, value_of row)

  -- no row has a key with a gap
  none_in_gap : (rows : List (Row V)) (key : List ℕ) (i : ℕ) → IsGapFor rows key i → found key (row_entries rows) ≡ None
  none_in_gap rows key i gap = absent rows key (λ j r inside same. ⊎_elim
      (λ (before : j < i). not_itself key
      (subst (λ (k : List ℕ). Before k key) same (gap.smaller_before j r before)))
      (λ (after : i ≤ j). not_itself key
      (subst (λ (k : List ℕ). Before key k) same (gap.greater_after j r after inside)))
      (cases_lt j i))

  -- the first entry of a key is that of the row at its place
  first_place : (rows : List (Row V)) (key : List ℕ) (i : ℕ) (row : Row V) → AreAscending rows → IsAt rows key i
      → IsFirstPlace (row_entries rows) key i
  first_place rows key i row up at = record {
    in_range = omega (arith, at.in_range, length-map rows entry);
    none_before = ap (found key) (take-map entry i rows) ∙ absent (take i rows) key (λ j r inside same.
        let len : length (take i rows) ≡ i = length-take-le i rows (omega (arith, at.in_range)) in
        let there : key_of (get_or rows j r) ≡ key =
        ap (λ (x : Row V). key_of x) (sym (get_or-take i rows j r (omega arith))) ∙ same in
        not_itself key (rw (there, at.same r) at (up j i r (omega arith) at.in_range)));
    here =
        get_or-map (λ (x : List ℕ × V). x.0) (row_entries rows) i (entry row) []
        (omega (arith, at.in_range, length-map rows entry))
        ∙ ap (λ (x : List ℕ × V). x.0) (get_or-map entry rows i row (entry row) at.in_range)
        ∙ at.same row;
  }

  module _ (rows : List (Row V)) (key : List ℕ) (i : ℕ) (value : V) (row : Row V)
      (is : IsRowOf key value row) (up : AreAscending rows) where
    -- the entry of the row
    entry_is : entry row ≡ (key, value)
    entry_is = ap₂ (λ k v. (k, v)) is.key is.value

    module _ (gap : IsGapFor rows key i) where
      two_parts : (e : List ℕ × V) {xs ys us vs : Entries V} → xs ≡ us → ys ≡ vs → xs ++ e ∷ ys ≡ us ++ e ∷ vs
      two_parts e p q n = p n ++ e ∷ q n

      entries-insert : row_entries (insert rows i row) ≡ insert (row_entries rows) i (entry row)
      entries-insert = map-append entry (take i rows) (row ∷ drop i rows)
          ∙ two_parts (entry row) (sym (take-map entry i rows)) (sym (drop-map entry i rows))

      -- a new row in the gap sets the key
      pub row_inserted : map.from_entries {R = slice_cmp nat_cmp} (row_entries (insert rows i row))
          ≡ map.insert (map.from_entries (row_entries rows)) key value
      row_inserted =
          ap (λ es. map.from_entries {R = slice_cmp nat_cmp} es)
          (entries-insert ∙ ap (insert (row_entries rows) i) entry_is)
          ∙ added (row_entries rows) key i value (none_in_gap rows key i gap)

    module _ (at : IsAt rows key i) where
      -- a row in the place of the one with its key sets the key
      pub row_replaced : map.from_entries {R = slice_cmp nat_cmp} (row_entries (set rows i row))
          ≡ map.insert (map.from_entries (row_entries rows)) key value
      row_replaced =
          ap (λ es. map.from_entries {R = slice_cmp nat_cmp} es)
          (map-set entry rows i row ∙ ap (set (row_entries rows) i) entry_is)
          ∙ replaced (row_entries rows) key i value (first_place rows key i row up at)

  entries-remove : (rows : List (Row V)) (i : ℕ) → row_entries (remove rows i) ≡ remove (row_entries rows) i
  entries-remove rows i = map-append entry (take i rows) (drop (suc i) rows)
      ∙ ap₂ (λ (p q : Entries V). p ++ q) (sym (take-map entry i rows)) (sym (drop-map entry (suc i) rows))

  -- without its row the map doesn't have the key
  pub row_removed : (rows : List (Row V)) (key : List ℕ) (i : ℕ) (row : Row V) → AreAscending rows → IsAt rows key i
      → map.from_entries {R = slice_cmp nat_cmp} (row_entries (remove rows i))
      ≡ map.remove (map.from_entries (row_entries rows)) key
  row_removed rows key i row up at =
      ap (λ es. map.from_entries {R = slice_cmp nat_cmp} es) (entries-remove rows i)
      ∙ removed (row_entries rows) key i (value_of row) (first_place rows key i row up at)
      (ap (found key) (drop-map entry (suc i) rows) ∙ absent (drop (suc i) rows) key (λ j r inside same.
      let there : key_of (get_or rows (suc i + j) r) ≡ key =
      ap (λ (x : Row V). key_of x) (sym (get_or-drop (suc i) rows j r)) ∙ same in
      let before : Before (key_of (get_or rows i r)) (key_of (get_or rows (suc i + j) r)) =
      up i (suc i + j) r (omega arith) (omega (arith, length-drop (suc i) rows)) in
      not_itself key (rw (there, at.same r) at before)))

  -- the value of a row's key
  pub value_there : (rows : List (Row V)) (key : List ℕ) (i : ℕ) (row : Row V) → AreAscending rows → IsAt rows key i
      → row ≡ get_or rows i row → map.get (map.from_entries {R = slice_cmp nat_cmp} (row_entries rows)) key ≡ Some (value_of row)
  value_there rows key i row up at there =
      get-entries (row_entries rows) key ∙ ap (λ k. found k (row_entries rows)) (sym (at.same row))
      ∙ stored rows up i row at.in_range ∙ ap (λ (x : Row V). Some (value_of x)) (sym there)

  -- a key with a gap isn't in the map
  pub none_there : (rows : List (Row V)) (key : List ℕ) (i : ℕ) → IsGapFor rows key i
      → map.get (map.from_entries {R = slice_cmp nat_cmp} (row_entries rows)) key ≡ None
  none_there rows key i gap = get-entries (row_entries rows) key ∙ none_in_gap rows key i gap
