-- A map with rows put into it, as far as a loop over them has come.
use Rattle.std.proofs.Common.{◌≡◌, ◌∙◌, ℕ, zero, suc, ◌+◌, ◌-◌, ◌≤◌, Bool, true, false, List, [], ◌∷◌, ◌++◌, map, refl, sym, ap, arith, add-zero, append-nil}
use Rattle.std.specs.Prelude.{flat_map, filter}
use Rattle.std.specs.FinMap.{insert}
use Rattle.std.proofs.lemmas.List.{flat_map_more, map-append}
use Rattle.std.proofs.lemmas.List.Elements.{filter-append}
use Rattle.termwiz_keys.specs.declared.types.KeyEvent.{KeyEvent}
use Rattle.termwiz_keymap.specs.Lookup.{ByteMap}
use Rattle.termwiz_grammar.specs.Table.{TableRow, numbers, with_rows}

pub with_rows-append : (m : ByteMap KeyEvent) (a b : List TableRow) → with_rows m (a ++ b) ≡ with_rows (with_rows m a) b
with_rows-append m [] b = refl
with_rows-append m (r ∷ rs) b = with_rows-append (insert m r.0 r.1) rs b

-- for an answer that puts joined rows into a map
pub ruleset joined_rows = (with_rows-append)

module _ {X : Type 0} where
  -- one more row, for one more element
  pub row_pushed : (m k : ByteMap KeyEvent) (row : X → TableRow) (xs more : List X) (x : X) (bytes : List ℕ)
      (event : KeyEvent)
      → more ≡ xs ++ x ∷ [] → k ≡ with_rows m (map row xs) → bytes ≡ (row x).0 → event ≡ (row x).1
      → insert k bytes event ≡ with_rows m (map row more)
  row_pushed m k row xs more x bytes event one before same_bytes same_event =
      ap (λ n. insert n bytes event) before
      ∙ ap (λ t. insert (with_rows m (map row xs)) t event) same_bytes
      ∙ ap (insert (with_rows m (map row xs)) (row x).0) same_event
      ∙ sym (with_rows-append m (map row xs) (row x ∷ []))
      ∙ ap (with_rows m) (sym (map-append row xs (x ∷ [])))
      ∙ ap (λ ys. with_rows m (map row ys)) (sym one)

  -- more rows, for one more element
  pub rows_pushed : (m k new : ByteMap KeyEvent) (rows_of : X → List TableRow) (xs more : List X) (x : X)
      → more ≡ xs ++ x ∷ [] → k ≡ with_rows m (flat_map rows_of xs) → new ≡ with_rows k (rows_of x)
      → new ≡ with_rows m (flat_map rows_of more)
  rows_pushed m k new rows_of xs more x one before after =
      after
      ∙ ap (λ n. with_rows n (rows_of x)) before
      ∙ sym (with_rows-append m (flat_map rows_of xs) (rows_of x))
      ∙ ap (with_rows m) (flat_map_more rows_of [] xs x)
      ∙ ap (λ ys. with_rows m (flat_map rows_of ys)) (sym one)

  pub filter_kept : (p : X → Bool) (xs : List X) (x : X) → p x ≡ true → filter p (xs ++ x ∷ []) ≡ filter p xs ++ x ∷ []
  filter_kept p xs x h =
      let one : filter p (x ∷ []) ≡ x ∷ [] = rw h in
      filter-append p xs (x ∷ []) ∙ ap (λ ys. filter p xs ++ ys) one

  pub filter_dropped : (p : X → Bool) (xs : List X) (x : X) → p x ≡ false → filter p (xs ++ x ∷ []) ≡ filter p xs
  filter_dropped p xs x h =
      let nothing : filter p (x ∷ []) ≡ [] = rw h in
      filter-append p xs (x ∷ []) ∙ ap (λ ys. filter p xs ++ ys) nothing ∙ append-nil (filter p xs)

numbers_more : (first count : ℕ) → numbers first (suc count) ≡ numbers first count ++ (first + count) ∷ []
unfolding numbers
numbers_more first zero = ap (λ x. x ∷ []) (sym (add-zero first))
numbers_more first (suc count) =
    let next : suc first + count ≡ first + suc count = omega arith in
    ap (λ xs. first ∷ xs) (numbers_more (suc first) count ∙ ap (λ x. numbers (suc first) count ++ x ∷ []) next)

-- no number yet
pub numbers_none : (first : ℕ) → numbers first 0 ≡ []
unfolding numbers
numbers_none first = refl

-- the numbers from first up to n, and n too
pub numbers_up_to : (first n : ℕ) → first ≤ n → numbers first (n + 1 - first) ≡ numbers first (n - first) ++ n ∷ []
numbers_up_to first n h =
    let count : n + 1 - first ≡ suc (n - first) = omega arith in
    let last : first + (n - first) ≡ n = omega arith in
    ap (numbers first) count ∙ numbers_more first (n - first) ∙ ap (λ x. numbers first (n - first) ++ x ∷ []) last

-- the same from zero on
pub numbers_below : (n : ℕ) → numbers 0 (n + 1) ≡ numbers 0 n ++ n ∷ []
numbers_below n =
    let count : n + 1 ≡ suc n = omega arith in
    let last : 0 + n ≡ n = omega arith in
    ap (numbers 0) count ∙ numbers_more 0 n ∙ ap (λ x. numbers 0 n ++ x ∷ []) last
