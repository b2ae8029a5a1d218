-- Rows stay in ascending order.
use Rattle.std.proofs.Common.{⊎_elim, ◌⊎◌, inl, inr, ◌≡◌, ◌∙◌, ◌+◌, ◌-◌, ◌<◌, ◌≤◌, ℕ, List, length, get_or, set, sym, ap, subst, arith}
use Rattle.std.specs.List.{insert, remove}
use Rattle.std.proofs.lemmas.Bool.{cases_lt}
use Rattle.std.proofs.lemmas.List.{get_or-set_same, get_or-set_other}
use Rattle.std.proofs.Math.ListN.{length-set}
use Rattle.std.proofs.lemmas.List.Edits.{length-insert, get_or-insert_below, get_or-insert_at, get_or-insert_above, length-remove, get_or-remove_below, get_or-remove_above}
use Rattle.std.proofs.lemmas.List.Elements.{AllZip-get_or, length_all_zip}
use Rattle.termwiz_keymap.specs.declared.keymap.row.Row.{Row}
use Rattle.termwiz_keymap.specs.KeyRows.{key_of, AreAscending, IsAt, IsGapFor, IsRowClone, AreRowClones}
use Rattle.termwiz_keymap.proofs.lemmas.rows.KeyOrder.{Before}

before_at : (x y a b : List ℕ) → x ≡ a → y ≡ b → Before a b → Before x y
before_at x y a b p q before = subst (λ k. Before k y) (sym p) (subst (λ k. Before a k) (sym q) before)

-- where an element stands after an insert
placed : {X : Type 0} (xs : List X) (i : ℕ) (y : X) (k : ℕ) (d : X) → i ≤ length xs
    → ((k < i) × (get_or (insert xs i y) k d ≡ get_or xs k d))
    ⊎ (((k ≡ i) × (get_or (insert xs i y) k d ≡ y)) ⊎ ((i < k) × (get_or (insert xs i y) k d ≡ get_or xs (k - 1) d)))
placed xs i y k d inside = ⊎_elim
    (λ (below : k < i). inl (below, get_or-insert_below xs i y d k below inside))
    (λ (from : i ≤ k). ⊎_elim
    (λ (above : i < k). let back : k ≡ k - 1 + 1 = omega arith in inr (inr
    (above, ap (λ j. get_or (insert xs i y) j d) back ∙ get_or-insert_above xs i y d (k - 1) (omega arith) inside)))
    (λ (to : k ≤ i). let same : k ≡ i = omega arith in
    inr (inl (same, ap (λ j. get_or (insert xs i y) j d) same ∙ get_or-insert_at xs i y d inside)))
    (cases_lt i k))
    (cases_lt k i)

module _ {V : Type 0} where
  -- rows with the same keys
  alike : (rows others : List (Row V)) → length rows ≡ length others
      → ((i : ℕ) (r : Row V) → i < length rows → key_of (get_or others i r) ≡ key_of (get_or rows i r))
      → AreAscending rows → AreAscending others
  alike rows others len same up = λ i j r less inside. before_at _ _ _ _ (same i r (omega arith))
      (same j r (omega arith)) (up i j r less (omega arith))

  pub ascending_set : (rows : List (Row V)) (key : List ℕ) (place : ℕ) (row : Row V) → AreAscending rows
      → IsAt rows key place → key_of row ≡ key → AreAscending (set rows place row)
  ascending_set rows key place row up at key_is =
      alike rows (set rows place row) (sym (length-set rows place row)) (λ i r inside. ⊎_elim
      (λ (below : i < place). ap (λ (x : Row V). key_of x)
      (get_or-set_other rows place i row r (λ e. omega arith)))
      (λ (from : place ≤ i). ⊎_elim
      (λ (above : place < i). ap (λ (x : Row V). key_of x)
      (get_or-set_other rows place i row r (λ e. omega arith)))
      (λ (to : i ≤ place).
      let here : i ≡ place = omega arith in
      ap (λ k. key_of (get_or (set rows place row) k r)) here
      ∙ ap (λ (x : Row V). key_of x) (get_or-set_same rows place row r at.in_range) ∙ key_is ∙ sym (at.same r)
      ∙ ap (λ k. key_of (get_or rows k r)) (sym here))
      (cases_lt place i))
      (cases_lt i place)) up

  pub ascending_clones : (is_clone : V → V → Type 0) (rows copies : List (Row V))
      → AreRowClones is_clone rows copies → AreAscending rows → AreAscending copies
  ascending_clones is_clone rows copies these up =
      let len : length rows ≡ length copies = length_all_zip (IsRowClone is_clone) rows copies these in
      alike rows copies len
      (λ i r inside. let one = AllZip-get_or (IsRowClone is_clone) rows copies i r r these inside in one.key) up

  -- rows without one of them
  pub ascending_removed : (rows : List (Row V)) (place : ℕ) → AreAscending rows → place < length rows
      → AreAscending (remove rows place)
  ascending_removed rows place up at i j r less inside = ⊎_elim
      (λ (j_below : j < place). before_at _ _ _ _ (below i (omega arith)) (below j j_below) (up i j r less (omega arith)))
      (λ (j_from : place ≤ j). ⊎_elim
      (λ (i_below : i < place). before_at _ _ _ _ (below i i_below) (above j j_from)
      (up i (j + 1) r (omega arith) (omega (arith, shorter))))
      (λ (i_from : place ≤ i). before_at _ _ _ _ (above i i_from) (above j j_from)
      (up (i + 1) (j + 1) r (omega arith) (omega (arith, shorter))))
      (cases_lt i place))
      (cases_lt j place)
    where
      shorter : length (remove rows place) + 1 ≡ length rows
      shorter = length-remove rows place at

      below : (k : ℕ) → k < place → key_of (get_or (remove rows place) k r) ≡ key_of (get_or rows k r)
      below k less = ap (λ (x : Row V). key_of x) (get_or-remove_below rows place r k less at)

      above : (k : ℕ) → place ≤ k → key_of (get_or (remove rows place) k r) ≡ key_of (get_or rows (k + 1) r)
      above k from = ap (λ (x : Row V). key_of x) (get_or-remove_above rows place r k from at)

  module _ (rows : List (Row V)) (up : AreAscending rows) (key : List ℕ) (place : ℕ) (gap : IsGapFor rows key place)
      (row : Row V) (key_is : key_of row ≡ key) where
    abbrev wider : List (Row V)
    wider = insert rows place row

    wider_len : length wider ≡ length rows + 1
    wider_len = length-insert rows place row gap.in_range

    key_at : (k : ℕ) (r : Row V) → ((k < place) × (key_of (get_or wider k r) ≡ key_of (get_or rows k r)))
        ⊎ (((k ≡ place) × (key_of (get_or wider k r) ≡ key))
        ⊎ ((place < k) × (key_of (get_or wider k r) ≡ key_of (get_or rows (k - 1) r))))
    key_at k r = ⊎_elim
        (λ (p : (k < place) × (get_or wider k r ≡ get_or rows k r)). inl (p.0, ap (λ (x : Row V). key_of x) p.1))
        (λ (q : ((k ≡ place) × (get_or wider k r ≡ row)) ⊎ ((place < k) × (get_or wider k r ≡ get_or rows (k - 1) r))).
        ⊎_elim
        (λ (p : (k ≡ place) × (get_or wider k r ≡ row)).
        inr (inl (p.0, ap (λ (x : Row V). key_of x) p.1 ∙ key_is)))
        (λ (p : (place < k) × (get_or wider k r ≡ get_or rows (k - 1) r)).
        inr (inr (p.0, ap (λ (x : Row V). key_of x) p.1)))
        q)
        (placed rows place row k r gap.in_range)

    -- one more row in the gap for its key
    pub ascending_inserted : AreAscending (insert rows place row)
    ascending_inserted i j r less inside = ⊎_elim
        (λ p. ⊎_elim
        (λ q. before_at _ _ _ _ p.1 q.1 (up i j r less (omega (arith, gap.in_range, q.0))))
        (λ q. ⊎_elim
        (λ q. before_at _ _ _ _ p.1 q.1 (gap.smaller_before i r p.0))
        (λ q. before_at _ _ _ _ p.1 q.1
        (up i (j - 1) r (omega (arith, p.0, q.0)) (omega (arith, wider_len, q.0))))
        q)
        (key_at j r))
        (λ p. ⊎_elim
        (λ p. ⊎_elim
        (λ q. absurd (omega (arith, p.0, q.0)))
        (λ q. ⊎_elim
        (λ q. absurd (omega (arith, p.0, q.0)))
        (λ q. before_at _ _ _ _ p.1 q.1
        (gap.greater_after (j - 1) r (omega (arith, q.0)) (omega (arith, wider_len, q.0))))
        q)
        (key_at j r))
        (λ p. ⊎_elim
        (λ q. absurd (omega (arith, p.0, q.0)))
        (λ q. ⊎_elim
        (λ q. absurd (omega (arith, p.0, q.0)))
        (λ q. before_at _ _ _ _ p.1 q.1
        (up (i - 1) (j - 1) r (omega (arith, p.0, q.0)) (omega (arith, wider_len, q.0))))
        q)
        (key_at j r))
        p)
        (key_at i r)
