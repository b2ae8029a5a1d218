-- The table as a map has exactly the rows.
use Rattle.std.proofs.Common.{◌≡◌, ◌⊎◌, inl, inr, ⊎_elim, ℕ, zero, suc, Bool, true, false, cond, List, [], ◌∷◌, refl, sym, ap, ap₂, ◌∙◌, subst, arith, Contains, nat_eq, ◌↔◌, ◌≢◌, ◌<◌, ◌+◌, length, slice_index_or}
use Rattle.std.specs.Prelude.{Some, None, is_some, AllPairs}
use Rattle.std.specs.Ordering.{nat_cmp, eq_by_cmp}
use Rattle.std.specs.Cmp.Lexicographic.{slice_cmp, pointwise, same_text}
use Rattle.std.proofs.lemmas.Cmp.{nat_list_cmp_total, nat_list_eq_equiv}
use Rattle.std.specs.FinMap.{get, insert, empty, len, get-insert, get-empty, len-insert, len-empty}
use Rattle.termwiz_keys.specs.declared.types.KeyEvent.{KeyEvent}
use Rattle.termwiz_keymap.specs.Lookup.{ByteMap}
use Rattle.termwiz_grammar.specs.Table.{TableRow, rows, with_rows, table}
use Rattle.termwiz_grammar.proofs.lemmas.table.RowShape.{row_once, table_facts}
use Rattle.termwiz_grammar.specs.Laws.{HasOtherBytes, row_count}
use Rattle.termwiz_grammar.specs.RowsInOrder.{RowsInOrder}
use Rattle.termwiz_keymap.proofs.lemmas.entries.EntriesInOrder.{in_order_of_bytes}
use Rattle.termwiz_keymap.proofs.lemmas.entries.KeysInEntries.{tie}

-- what a map answers after one more row
same_key : (k : List ℕ) → eq_by_cmp (slice_cmp nat_cmp) k k ≡ true
same_key k = tie k k true (sym (nat_list_eq_equiv.refl k))

get_here : (m : ByteMap KeyEvent) (k : List ℕ) (v : KeyEvent) → get (insert m k v) k ≡ Some v
get_here m k v = get-insert nat_list_cmp_total m k v k ∙ ap (λ b. cond b (Some v) (get m k)) (same_key k)

-- an answer after one more row is the row's or was the answer before
get_either : (m : ByteMap KeyEvent) (k : List ℕ) (v : KeyEvent) (q : List ℕ) (w : KeyEvent)
    → get (insert m k v) q ≡ Some w
    → ((q ≡ k) × (w ≡ v)) ⊎ (get m q ≡ Some w)
get_either m k v q w e = go (pointwise nat_eq k q) refl (sym (get-insert nat_list_cmp_total m k v q) ∙ e)
  where
    go : (b : Bool) → b ≡ pointwise nat_eq k q → cond (eq_by_cmp (slice_cmp nat_cmp) q k) (Some v) (get m q) ≡ Some w
        → ((q ≡ k) × (w ≡ v)) ⊎ (get m q ≡ Some w)
    go true is h = inl (
      sym (same_text k q is),
      (let s : Some v ≡ Some w = ap (λ b. cond b (Some v) (get m q)) (sym (tie q k true is)) ∙ h in cc),
    )
    go false is h = inr (ap (λ b. cond b (Some v) (get m q)) (sym (tie q k false is)) ∙ h)

-- an answer of a map with rows is one of them, or was the answer before
answer_from : (rs : List TableRow) (m : ByteMap KeyEvent) (q : List ℕ) (w : KeyEvent) → get (with_rows m rs) q ≡ Some w
    → Contains rs (q, w) ⊎ (get m q ≡ Some w)
answer_from [] m q w e = inr e
answer_from (r ∷ rs) m q w e = ⊎_elim
    (λ (c : Contains rs (q, w)). inl (suc c.0, omega (arith, c.1), c.2))
    (λ (h : get (insert m r.0 r.1) q ≡ Some w). ⊎_elim
    (λ (same : (q ≡ r.0) × (w ≡ r.1)). inl (
      zero,
      omega arith,
      (let pair : List ℕ → KeyEvent → TableRow = λ a b. (a, b) in ap₂ pair (sym same.0) (sym same.1)),
    ))
    (λ (before : get m q ≡ Some w). inr before)
    (get_either m r.0 r.1 q w h))
    (answer_from rs (insert m r.0 r.1) q w e)

-- a key that some row or the map has keeps an answer
abbrev Has : ByteMap KeyEvent → List ℕ → Type 0
Has m q = (w : KeyEvent) × (get m q ≡ Some w)

has_after : (m : ByteMap KeyEvent) (k : List ℕ) (v : KeyEvent) (q : List ℕ) → Has m q → Has (insert m k v) q
has_after m k v q (w, e) = go (pointwise nat_eq k q) refl
  where
    go : (b : Bool) → b ≡ pointwise nat_eq k q → Has (insert m k v) q
    go true is = (v, get-insert nat_list_cmp_total m k v q ∙ ap (λ b. cond b (Some v) (get m q)) (tie q k true is))
    go false is =
        (w, get-insert nat_list_cmp_total m k v q ∙ ap (λ b. cond b (Some v) (get m q)) (tie q k false is) ∙ e)

kept_by : (rs : List TableRow) (m : ByteMap KeyEvent) (q : List ℕ) → Has m q → Has (with_rows m rs) q
kept_by [] m q h = h
kept_by (r ∷ rs) m q h = kept_by rs (insert m r.0 r.1) q (has_after m r.0 r.1 q h)

has_row : (rs : List TableRow) (m : ByteMap KeyEvent) (q : List ℕ) (w : KeyEvent) → Contains rs (q, w)
    → Has (with_rows m rs) q
has_row [] m q w (i, l, e) = absurd (omega arith)
has_row (r ∷ rs) m q w (zero, l, e) =
    kept_by rs (insert m r.0 r.1) q (
      r.1,
      subst (λ (k : List ℕ). get (insert m r.0 r.1) k ≡ Some r.1) (ap (λ (x : TableRow). x.0) e) (get_here m r.0 r.1),
    )
has_row (r ∷ rs) m q w (suc i, l, e) = has_row rs (insert m r.0 r.1) q w (i, omega arith, e)

-- the table answers exactly the rows
pub row_from_table : (text : List ℕ) (k : KeyEvent) → get table text ≡ Some k → Contains rows (text, k)
unfolding table
row_from_table text k e = ⊎_elim
    (λ (c : Contains rows (text, k)). c)
    (λ (h : get empty text ≡ Some k). absurd (let none = get-empty {X = KeyEvent} (slice_cmp nat_cmp) text in
    cc (none, h)))
    (answer_from rows empty text k e)

pub table_from_row : (text : List ℕ) (k : KeyEvent) → Contains rows (text, k) → get table text ≡ Some k
unfolding table
table_from_row text k c =
    let h = has_row rows empty text k c in
    let same : h.0 ≡ k = row_once text h.0 k (row_from_table text h.0 h.1) c in
    h.1 ∙ ap (λ x. Some x) same

pub table_exact : (text : List ℕ) (k : KeyEvent) → (get table text ≡ Some k) ↔ Contains rows (text, k)
table_exact text k = (row_from_table text k, table_from_row text k)

-- a key that a map doesn't have, and that isn't the new one
still_new : (m : ByteMap KeyEvent) (k : List ℕ) (v : KeyEvent) (q : List ℕ) → q ≢ k → get m q ≡ None
    → get (insert m k v) q ≡ None
still_new m k v q other none =
    elim (pointwise nat_eq k q) as (λ b. b ≡ pointwise nat_eq k q → get (insert m k v) q ≡ None) [
      | true ↦ λ is. absurd (other (sym (same_text k q is)))
      | false ↦ λ is. get-insert nat_list_cmp_total m k v q ∙ ap (λ b. cond b (Some v) (get m q)) (tie q k false is) ∙ none
    ] refl

-- rows with other bytes than each other, and than the map's keys, are all counted
rows_counted : (rs : List TableRow) (m : ByteMap KeyEvent) → AllPairs HasOtherBytes rs
    → ((i : ℕ) (d : TableRow) → i < length rs → get m (slice_index_or rs i d).0 ≡ None)
    → len (with_rows m rs) ≡ len m + length rs
rows_counted [] m differ new = omega arith
rows_counted (r ∷ rs) m differ new =
    let first : get m r.0 ≡ None = new 0 r (omega arith) in
    let rest = rows_counted rs (insert m r.0 r.1) (λ i j d less inside. differ (suc i) (suc j) d (omega arith) (omega arith))
    (λ i d inside. still_new m r.0 r.1 (slice_index_or rs i d).0
    (λ same. differ 0 (suc i) d (omega arith) (omega arith) (sym same)) (new (suc i) d (omega arith))) in
    let one : len (insert m r.0 r.1) ≡ len m + 1 = len-insert nat_list_cmp_total m r.0 r.1
    ∙ ap (λ o. cond (is_some o) (len m) (len m + 1)) first in
    omega (arith, rest, one)

table_counted : len table ≡ row_count
unfolding table
table_counted =
    let all = rows_counted rows empty table_facts.bytes_differ (λ i d inside. get-empty (slice_cmp nat_cmp) _) in
    omega (arith, all, len-empty (slice_cmp nat_cmp) KeyEvent, table_facts.counted)

-- the places have exactly the rows
pub rows_in_order : RowsInOrder
rows_in_order = record {
  counted = table_counted;
  exactly = λ bytes key. let stored = in_order_of_bytes.stored table bytes key in
      (λ c. stored.0 (table_from_row bytes key c), λ p. row_from_table bytes key (stored.1 p));
  ascending = in_order_of_bytes.ascending table;
}
