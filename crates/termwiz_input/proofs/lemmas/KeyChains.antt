-- The places of the rows of each bucket as a chain, and the search in it for the rows of a key.
use Rattle.std.proofs.Common.{◌≡◌, ℕ, ◌+◌, ◌<◌, ◌≤◌, List, length, refl, sym, ap, ◌∙◌, subst, ◌⊎◌, ⊎_elim, Bool, true, false, IsTrue, Fits, w16, arith}
use Rattle.std.specs.Prelude.{slice_index, slice_index_or, slice_set}
use Rattle.std.proofs.Math.ListN.{length-set}
use Rattle.std.proofs.lemmas.List.{get_or_read, get_or-set_same, get_or-set_other}
use Rattle.std.proofs.lemmas.Bool.{cases_eq}
use Rattle.std.specs.FinMap as map
use Rattle.termwiz_keymap.specs.KeysInOrder.{IsEntryAt}
use Rattle.termwiz_keymap.specs.Lookup.{ByteMap}
use Rattle.termwiz_keys.specs.declared.types.KeyEvent.{KeyEvent}
use Rattle.termwiz_grammar.specs.Table.{table}
use Rattle.termwiz_grammar.specs.Laws.{row_count}
use Rattle.termwiz_grammar.specs.RowsInOrder.{IsRowAt}
use Rattle.termwiz_grammar.proofs.lemmas.table.TableAsMap.{rows_in_order}
use Rattle.termwiz_input.specs.KeyBuckets.{AreFirst, AreNext, IsNextOfBucket, IsSearched, bucket_count, bucket_of}
use Rattle.termwiz_input.specs.KeyPlaces.{IsNextPlaceOf}

-- A place of the table has one key.
key_once_at : (place : ℕ) (bytes other : List ℕ) (key own : KeyEvent) → IsRowAt place bytes key → IsRowAt place other own → key ≡ own
key_once_at place bytes other key own a b =
    let same : (bytes, key) ≡ (other, own) = sym (a.there (bytes, key)) ∙ b.there (bytes, key) in ap (λ r. r.1) same

pub not_true : (b : Bool) → b ≡ false → ¬ IsTrue b
not_true false f is = cc (is)
not_true true f is = cc (f)

-- the row that a map with the table has at a place
pub row_of : (m : ByteMap KeyEvent) (place : ℕ) (bytes : List ℕ) (key : KeyEvent) → m ≡ table → IsEntryAt m place bytes key
    → IsRowAt place bytes key
row_of m place bytes key same is = subst (λ t. IsEntryAt t place bytes key) same is

pub counted_within : (m : ByteMap KeyEvent) (count : ℕ) → m ≡ table → count ≡ map.len m → count ≤ map.len table
counted_within m count same is = let all : count ≡ map.len table = is ∙ ap map.len same in omega (arith, all)

-- what was read of a list
pub read_at : (xs : List ℕ) (i read value : ℕ) → i < length xs → read ≡ slice_index_or xs i read → value ≡ read
    → value ≡ slice_index xs i
read_at xs i read value inside is same = same ∙ get_or_read xs i read inside is 0

-- The number of rows is less than 2^16.
pub place_fits : (place : ℕ) → place ≤ map.len table → Fits w16 place
place_fits place inside = let few : place ≤ row_count = subst (λ n. place ≤ n) rows_in_order.counted inside in grind (arith, few)

here_or_after : (a b : ℕ) → a ≤ b → (b ≡ a) ⊎ (a + 1 ≤ b)
here_or_after a b h = grind (arith, h)

before_or_from : (a b : ℕ) → (b < a) ⊎ (a ≤ b)
before_or_from a b = grind arith

-- one place before
here : (place : ℕ) (bytes : List ℕ) (key : KeyEvent) → IsRowAt place bytes key → IsNextOfBucket (bucket_of key) place place
here place bytes key is = record {
  low = omega arith;
  high = omega (arith, is.inside);
  own = λ other its at. ap bucket_of (key_once_at place other bytes its key at is);
  none = λ between other its from below at e. absurd (omega (arith, from, below));
}

passed : (bucket place next : ℕ) (bytes : List ℕ) (key : KeyEvent) → IsRowAt place bytes key → ¬ (bucket ≡ bucket_of key)
    → IsNextOfBucket bucket (place + 1) next → IsNextOfBucket bucket place next
passed bucket place next bytes key is not after = record {
  low = omega (arith, after.low);
  high = after.high;
  own = after.own;
  none = λ between other its from below at e. ⊎_elim
      (λ (same : between ≡ place).
      let one = key_once_at place other bytes its key (subst (λ p. IsRowAt p other its) same at) is in
      not (sym e ∙ ap bucket_of one))
      (λ (later : place + 1 ≤ between). after.none between other its later below at e)
      (here_or_after place between from);
}

pub first_before : (from place bucket : ℕ) (first : List ℕ) (bytes : List ℕ) (key : KeyEvent) → from ≡ place + 1 → IsRowAt place bytes key
    → bucket ≡ bucket_of key → bucket < bucket_count → AreFirst from first → AreFirst place (slice_set first bucket place)
first_before from place bucket first bytes key after is same inside are = record {
  counted = length-set first bucket place ∙ are.counted;
  each = λ other less. ⊎_elim
      (λ (own : other ≡ bucket).
      subst (λ q. IsNextOfBucket other place q)
      (sym (ap (λ o. slice_index (slice_set first bucket place) o) own ∙ get_or-set_same first bucket place 0 (subst (λ n. bucket < n) (sym are.counted) inside)))
      (subst (λ o. IsNextOfBucket o place place) (sym (own ∙ same)) (here place bytes key is)))
      (λ (another : ¬ (other ≡ bucket)).
      subst (λ q. IsNextOfBucket other place q) (sym (get_or-set_other first bucket other place 0 another))
      (passed other place (slice_index first other) bytes key is (λ e. another (e ∙ sym same))
      (subst (λ f. IsNextOfBucket other f (slice_index first other)) after (are.each other less))))
      (cases_eq other bucket);
}

pub next_before : (from place bucket : ℕ) (first next : List ℕ) (bytes : List ℕ) (key : KeyEvent) → from ≡ place + 1 → IsRowAt place bytes key
    → bucket ≡ bucket_of key → bucket < bucket_count → AreFirst from first → AreNext from next
    → AreNext place (slice_set next place (slice_index first bucket))
next_before from place bucket first next bytes key after is same inside are follow = record {
  counted = length-set next place (slice_index first bucket) ∙ follow.counted;
  each = λ at other its low row. ⊎_elim
      (λ (own : at ≡ place).
      let one : its ≡ key = key_once_at place other bytes its key (subst (λ p. IsRowAt p other its) own row) is in
      let within : place < length next = subst (λ n. place < n) (sym follow.counted) is.inside in
      let found : IsNextOfBucket bucket (place + 1) (slice_index first bucket) =
      subst (λ f. IsNextOfBucket bucket f (slice_index first bucket)) after (are.each bucket inside) in
      subst (λ q. IsNextOfBucket (bucket_of its) (at + 1) q)
      (sym (ap (λ p. slice_index (slice_set next place (slice_index first bucket)) p) own ∙ get_or-set_same next place (slice_index first bucket) 0 within))
      (subst (λ p. IsNextOfBucket (bucket_of its) (p + 1) (slice_index first bucket)) (sym own)
      (subst (λ b. IsNextOfBucket b (place + 1) (slice_index first bucket)) (same ∙ sym (ap bucket_of one)) found)))
      (λ (later : place + 1 ≤ at).
      let another : ¬ (at ≡ place) = λ e. absurd (omega (arith, later, e)) in
      subst (λ q. IsNextOfBucket (bucket_of its) (at + 1) q) (sym (get_or-set_other next place at (slice_index first bucket) 0 another))
      (follow.each at other its (subst (λ f. f ≤ at) (sym after) later) row))
      (here_or_after place at low);
}

-- the first place of a key's bucket, and the next one after a row's, as they are read
pub first_read : (key : KeyEvent) (first : List ℕ) (bucket read place : ℕ) → AreFirst 0 first → bucket ≡ bucket_of key → bucket < bucket_count
    → read ≡ slice_index_or first bucket read → place ≡ read → IsNextOfBucket (bucket_of key) 0 place
first_read key first bucket read place are same inside is value =
    let at : place ≡ slice_index first bucket = read_at first bucket read place (omega (arith, are.counted, inside)) is value in
    subst (IsNextOfBucket (bucket_of key) 0) (sym at)
    (subst (λ b. IsNextOfBucket b 0 (slice_index first bucket)) same (are.each bucket inside))

pub next_read : (place : ℕ) (bytes : List ℕ) (key : KeyEvent) (next : List ℕ) (read after : ℕ) → AreNext 0 next → IsRowAt place bytes key
    → read ≡ slice_index_or next place read → after ≡ read → IsNextOfBucket (bucket_of key) (place + 1) after
next_read place bytes key next read after follow row is value =
    let at : after ≡ slice_index next place = read_at next place read after (omega (arith, follow.counted, row.inside)) is value in
    subst (IsNextOfBucket (bucket_of key) (place + 1)) (sym at) (follow.each place bytes key (omega arith) row)

pub search_on : (key own : KeyEvent) (from place next : ℕ) (bytes : List ℕ) → IsSearched key from place → IsRowAt place bytes own
    → ¬ (own ≡ key) → IsNextOfBucket (bucket_of own) (place + 1) next → IsSearched key from next
search_on key own from place next bytes so_far is not after =
    let bucket : bucket_of own ≡ bucket_of key = so_far.own bytes own is in
    record {
      low = omega (arith, so_far.low, after.low);
      high = after.high;
      own = λ other its at. after.own other its at ∙ bucket;
      none = λ between other low below at. ⊎_elim
          (λ (earlier : between < place). so_far.none between other low earlier at)
          (λ (from_here : place ≤ between). ⊎_elim
          (λ (same : between ≡ place).
          not (key_once_at place bytes other own key is (subst (λ p. IsRowAt p other key) same at)))
          (λ (later : place + 1 ≤ between). after.none between other key later below at (sym bucket))
          (here_or_after place between from_here))
          (before_or_from place between);
    }

pub search_found : (key own : KeyEvent) (from place : ℕ) (bytes : List ℕ) → IsSearched key from place → IsRowAt place bytes own → own ≡ key
    → IsNextPlaceOf key from place
search_found key own from place bytes so_far is same = record {
  low = so_far.low;
  high = so_far.high;
  own = λ other its at. key_once_at place other bytes its own at is ∙ same;
  none = so_far.none;
}

-- Before the first place of the key's bucket is no row of the key.
pub found_from : (key : KeyEvent) (from start place : ℕ) → IsNextOfBucket (bucket_of key) from start → IsNextPlaceOf key start place
    → IsNextPlaceOf key from place
found_from key from start place begun found = record {
  low = omega (arith, begun.low, found.low);
  high = found.high;
  own = found.own;
  none = λ between bytes low below is. ⊎_elim
      (λ (earlier : between < start). begun.none between bytes key low earlier is refl)
      (λ (later : start ≤ between). found.none between bytes later below is)
      (before_or_from start between);
}

pub found_after : (place after next : ℕ) (bytes : List ℕ) (key : KeyEvent) → IsRowAt place bytes key
    → IsNextOfBucket (bucket_of key) (place + 1) after → IsNextPlaceOf key after next → (other : List ℕ) (own : KeyEvent)
    → IsRowAt place other own → IsNextPlaceOf own (place + 1) next
found_after place after next bytes key row begun found other own is =
    subst (λ k. IsNextPlaceOf k (place + 1) next) (key_once_at place bytes other key own row is) (found_from key (place + 1) after next begun found)
