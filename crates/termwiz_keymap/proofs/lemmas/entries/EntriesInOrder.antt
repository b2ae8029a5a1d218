-- Each key of a map is at one place among its entries, and later keys are greater.
use Rattle.std.proofs.Common.{◌≡◌, ◌∙◌, ◌<◌, ℕ, zero, suc, Bool, true, false, cond, T, List, [], ◌∷◌, ◌++◌, length, get_or, nat_eq, refl, sym, ap, ap₂, subst, arith}
use Rattle.std.specs.Prelude.{◌&&◌, Some, ◌↔◌, None, IsSome, is_some}
use Rattle.std.specs.Option.{unwrap_or}
use Rattle.std.specs.FinMap as map
use Rattle.std.specs.FinMap.Entries.{below_all}
use Rattle.std.specs.Ordering.{nat_cmp, is_lt}
use Rattle.std.specs.declared.cmp.Ordering.{Ordering}
use Rattle.std.specs.declared.cmp.Ordering.TheVariants.{Less, Equal, Greater}
use Rattle.std.specs.Cmp.Lexicographic.{slice_cmp, pointwise, same_text}
use Rattle.std.proofs.lemmas.Cmp.{nat_list_eq_equiv}
use Rattle.termwiz_keymap.specs.Entries.{Entries}
use Rattle.termwiz_keymap.specs.Lookup.{ByteMap, IsExtended}
use Rattle.termwiz_keymap.specs.KeysInOrder.{IsEntryAt, AreExtensions, AreInOrder}
use Rattle.termwiz_keymap.proofs.lemmas.entries.KeysInEntries.{tied, tied_same, found, find_here, find_later}
use Rattle.std.proofs.lemmas.List.{get_or_default}
use Rattle.termwiz_keymap.proofs.lemmas.lists.CommonPrefixes.{length-some}
use Rattle.termwiz_keymap.proofs.lemmas.rows.KeyOrder.{Before, not_itself}

first : (a b : Bool) → T (a && b) → T a
first true b p = tt
first false b p = p

second : (a b : Bool) → T (a && b) → T b
second true b p = p
second false b p = absurd p

is_less : (o : Ordering) → T (is_lt o) → o ≡ Less
is_less Less p = refl
is_less Equal p = absurd p
is_less Greater p = absurd p

some_entry : {X : Type 0} (xs : List X) (i : ℕ) → i < length xs → X
some_entry [] i inside = absurd (omega arith)
some_entry (x ∷ xs) i inside = x

module _ {V : Type 0} where
  abbrev AreSorted : Entries V → Type 0
  AreSorted es = T (map.is_sorted (slice_cmp nat_cmp) es)

  before_all : (k : List ℕ) (es : Entries V) → T (below_all (slice_cmp nat_cmp) k es) → (i : ℕ) (d : List ℕ × V)
      → i < length es → Before k (get_or es i d).0
  before_all k [] h i d inside = absurd (omega arith)
  before_all k (e ∷ es) h zero d inside = is_less _ (first _ _ h)
  before_all k (e ∷ es) h (suc i) d inside = before_all k es (second _ _ h) i d (omega arith)

  in_order : (es : Entries V) → AreSorted es → (i j : ℕ) (d : List ℕ × V) → i < j → j < length es
      → Before (get_or es i d).0 (get_or es j d).0
  in_order [] h i j d less inside = absurd (omega arith)
  in_order (e ∷ es) h i zero d less inside = absurd (omega arith)
  in_order (e ∷ es) h zero (suc j) d less inside = before_all e.0 es (first _ _ h) j d (omega arith)
  in_order (e ∷ es) h (suc i) (suc j) d less inside = in_order es (second _ _ h) i j d (omega arith) (omega arith)

  -- a key that is found is at a place
  place_of : (k : List ℕ) (v : V) (es : Entries V) → found k es ≡ Some v
      → (i : ℕ) × (i < length es) × ((d : List ℕ × V) → get_or es i d ≡ (k, v))
  place_of k v [] e = absurd (cc (e))
  place_of k v (x ∷ es) e =
      elim (tied k x.0) as (λ b. tied k x.0 ≡ b → cond b (Some x.1) (found k es) ≡ Some v
      → (i : ℕ) × (i < length (x ∷ es)) × ((d : List ℕ × V) → get_or (x ∷ es) i d ≡ (k, v))) [
        | true ↦ λ t is. (
          0,
          omega arith,
          λ d. ap₂ (λ key value. (key, value)) (sym (tied_same k x.0 t))
              (ap (λ o. unwrap_or o x.1) is),
        )
        | false ↦ λ t is. let p = place_of k v es is in (suc p.0, omega (arith, p.1), λ d. p.2 d)
      ] refl e

  -- the key at a place is found
  found_at : (es : Entries V) → AreSorted es → (i : ℕ) (d : List ℕ × V) → i < length es
      → found (get_or es i d).0 es ≡ Some (get_or es i d).1
  found_at [] h i d inside = absurd (omega arith)
  found_at (e ∷ es) h zero d inside = find_here e.0 e.0 e.1 es (sym (nat_list_eq_equiv.refl e.0))
  found_at (e ∷ es) h (suc i) d inside =
      let k = (get_or es i d).0 in
      elim (pointwise nat_eq e.0 k) as (λ b. b ≡ pointwise nat_eq e.0 k
      → found k (e ∷ es) ≡ Some (get_or es i d).1) [
        | true ↦ λ is. absurd (not_itself k (subst (λ (y : List ℕ). Before y k) (same_text e.0 k is)
            (before_all e.0 es (first _ _ h) i d (omega arith))))
        | false ↦ λ other. find_later k e.0 e.1 es other ∙ found_at es (second _ _ h) i d (omega arith)
      ] refl

  module _ (m : ByteMap V) where
    place_in : (key : List ℕ) (value : V) → map.get m key ≡ Some value → (place : ℕ) × IsEntryAt m place key value
    place_in key value is = let p = place_of key value (map.entries m) (sym (map.get-entries m key) ∙ is) in
        (p.0, record { inside = omega (arith, p.1, map.len-entries m); there = p.2 })

    stored_at : (place : ℕ) (key : List ℕ) (value : V) → IsEntryAt m place key value → map.get m key ≡ Some value
    stored_at place key value at =
        map.get-entries m key
        ∙ ap (λ (e : List ℕ × V). found e.0 (map.entries m)) (sym (at.there (key, value)))
        ∙ found_at (map.entries m) (map.entries_sorted m) place (key, value) (omega (arith, at.inside, map.len-entries m))
        ∙ ap (λ (e : List ℕ × V). Some e.1) (at.there (key, value))

    ordered : (i j : ℕ) (key later : List ℕ) (value other : V) → IsEntryAt m i key value → IsEntryAt m j later other
        → i < j → Before key later
    ordered i j key later value other at after less = subst (λ (e : List ℕ × V). Before key e.0) (after.there (key, value))
        (subst (λ (e : List ℕ × V). Before e.0 (get_or (map.entries m) j (key, value)).0) (at.there (key, value))
        (in_order (map.entries m) (map.entries_sorted m) i j (key, value) less
        (omega (arith, after.inside, map.len-entries m))))

    -- some key begins with a text and is longer exactly if its places aren't none
    pub some_places : (t : List ℕ) (low high : ℕ) → AreExtensions m t low high → (low < high) ↔ IsExtended m t
    some_places t low high are = (
      λ less.
          let inside : low < length (map.entries m) = omega (arith, less, are.inside, map.len-entries m) in
          let entry = some_entry (map.entries m) low inside in
          let found = get_or (map.entries m) low entry in
          let at : IsEntryAt m low found.0 found.1 = record {
            inside = omega (arith, less, are.inside);
            there = λ d. get_or_default (map.entries m) low d entry inside;
          } in
          let goes = (are.those low found.0 found.1 at).1 (omega arith, less) in
          let stored : map.get m (t ++ goes.0) ≡ Some found.1 =
          ap (λ k. map.get m k) (sym goes.2) ∙ stored_at low found.0 found.1 at in
          (goes.0, length-some goes.0 goes.1, ap is_some stored),
      λ (rest, long, some). elim (map.get m (t ++ rest)) as (λ o. map.get m (t ++ rest) ≡ o → IsSome o → low < high) [
        | None ↦ λ is none. absurd (cc (none))
        | Some value ↦ λ is _. let p = place_in (t ++ rest) value is in
            let within = (are.those p.0 (t ++ rest) value p.1).0 (rest, (λ none. omega (arith, long, ap length none)), refl) in
            omega (arith, within.0, within.1)
      ] refl some,
    )

pub in_order_of_bytes : {V : Type 0} → AreInOrder V
in_order_of_bytes = record {
  stored = λ m key value. (place_in m key value, λ p. stored_at m p.0 key value p.1);
  ascending = ordered;
}
