-- What binding and unbinding a chord change, and where chords are.
use Rattle.std.proofs.Common.{◌≡◌, ◌≢◌, ◌∙◌, ⊎_elim, ℕ, zero, suc, ◌<◌, ◌≤◌, Bool, true, false, cond, List, [], ◌∷◌, length, get_or, refl, sym, ap, subst, arith}
use Rattle.std.specs.Prelude.{None, Some}
use Rattle.std.specs.FinMap as map
use Rattle.std.proofs.lemmas.Bool.{cases_lt}
use Rattle.std.proofs.lemmas.Cmp.{nat_list_eq_equiv}
use Rattle.termwiz_keymap.specs.KeysInOrder.{AreInOrder, IsEntryAt}
use Rattle.termwiz_keymap.specs.Lookup.{ByteMap}
use Rattle.termwiz_keymap.proofs.lemmas.entries.EntriesInOrder.{in_order_of_bytes}
use Rattle.termwiz_keymap.proofs.lemmas.entries.KeysInEntries.{tie, tied, tied_same, get-set}
use Rattle.termwiz_keymap.proofs.lemmas.entries.RemovedEntries.{get-without}
use Rattle.termwiz_keymap.proofs.lemmas.rows.KeyOrder.{not_itself}
use Rattle.termwiz_bindings.specs.declared.press.KeyPress.{KeyPress}
use Rattle.termwiz_bindings.specs.Codes.{codes}
use Rattle.termwiz_bindings.specs.Chords.{IsChord}
use Rattle.termwiz_bindings.specs.Bindings.{AreBindings, IsBindingAt}
use Rattle.termwiz_bindings.specs.BindingLaws.{AreChordsInOrder, ChangeOneChord}
use Rattle.termwiz_bindings.proofs.lemmas.BoundChords.{same_chord, some_at}

-- a key is tied to itself
tied_itself : (key : List ℕ) → tied key key ≡ true
tied_itself key = tie key key true (sym (nat_list_eq_equiv.refl key))

-- the codes of different chords are not tied
untied : (chord other : List KeyPress) → IsChord chord → IsChord other → other ≢ chord → tied (codes other) (codes chord) ≡ false
untied chord other is its apart = go (tied (codes other) (codes chord)) refl
  where
    go : (b : Bool) → tied (codes other) (codes chord) ≡ b → b ≡ false
    go false is_tied = refl
    go true is_tied = absurd (apart (same_chord other chord its is (tied_same (codes other) (codes chord) is_tied)))

element_at : {A : Type 0} (xs : List A) (i : ℕ) → i < length xs → (x : A) × ((d : A) → get_or xs i d ≡ x)
element_at [] i inside = absurd (omega arith)
element_at (x ∷ xs) zero inside = (x, λ d. refl)
element_at (x ∷ xs) (suc i) inside = element_at xs i (omega arith)

module _ {V : Type 0} where
  pub change_one_chord : ChangeOneChord V
  change_one_chord = record {
    bound_here = λ m chord value. get-set m (codes chord) value (codes chord)
        ∙ ap (λ b. cond b (Some value) (map.get m (codes chord))) (tied_itself (codes chord));
    bound_elsewhere = λ m chord other value is its apart. get-set m (codes chord) value (codes other)
        ∙ ap (λ b. cond b (Some value) (map.get m (codes other))) (untied chord other is its apart);
    unbound_here = λ m chord. get-without m (codes chord) (codes chord)
        ∙ ap (λ b. cond b None (map.get m (codes chord))) (tied_itself (codes chord));
    unbound_elsewhere = λ m chord other is its apart. get-without m (codes chord) (codes other)
        ∙ ap (λ b. cond b None (map.get m (codes other))) (untied chord other is its apart);
  }

  order : AreInOrder V
  order = in_order_of_bytes

  entry_at : (m : ByteMap V) (place : ℕ) → place < map.len m → (key : List ℕ) × (value : V) × IsEntryAt m place key value
  entry_at m place inside =
      let one = element_at (map.entries m) place (subst (λ n. place < n) (map.len-entries m) inside) in
      (one.0.0, one.0.1, record { inside = inside; there = λ d. one.1 d })

  binding_at : (m : ByteMap V) (place : ℕ) → AreBindings m → place < map.len m
      → (chord : List KeyPress) × (value : V) × IsChord chord × (chord ≢ []) × IsBindingAt m place chord value
  binding_at m place are inside =
      let entry = entry_at m place inside in
      let known = are entry.0 (some_at m are entry.0 entry.1 ((order.stored m entry.0 entry.1).1 (place, entry.2))) in
      (known.0, entry.1, known.1, known.2, subst (λ key. IsEntryAt m place key entry.1) known.3 entry.2)

  one_place : (m : ByteMap V) (i j : ℕ) (chord : List KeyPress) (value other : V) → IsBindingAt m i chord value
      → IsBindingAt m j chord other → i ≡ j
  one_place m i j chord value other at also = ⊎_elim
      (λ (less : i < j). absurd (not_itself (codes chord)
      (order.ascending m i j (codes chord) (codes chord) value other at also less)))
      (λ (from : j ≤ i). ⊎_elim
      (λ (more : j < i). absurd (not_itself (codes chord)
      (order.ascending m j i (codes chord) (codes chord) other value also at more)))
      (λ (to : i ≤ j). omega arith)
      (cases_lt j i))
      (cases_lt i j)

  pub chords_in_order : AreChordsInOrder V
  chords_in_order = record {
    at_each_place = binding_at;
    stored = λ m chord value. order.stored m (codes chord) value;
    at_one_place = one_place;
    ascending = λ m i j chord later value other. order.ascending m i j (codes chord) (codes later) value other;
  }
