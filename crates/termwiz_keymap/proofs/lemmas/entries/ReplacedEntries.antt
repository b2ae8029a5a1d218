-- An entry of a map that gets another value.
use Rattle.std.proofs.Common.{suc, drop, set, get_or, ◌≡◌, ◌∙◌, ℕ, Bool, true, false, cond, List, [], ◌∷◌, take, refl, sym, ap}
use Rattle.std.specs.Prelude.{Option, Some, None}
use Rattle.std.specs.Ordering.{nat_cmp}
use Rattle.std.specs.Cmp.Lexicographic.{slice_cmp}
use Rattle.std.specs.FinMap.{from_entries}
use Rattle.std.specs.FinMap as map
use Rattle.std.specs.Option.{option_or}
use Rattle.std.proofs.Math.Seq.{split_at}
use Rattle.std.proofs.lemmas.List.{set_split, get_or-map}
use Rattle.termwiz_keymap.specs.Entries.{Entries, IsFirstPlace}
use Rattle.termwiz_keymap.proofs.lemmas.entries.KeysInEntries.{tied, tied_same, found, found-append, get-entries, key_set}

module _ {V : Type 0} where
  in_its_place : (b : Bool) (v w : V) (o p : Option V) → (b ≡ true → o ≡ None)
      → option_or o (cond b (Some v) p) ≡ cond b (Some v) (option_or o (cond b (Some w) p))
  in_its_place true v w o p none = ap (λ x. option_or x (Some v)) (none refl)
  in_its_place false v w o p none = refl

  -- the first entry of a key with another value
  pub replaced : (es : Entries V) (key : List ℕ) (i : ℕ) (v : V) → IsFirstPlace es key i
      → from_entries {R = slice_cmp nat_cmp} (set es i (key, v)) ≡ map.insert (from_entries es) key v
  replaced es key i v first = key_set (set es i (key, v)) (from_entries es) key v
      (λ q. each q ∙ sym (ap (cond (tied q key) (Some v)) (get-entries es q)))
    where
      each : (q : List ℕ) → found q (set es i (key, v)) ≡ cond (tied q key) (Some v) (found q es)
      each q =
          let xs = take i es in
          let ys = drop (suc i) es in
          let e : List ℕ × V = get_or es i (key, v) in
          let same : e.0 ≡ key =
          sym (get_or-map (λ (x : List ℕ × V). x.0) es i (key, v) [] first.in_range) ∙ first.here in
          ap (found q) (set_split es i (key, v) first.in_range)
          ∙ found-append q xs ((key, v) ∷ ys)
          ∙ in_its_place (tied q key) v e.1 (found q xs) (found q ys) (λ is. ap (λ k. found k xs) (tied_same q key is)
          ∙ first.none_before)
          ∙ sym (ap (cond (tied q key) (Some v)) (
          ap (found q) (split_at es i (key, v) first.in_range)
          ∙ found-append q xs (e ∷ ys)
          ∙ ap (λ k. option_or (found q xs) (cond (tied q k) (Some e.1) (found q ys))) same))
