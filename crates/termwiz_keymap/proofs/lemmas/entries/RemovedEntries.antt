-- An entry of a map that is taken out.
use Rattle.std.proofs.Common.{suc, drop, get_or, ◌≡◌, ◌∙◌, ℕ, Bool, true, false, cond, List, [], ◌∷◌, take, refl, sym, ap, ap₂}
use Rattle.std.specs.Prelude.{Option, Some, None}
use Rattle.std.specs.Ordering.{nat_cmp}
use Rattle.std.specs.Cmp.Lexicographic.{slice_cmp}
use Rattle.std.specs.FinMap.{from_entries, get-remove}
use Rattle.std.specs.FinMap as map
use Rattle.std.specs.List.{remove}
use Rattle.std.specs.Option.{option_or}
use Rattle.std.proofs.Math.Seq.{split_at}
use Rattle.std.proofs.lemmas.Cmp.{nat_list_cmp_total}
use Rattle.std.proofs.lemmas.List.{get_or-map}
use Rattle.termwiz_keymap.specs.Entries.{Entries, IsFirstPlace}
use Rattle.termwiz_keymap.specs.Lookup.{ByteMap}
use Rattle.termwiz_keymap.proofs.lemmas.entries.KeysInEntries.{tied, tied_same, found, found-append, get-entries, same_keys}

module _ {V : Type 0} where
  -- what a map without a key has
  pub get-without : (m : ByteMap V) (key q : List ℕ) → map.get (map.remove m key) q ≡ cond (tied q key) None (map.get m q)
  get-without m key q = get-remove nat_list_cmp_total m key q

  stays : (b : Bool) (o : Option V) → (b ≡ true → o ≡ None) → cond b None o ≡ o
  stays true o none = sym (none refl)
  stays false o none = refl

  -- a map without a key that it didn't have
  pub nothing_removed : (m : ByteMap V) (key : List ℕ) → map.get m key ≡ None → map.remove m key ≡ m
  nothing_removed m key none = same_keys _ _ (λ q. get-without m key q
      ∙ stays (tied q key) (map.get m q) (λ is. ap (map.get m) (tied_same q key is) ∙ none))

  taken_out : (b : Bool) (w : V) (o p : Option V) → (b ≡ true → o ≡ None) → (b ≡ true → p ≡ None)
      → option_or o p ≡ cond b None (option_or o (cond b (Some w) p))
  taken_out true w o p before after = ap₂ option_or (before refl) (after refl)
  taken_out false w o p before after = refl

  -- the entries without the only one of a key
  pub removed : (es : Entries V) (key : List ℕ) (i : ℕ) (default : V) → IsFirstPlace es key i
      → found key (drop (suc i) es) ≡ None
      → from_entries {R = slice_cmp nat_cmp} (remove es i) ≡ map.remove (from_entries es) key
  removed es key i default first none_after = same_keys _ _
      (λ q. get-entries (remove es i) q ∙ each q ∙ sym (ap (cond (tied q key) None) (get-entries es q))
      ∙ sym (get-without (from_entries es) key q))
    where
      each : (q : List ℕ) → found q (remove es i) ≡ cond (tied q key) None (found q es)
      each q =
          let xs = take i es in
          let ys = drop (suc i) es in
          let e : List ℕ × V = get_or es i (key, default) in
          let same : e.0 ≡ key =
          sym (get_or-map (λ (x : List ℕ × V). x.0) es i (key, default) [] first.in_range) ∙ first.here in
          found-append q xs ys
          ∙ taken_out (tied q key) e.1 (found q xs) (found q ys)
          (λ is. ap (λ k. found k xs) (tied_same q key is) ∙ first.none_before)
          (λ is. ap (λ k. found k ys) (tied_same q key is) ∙ none_after)
          ∙ sym (ap (cond (tied q key) None) (
          ap (found q) (split_at es i (key, default) first.in_range)
          ∙ found-append q xs (e ∷ ys)
          ∙ ap (λ k. option_or (found q xs) (cond (tied q k) (Some e.1) (found q ys))) same))
