-- Keys found in a list of entries, and in the map that the entries make.
use Rattle.std.proofs.Common.{◌≡◌, ◌∙◌, ℕ, Bool, true, false, cond, List, [], ◌∷◌, ◌++◌, refl, sym, ap, nat_eq}
use Rattle.std.specs.Prelude.{Option, Some}
use Rattle.std.specs.Option.{option_or}
use Rattle.std.specs.Ordering.{nat_cmp, eq_by_cmp}
use Rattle.std.specs.Cmp.Lexicographic.{slice_cmp, pointwise, texts_ties, same_text}
use Rattle.std.specs.FinMap.{find, get, insert, from_entries, get-insert, get-from_entries, same_map, slice_cmp-IsAntisymmetric, nat_cmp-IsAntisymmetric}
use Rattle.std.proofs.lemmas.Cmp.{nat_list_cmp_total, nat_list_eq_equiv}
use Rattle.termwiz_keymap.specs.Entries.{Entries}
use Rattle.termwiz_keymap.specs.Lookup.{ByteMap}

-- whether two keys are one
abbrev pub tied : List ℕ → List ℕ → Bool
tied j k = eq_by_cmp (slice_cmp nat_cmp) j k

-- the tie that a lookup asks for, as the test that code makes
pub tie : (k x : List ℕ) (b : Bool) → b ≡ pointwise nat_eq x k → tied k x ≡ b
tie k x b e = sym (texts_ties k x) ∙ nat_list_eq_equiv.symm k x ∙ sym e

pub tied_same : (j k : List ℕ) → tied j k ≡ true → j ≡ k
tied_same j k e = same_text j k (sym (nat_list_eq_equiv.symm j k ∙ sym (tie j k (pointwise nat_eq k j) refl) ∙ e))

module _ {V : Type 0} where
  -- the value of the first entry with this key
  abbrev pub found : List ℕ → Entries V → Option V
  found k es = find (slice_cmp nat_cmp) k es

  found_in_two : (b : Bool) (v : V) (o p : Option V) → cond b (Some v) (option_or o p) ≡ option_or (cond b (Some v) o) p
  found_in_two true v o p = refl
  found_in_two false v o p = refl

  pub found-append : (k : List ℕ) (xs ys : Entries V) → found k (xs ++ ys) ≡ option_or (found k xs) (found k ys)
  found-append k [] ys = refl
  found-append k (x ∷ xs) ys = ap (cond (tied k x.0) (Some x.1)) (found-append k xs ys)
      ∙ found_in_two (tied k x.0) x.1 (found k xs) (found k ys)

  -- an entry with the key, at the front, and one with another
  pub find_here : (k x : List ℕ) (v : V) (es : Entries V) → true ≡ pointwise nat_eq x k → found k ((x, v) ∷ es) ≡ Some v
  find_here k x v es e = ap (λ b. cond b (Some v) (found k es)) (tie k x true e)

  pub find_later : (k x : List ℕ) (v : V) (es : Entries V) → false ≡ pointwise nat_eq x k
      → found k ((x, v) ∷ es) ≡ found k es
  find_later k x v es e = ap (λ b. cond b (Some v) (found k es)) (tie k x false e)

  -- the map of entries has what the entries have
  pub get-entries : (es : Entries V) (k : List ℕ) → get (from_entries {R = slice_cmp nat_cmp} es) k ≡ found k es
  get-entries es k = get-from_entries nat_list_cmp_total es k

  pub get-set : (m : ByteMap V) (key : List ℕ) (v : V) (k : List ℕ)
      → get (insert m key v) k ≡ cond (tied k key) (Some v) (get m k)
  get-set m key v k = get-insert nat_list_cmp_total m key v k

  pub same_keys : (m n : ByteMap V) → ((k : List ℕ) → get m k ≡ get n k) → m ≡ n
  same_keys m n same = same_map nat_list_cmp_total (slice_cmp-IsAntisymmetric nat_cmp-IsAntisymmetric) m n same

  -- entries make a map with one key set, if they have that key's value and else what the map has
  pub key_set : (es : Entries V) (m : ByteMap V) (key : List ℕ) (v : V)
      → ((k : List ℕ) → found k es ≡ cond (tied k key) (Some v) (get m k)) → from_entries es ≡ insert m key v
  key_set es m key v is = same_keys _ _ (λ k. get-entries es k ∙ is k ∙ sym (get-set m key v k))
