-- A map from byte lists as the list of its entries.
use Rattle.std.specs.Prelude.{◌≡◌, ◌<◌, ℕ, List, [], length, take, get_or, None, map as each}
use Rattle.std.specs.Ordering.{nat_cmp}
use Rattle.std.specs.List.{AllZip}
use Rattle.std.specs.Cmp.Lexicographic.{slice_cmp}
use Rattle.std.specs.FinMap.{find}

-- keys with their values; of two entries with one key the first counts
abbrev pub Entries : Type 0 → Type 0
Entries V = List (List ℕ × V)

module _ {V : Type 0} where
  -- the same keys in the same order, each with a clone of its value
  abbrev pub AreClones : (V → V → Type 0) → Entries V → Entries V → Type 0
  AreClones is_clone es copies = AllZip (λ e copy. (copy.0 ≡ e.0) × is_clone e.1 copy.1) es copies

  -- the first entry with this key is at place i
  pub record IsFirstPlace (es : Entries V) (key : List ℕ) (i : ℕ) : Type 0 where
    pub in_range : i < length es
    pub none_before : find (slice_cmp nat_cmp) key (take i es) ≡ None
    pub here : get_or (each (λ e. e.0) es) i [] ≡ key
