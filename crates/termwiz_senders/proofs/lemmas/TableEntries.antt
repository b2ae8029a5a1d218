-- What holds of each entry of a table holds of the one that is found.
use Rattle.std.proofs.Common.{◌≡◌, ℕ, Bool, true, false, List, [], ◌∷◌, refl, arith, Some, subst}
use Rattle.std.specs.Prelude.{⊤, ◌==◌}
use Rattle.std.specs.List.{list_all}
use Rattle.std.proofs.lemmas.Bool.{and_parts}
use Rattle.std.proofs.lemmas.Bool.Decides.{nat_tests}
use Rattle.termwiz_extended_events.specs.ReportedKeys.{entry_at}

abbrev pub HoldsOfEach : {K : Type 0} → (ℕ → K → Type 0) → List (ℕ × K) → Type 0
HoldsOfEach P [] = ⊤
HoldsOfEach P (row ∷ rows) = P row.0 row.1 × HoldsOfEach P rows

pub entry_holds : {K : Type 0} (P : ℕ → K → Type 0) (table : List (ℕ × K)) (n : ℕ) (k : K) → HoldsOfEach P table
    → entry_at table n ≡ Some k → P n k
entry_holds P [] n k all e = absurd (cc (e))
entry_holds P (row ∷ rows) n k all e = go (λ h. entry_holds P rows n k all.1 h) (row.0 == n) refl
  where
    go : (entry_at rows n ≡ Some k → P n k) → (b : Bool) → (row.0 == n) ≡ b → P n k
    go below true f =
        let here : Some row.1 ≡ Some k = rw f at e in
        let value : row.1 ≡ k = cc (here) in
        let place : row.0 ≡ n = grind (arith, nat_tests) in
        subst (λ m. P m k) place (subst (λ v. P row.0 v) value all.0)
    go below false f = below (rw f at e)

holds_from_test : {K : Type 0} (p : ℕ → K → Bool) (table : List (ℕ × K)) → list_all (λ row. p row.0 row.1) table ≡ true
    → HoldsOfEach (λ n k. p n k ≡ true) table
holds_from_test p [] all = tt
holds_from_test p (row ∷ rows) all =
    let both = and_parts (p row.0 row.1) (list_all (λ row. p row.0 row.1) rows) all in (both.0, holds_from_test p rows both.1)

-- the same of a test
pub entry_passes : {K : Type 0} (p : ℕ → K → Bool) (table : List (ℕ × K)) (n : ℕ) (k : K)
    → list_all (λ row. p row.0 row.1) table ≡ true → entry_at table n ≡ Some k → p n k ≡ true
entry_passes p table n k all e = entry_holds (λ n k. p n k ≡ true) table n k (holds_from_test p table all) e
