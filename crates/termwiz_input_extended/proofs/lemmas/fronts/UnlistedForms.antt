-- Sequences that are no rows of the sequence table.
use Rattle.std.proofs.Common.{◌≡◌, ◌⊎◌, inl, inr, ℕ, ◌<◌, ◌≤◌, ◌==◌, ◌&&◌, ◌||◌, nat_lt, Bool, true, false, not, List, [], ◌∷◌, ◌++◌, length, slice_index, refl, subst, arith, Contains}
use Rattle.std.specs.List.{list_all}
use Rattle.std.proofs.lemmas.Bool.{and_parts}
use Rattle.std.proofs.lemmas.List.Sums.{AllPass-from_list_all}
use Rattle.std.proofs.lemmas.List.Elements.{All-contains}
use Rattle.std.proofs.lemmas.Bool.Decides.{nat_tests}
use Rattle.termwiz_keys.specs.Introducers.{CSI}
use Rattle.termwiz_keys.specs.declared.types.KeyEvent.{KeyEvent}
use Rattle.termwiz_grammar.specs.Table.{TableRow, rows, written_out}
use Rattle.termwiz_grammar.proofs.lemmas.table.ComputedTests.{ends_well, has_shape, is_inner}
use Rattle.termwiz_grammar.proofs.lemmas.table.RowShape.{row_shaped}
use Rattle.termwiz_input_extended.specs.NextItems.{IsFocus, IsPrivate}

-- ESC [ and I or O, but for the first byte
abbrev is_focus : List ℕ → Bool
is_focus (a ∷ b ∷ c ∷ []) = b == 91 && (c == 73 || c == 79)
is_focus _ = false

none_of_focus : list_all (λ (r : TableRow). not (is_focus r.0)) rows ≡ true
unfolding written_out
none_of_focus = refl

not_focus : (text : List ℕ) (key : KeyEvent) → Contains rows (text, key) → not (is_focus text) ≡ true
not_focus text key c =
    All-contains (λ (r : TableRow). not (is_focus r.0) ≡ true) rows (text, key)
    (AllPass-from_list_all (λ (r : TableRow). not (is_focus r.0)) rows none_of_focus) c

-- a report of the focus is no row
focus_no_row : (text : List ℕ) (key : KeyEvent) → IsFocus text → Contains rows (text, key) → ⊥
focus_no_row text key (inl is) c = let none : false ≡ true = subst (λ t. not (is_focus t) ≡ true) is (not_focus text key c) in cc (none)
focus_no_row text key (inr is) c = let none : false ≡ true = subst (λ t. not (is_focus t) ≡ true) is (not_focus text key c) in cc (none)

no_private_row : (mark next : ℕ) (rest : List ℕ) → 60 ≤ mark → has_shape (27 ∷ 91 ∷ mark ∷ next ∷ rest) ≡ true → ⊥
no_private_row mark next rest low shape =
    let inner = and_parts (is_inner mark) (ends_well (next ∷ rest)) shape in
    let below : nat_lt mark 60 ≡ true = (and_parts (nat_lt 47 mark) (nat_lt mark 60) inner.0).1 in
    grind (arith, nat_tests, low)

no_private_row_of : (rest : List ℕ) → 3 < length (CSI ++ rest) → 60 ≤ slice_index (CSI ++ rest) 2 → has_shape (CSI ++ rest) ≡ true → ⊥
no_private_row_of [] long low shape = omega (arith, long)
no_private_row_of (mark ∷ []) long low shape = omega (arith, long)
no_private_row_of (mark ∷ next ∷ rest) long low shape = no_private_row mark next rest low shape

-- nor is one with a byte from < to ? behind ESC [
private_no_row : (text : List ℕ) (key : KeyEvent) → IsPrivate text → Contains rows (text, key) → ⊥
private_no_row text key is c =
    let split = is.1.0.1 in
    no_private_row_of is.1.0.0 (subst (λ t. 3 < length t) split is.0) (subst (λ t. 60 ≤ slice_index t 2) split is.1.1.0)
    (subst (λ t. has_shape t ≡ true) split (row_shaped text key c).shape)

-- so none of both is one
pub unlisted_no_row : (text : List ℕ) (key : KeyEvent) → IsFocus text ⊎ IsPrivate text → Contains rows (text, key) → ⊥
unlisted_no_row text key (inl focus) c = focus_no_row text key focus c
unlisted_no_row text key (inr private) c = private_no_row text key private c
