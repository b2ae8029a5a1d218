-- What begins a text, by a test.
use Rattle.std.proofs.Common.{◌≡◌, ℕ, Bool, true, false, List, ◌++◌, length, take, drop, sym, ap, ◌∙◌, nat_eq, take-append-drop, IsTrue}
use Rattle.std.specs.List.{starts_with}
use Rattle.std.specs.Cmp.Lexicographic.{pointwise, same_text}
use Rattle.std.proofs.lemmas.Cmp.{nat_list_eq_equiv}
use Rattle.std.proofs.Math.Seq.{take-append_seam}
use Rattle.termwiz_keymap.specs.Bytes.{Begins}

pub begins_from_test : (u front : List ℕ) → starts_with nat_eq u front ≡ true → Begins front u
begins_from_test u front e =
    let same : front ≡ take (length front) u = same_text front (take (length front) u) (sym e) in
    (drop (length front) u, sym (take-append-drop (length front) u) ∙ ap (λ x. x ++ drop (length front) u) (sym same))

pub test_from_begins : (u front : List ℕ) → Begins front u → starts_with nat_eq u front ≡ true
test_from_begins u front (rest, e) =
    let same : take (length front) u ≡ front = ap (take (length front)) e ∙ take-append_seam front rest in
    ap (pointwise nat_eq front) same ∙ nat_list_eq_equiv.refl front

-- what a test denies
pub denied : {b : Bool} {P : Type 0} → (P → IsTrue b) → b ≡ false → P → ⊥
denied {b = b} test no_such p = let yes_such : b ≡ true = test p in cc
