use Rattle.std.proofs.Common.{◌≡◌, ◌∙◌, ◌&&◌, ℕ, List, true, length, nat_eq, sym, ap₂, subst, arith}
use Rattle.std.specs.Prelude.{IsTrue}
use Rattle.std.specs.Cmp.Lexicographic.{pointwise, same_text}
use Rattle.std.proofs.lemmas.Bool.{and_parts}
use Rattle.std.proofs.lemmas.Bool.Decides.{nat_tests}
use Rattle.std.proofs.lemmas.Cmp.{nat_list_eq_equiv}
use Rattle.termwiz_bindings.specs.declared.press.KeyPress.{KeyPress}
use Rattle.termwiz_bindings.specs.Chords.{IsChord, held_presses, padded}
use Rattle.termwiz_bindings.proofs.lemmas.ChordBytes.{held_by}
use Rattle.termwiz_bindings.proofs.laws.chord_equality.Goals as goal

same_number : (m n : ℕ) → nat_eq m n ≡ true → m ≡ n
same_number m n is = grind (arith, nat_tests)

itself : (n : ℕ) → nat_eq n n ≡ true
itself n = grind (arith, nat_tests)

-- equal fields are those of equal chords
told_same : (a b : List KeyPress) → IsChord a → IsChord b
    → (pointwise nat_eq (padded a) (padded b) && nat_eq (length a) (length b)) ≡ true → a ≡ b
told_same a b is its both =
    let parts = and_parts (pointwise nat_eq (padded a) (padded b)) (nat_eq (length a) (length b)) both in
    sym (held_by a is)
    ∙ ap₂ held_presses (same_text (padded a) (padded b) (sym parts.0)) (same_number (length a) (length b) parts.1)
    ∙ held_by b its

same_told : (a : List KeyPress) → (pointwise nat_eq (padded a) (padded a) && nat_eq (length a) (length a)) ≡ true
same_told a = ap₂ (λ x y. x && y) (nat_list_eq_equiv.refl (padded a)) (itself (length a))

pub returns : goal.returns
returns c = λ a b is its. (
  λ both. told_same a b is its both,
  λ same. subst (λ (x : List KeyPress). IsTrue (pointwise nat_eq (padded a) (padded x) && nat_eq (length a) (length x))) same (same_told a),
)
