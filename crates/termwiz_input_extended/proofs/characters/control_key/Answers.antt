use Rattle.std.proofs.Common.{◌≡◌, ◌≤◌, ◌+◌, ◌∷◌, [], true, ⊎_elim, sym, subst, arith, Contains}
use Rattle.std.proofs.lemmas.Bool.Decides.{nat_tests}
use Rattle.termwiz_keys.specs.Keys.{key_with, CTRL, NONE}
use Rattle.termwiz_keys.specs.declared.types.KeyCode.TheVariants.{Char, Backspace, Enter, Tab}
use Rattle.termwiz_grammar.specs.Table.{rows, is_letter}
use Rattle.termwiz_input_extended.proofs.lemmas.fronts.ControlCharacters.{backspace_row, control_letter_row, delete_row, line_feed_row, return_row, tab_row}
use Rattle.termwiz_input_extended.proofs.characters.control_key.Goals as goal

pub returns-in-8 : goal.returns-in-8
returns-in-8 c = ⊎_elim
    (λ (e : c.args.byte ≡ 8). subst (λ b. Contains rows (b ∷ [], key_with Backspace NONE)) (sym e) backspace_row)
    (λ (e : c.args.byte ≡ 127). subst (λ b. Contains rows (b ∷ [], key_with Backspace NONE)) (sym e) delete_row)
    c.in-8.is

pub returns-in-9 : goal.returns-in-9
returns-in-9 c =
    let is : 9 ≡ c.args.byte = cc (c.in-9.is) in
    subst (λ b. Contains rows (b ∷ [], key_with Tab NONE)) is tab_row

pub returns-in-10 : goal.returns-in-10
returns-in-10 c = ⊎_elim
    (λ (e : c.args.byte ≡ 10).
    subst (λ b. Contains rows (b ∷ [], key_with Enter NONE)) (sym e) line_feed_row)
    (λ (e : c.args.byte ≡ 13).
    subst (λ b. Contains rows (b ∷ [], key_with Enter NONE)) (sym e) return_row)
    c.in-10.is

pub returns-in_default : goal.returns-in_default
returns-in_default c =
    let within : (1 ≤ c.args.byte) × (c.args.byte ≤ 26) = ⊎_elim
    (λ (h : (1 ≤ c.args.byte) × (c.args.byte ≤ 26)). h)
    (λ (e : c.args.byte ≡ 127). absurd (grind (arith, nat_tests, e, c.in_default)))
    c.requires in
    let letter : is_letter c.args.byte ≡ true = grind (arith, nat_tests, c.in_default) in
    let character : 96 + c.args.byte ≡ c.from.result = omega (arith, c.from.ensures) in
    subst (λ k. Contains rows (c.args.byte ∷ [], key_with (Char k) CTRL)) character
    (control_letter_row c.args.byte within.0 within.1 letter)
