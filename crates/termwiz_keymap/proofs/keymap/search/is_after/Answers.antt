use Rattle.std.proofs.Common.{⊎_elim, inl, inr, ◌≡◌, ◌<◌, ◌≤◌, ℕ, get_or, nat_eq, nat_lt, IsTrue, arith}
use Rattle.std.proofs.lemmas.Bool.{cases_lt}
use Rattle.std.proofs.lemmas.Bool.Decides.{nat_tests}
use Rattle.termwiz_keymap.proofs.lemmas.rows.BinarySearch.{after_agreed, not_after_agreed}
use Rattle.termwiz_keymap.proofs.keymap.search.is_after.Goals as goal

less_tested : (a b : ℕ) → IsTrue (nat_lt a b) → a < b
less_tested a b is = grind (arith, nat_tests)

tests_less : (a b : ℕ) → a < b → IsTrue (nat_lt a b)
tests_less a b less = grind (arith, nat_tests)

tests_same : (a b : ℕ) → a ≡ b → IsTrue (nat_eq a b)
tests_same a b same = grind (arith, nat_tests)

pub returns-then-shared-text : goal.returns-then-shared-text
returns-then-shared-text c = (
  λ is. after_agreed c.args.key.now c.args.text.now c.args.shared c.requires (omega (arith, c.if-shared-key.true))
      (inl c.if-shared-text.true),
  λ before. tests_same _ _ c.if-shared-text.true,
)

pub returns-else-shared-text : goal.returns-else-shared-text
returns-else-shared-text c =
    let own = get_or c.args.key.now c.args.shared 0 in
    let other = get_or c.args.text.now c.args.shared 0 in (
      λ is. after_agreed c.args.key.now c.args.text.now c.args.shared c.requires (omega (arith, c.if-shared-key.true))
          (inr (less_tested other own is)),
      λ before. ⊎_elim
          (λ (less : other < own). tests_less other own less)
          (λ (up_to : own ≤ other). absurd (not_after_agreed c.args.key.now c.args.text.now c.args.shared c.requires
          (λ inside. (omega (arith, c.requires.in_text, c.if-shared-text.false), up_to)) before))
          (cases_lt other own),
    )

pub returns-else-shared-key : goal.returns-else-shared-key
returns-else-shared-key c = (
  λ is. absurd (let inside = less_tested _ _ is in omega (arith, inside, c.if-shared-key.false)),
  λ before. absurd (not_after_agreed c.args.key.now c.args.text.now c.args.shared c.requires
      (λ inside. absurd (omega (arith, inside, c.if-shared-key.false))) before),
)
