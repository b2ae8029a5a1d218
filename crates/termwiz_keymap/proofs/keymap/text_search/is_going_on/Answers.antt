use Rattle.std.proofs.Common.{◌≡◌, ℕ, nat_eq, IsTrue, arith}
use Rattle.std.proofs.lemmas.Bool.Decides.{nat_tests}
use Rattle.termwiz_keymap.proofs.lemmas.rows.TextSearch.{none_going_on, goes_on_there, agrees_there}
use Rattle.termwiz_keymap.proofs.keymap.text_search.is_going_on.Goals as goal

same_tested : (a b : ℕ) → IsTrue (nat_eq a b) → a ≡ b
same_tested a b is = grind (arith, nat_tests)

tests_same : (a b : ℕ) → a ≡ b → IsTrue (nat_eq a b)
tests_same a b same = grind (arith, nat_tests)

pub returns-then-count-len : goal.returns-then-count-len
returns-then-count-len g c = (
  λ yes. absurd (cc (yes)),
  λ goes. absurd (none_going_on c.args.rows.now c.requires.ascending c.args.text.now c.args.count c.requires.counted
      (omega (arith, c.if-count-len.true, c.len.ensures)) goes),
)

pub returns : goal.returns
returns g c =
    let agree = rw c.key.ensures at c.shared_len.ensures in (
      λ yes. goes_on_there c.args.rows.now c.requires.ascending c.args.text.now c.args.count c.requires.counted
          c.index.result.now (omega (arith, c.if-count-len.false, c.len.ensures)) c.index.ensures c.shared_len.result agree
          (same_tested _ _ yes),
      λ goes. tests_same _ _ (agrees_there c.args.rows.now c.requires.ascending c.args.text.now c.args.count
          c.requires.counted c.index.result.now (omega (arith, c.if-count-len.false, c.len.ensures)) c.index.ensures
          c.shared_len.result agree goes),
    )
