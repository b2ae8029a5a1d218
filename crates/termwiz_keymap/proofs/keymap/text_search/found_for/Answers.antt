use Rattle.std.proofs.Common.{◌<◌, ℕ, List, IsTrue, nat_lt, sym, subst, arith}
use Rattle.std.proofs.lemmas.Bool.Decides.{nat_tests}
use Rattle.termwiz_keymap.specs.declared.keymap.row.Row.{Row}
use Rattle.termwiz_keymap.specs.KeyRanges.{IsRangeOf}
use Rattle.termwiz_keymap.specs.Remembering.{AreRemembered}
use Rattle.termwiz_keymap.proofs.lemmas.rows.TextSearch.{goes_on_in, some_in}
use Rattle.termwiz_keymap.proofs.keymap.text_search.found_for.Goals as goal

less_tested : (a b : ℕ) → IsTrue (nat_lt a b) → a < b
less_tested a b is = grind (arith, nat_tests)

tests_less : (a b : ℕ) → a < b → IsTrue (nat_lt a b)
tests_less a b less = grind (arith, nat_tests)

pub range_of-range-requires-clause-remembered : goal.range_of-range-requires-clause-remembered
range_of-range-requires-clause-remembered g c =
    subst (λ (rows : List (Row _)). AreRemembered rows c.args.places.now) (sym c.in-Some.ensures) c.requires.remembered

pub returns-in-Some-clause-goes_on : goal.returns-in-Some-clause-goes_on
returns-in-Some-clause-goes_on g c =
    let range = c.range_of-range.result in
    let is : IsRangeOf c.args.rows.now c.args.text.now range =
    subst (λ (rows : List (Row _)). IsRangeOf rows c.args.text.now range) c.in-Some.ensures c.range_of-range.ensures in (
      λ yes. goes_on_in c.args.rows.now c.args.text.now range is (less_tested _ _ yes),
      λ goes. tests_less _ _ (some_in c.args.rows.now c.args.text.now range is goes),
    )
