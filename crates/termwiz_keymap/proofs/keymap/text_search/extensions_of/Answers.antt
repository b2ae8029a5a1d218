use Rattle.std.proofs.Common.{List, sym, subst}
use Rattle.termwiz_keymap.specs.declared.keymap.row.Row.{Row}
use Rattle.termwiz_keymap.specs.Remembering.{AreRemembered}
use Rattle.termwiz_keymap.proofs.keymap.text_search.extensions_of.Goals as goal

pub range_of-range-requires-clause-remembered : goal.range_of-range-requires-clause-remembered
range_of-range-requires-clause-remembered g c =
    subst (λ (rows : List (Row _)). AreRemembered rows c.args.places.now) (sym c.in-Some.ensures) c.requires.remembered
