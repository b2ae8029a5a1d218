-- No more events come than bytes.
use Rattle.std.proofs.Common.{[], ◌∷◌, length, ap, arith, length-append}
use Rattle.termwiz_grammar.specs.Laws.{FewEvents}
use Rattle.termwiz_keymap.proofs.lemmas.lists.CommonPrefixes.{length-some}
use Rattle.termwiz_grammar.proofs.lemmas.items.ItemStable.{item_some}

pub few_events : FewEvents
few_events T W [] f h = omega (arith, ap length h)
few_events T W (e ∷ E) f (bytes, rest, stands, splits, steps) =
    omega (
      arith,
      ap length splits,
      length-append bytes rest,
      length-some bytes (item_some T bytes e f stands.item),
      few_events rest W E f steps,
    )
