use Rattle.std.proofs.Common.{arith}
use Rattle.termwiz_keymap.proofs.lemmas.rows.RowPlaces.{extensions_of}
use Rattle.termwiz_keymap.proofs.lemmas.entries.EntriesInOrder.{some_places}
use Rattle.termwiz_keymap.proofs.keymap.KeyMap.extensions.Goals as goal

keys : goal.returns-clause-keys
keys g c =
    let places = c.extensions_of-low.result in
    extensions_of c.args.self.now c.self.inside.rows c.self.invariant.ascending c.self.view_is c.args.text.now places.0
    c.min.result places.1 c.extensions_of-low.ensures (omega (arith, c.min.ensures)) (λ up. omega (arith, c.min.ensures, up))
    (λ down. omega (arith, c.min.ensures, down))

pub extensions_of-low-requires-clause-remembered : goal.extensions_of-low-requires-clause-remembered
extensions_of-low-requires-clause-remembered g c = rw c.deref.ensures.value c.self.invariant.remembered

pub returns-clause-keys : goal.returns-clause-keys
returns-clause-keys g c = keys g c

pub returns-clause-some : goal.returns-clause-some
returns-clause-some g c = some_places c.args.self.now c.args.text.now _ _ (keys g c)
