use Rattle.std.proofs.Common.{arith}
use Rattle.termwiz_keymap.proofs.lemmas.rows.RememberedRanges.{remembered_set}
use Rattle.termwiz_keymap.proofs.keymap.remembered.remember.Goals as goal

pub returns-then-yields_to : goal.returns-then-yields_to
returns-then-yields_to g c = remembered_set c.args.rows.now c.args.places.now c.free_place_of-place.result c.args.text.now
    c.args.range _ c.requires.remembered (λ k. omega (arith, c.type_inv.text k)) c.requires.first c.requires.inside
    c.number_of-number.ensures (omega arith) (omega arith) (omega arith)
