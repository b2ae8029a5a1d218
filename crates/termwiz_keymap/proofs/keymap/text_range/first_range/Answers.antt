use Rattle.std.proofs.Common.{arith}
use Rattle.termwiz_keymap.proofs.lemmas.rows.RememberedRanges.{right_found}
use Rattle.termwiz_keymap.proofs.keymap.text_range.first_range.Goals as goal

pub returns-in-Some-clause-range : goal.returns-in-Some-clause-range
returns-in-Some-clause-range g c =
    rw c.range.ensures (right_found c.args.rows.now c.args.places.now c.args.text.now c.in-Some.found.now c.requires.remembered
    (λ k. omega (arith, c.type_inv.text k)) c.in-Some.ensures)
