use Rattle.std.proofs.Common.{refl, arith}
use Rattle.termwiz_keymap.proofs.lemmas.rows.RowPlaces.{row_at}
use Rattle.termwiz_keymap.proofs.keymap.KeyMap.get_index.Goals as goal

pub returns-then-index-len-clause-entry : goal.returns-then-index-len-clause-entry
returns-then-index-len-clause-entry g c =
    row_at c.args.self.now c.self.inside.rows c.self.invariant.ascending c.self.view_is c.args.index c.index-row.result.now
    c.key.result.now c.index-row.result.now.value (omega (arith, c.if-index-len.true, c.len.ensures)) c.index-row.ensures
    c.key.ensures refl
