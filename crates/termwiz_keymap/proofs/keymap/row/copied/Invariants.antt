use Rattle.std.proofs.Common.{take}
use Rattle.termwiz_keymap.specs.KeyRows.{AreRowClones}
use Rattle.termwiz_keymap.proofs.keymap.row.copied.Given as goal

abbrev pub invariant-loop-place : goal.invariant-loop-place
invariant-loop-place g l = AreRowClones g.V.Clone.is_clone (take l.place l.rows) l.copies.items
