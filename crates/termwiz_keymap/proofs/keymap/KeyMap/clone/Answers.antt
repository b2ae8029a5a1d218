use Rattle.termwiz_keymap.proofs.lemmas.rows.AscendingRows.{ascending_clones}
use Rattle.termwiz_keymap.proofs.lemmas.rows.RememberedRanges.{searchable_forgotten}
use Rattle.termwiz_keymap.proofs.keymap.KeyMap.clone.Goals as goal

pub invariant_of-result : goal.invariant_of-result
invariant_of-result g c = rw (c.new.ensures.items, c.from_vec.ensures) (searchable_forgotten _
    (ascending_clones g.V.Clone.is_clone c.self.inside.rows c.in_ok-copied.field-0.items c.in_ok-copied.ensures
    c.self.invariant.ascending))
