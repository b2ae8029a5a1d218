use Rattle.std.proofs.Common.{◌∙◌, ◌++◌, append-nil}
use Rattle.std.proofs.lemmas.List.{map_more}
use Rattle.termwiz_keys.specs.Keys.{key_with}
use Rattle.termwiz_table.proofs.lemmas.InsertedRows.{row_pushed}
use Rattle.termwiz_table.proofs.insert.insert_each_with.Goals as goal

pub loop-end-preserved : goal.loop-end-preserved
loop-end-preserved c =
    c.in_ok-insert.ensures.ok
    ∙ row_pushed _ _ (λ k. (c.args.front.now ++ k.0, key_with k.1 c.args.modifiers.0)) _ _ _ _ _
    (map_more (λ k. (k.0.now, k.1)) _ _ _ c.loop-end-test.true)
    c.loop-end.invariant
    (c.as_bytes.ensures.value ∙ rw (append-nil c.args.front.now) at c.in_ok-join_into.ensures)
    c.key_with.ensures
