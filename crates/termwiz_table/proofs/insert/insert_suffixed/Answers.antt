use Rattle.std.proofs.Common.{◌∙◌, ◌++◌, ap}
use Rattle.std.proofs.lemmas.List.{map_more}
use Rattle.termwiz_keys.specs.Keys.{key_with}
use Rattle.termwiz_table.specs.CodeLists.{held_together}
use Rattle.termwiz_table.proofs.lemmas.InsertedRows.{row_pushed}
use Rattle.termwiz_table.proofs.insert.insert_suffixed.Goals as goal

pub loop-suffix-preserved : goal.loop-suffix-preserved
loop-suffix-preserved c =
    c.in_ok-insert.ensures.ok
    ∙ row_pushed _ _ (λ s. (c.args.front.now ++ s.0 ++ c.args.end.now, key_with c.args.key s.1)) _ _ _ _ _
    (map_more (λ s. (s.0.now, (held_together s.1.now).0)) _ _ _ c.loop-suffix-test.true)
    c.loop-suffix.invariant
    (c.as_bytes.ensures.value ∙ c.in_ok-join_into.ensures)
    (c.key_with.ensures ∙ ap (λ m. key_with c.args.key m.0) c.together.ensures)
