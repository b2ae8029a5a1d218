use Rattle.std.proofs.lemmas.List.{map_more}
use Rattle.termwiz_grammar.specs.Table.{modify_other_keys_of}
use Rattle.termwiz_table.specs.CodeLists.{held_together}
use Rattle.termwiz_table.proofs.lemmas.InsertedRows.{rows_pushed}
use Rattle.termwiz_table.proofs.numbers.modify_other_keys.Goals as goal

pub loop-suffix-preserved : goal.loop-suffix-preserved
loop-suffix-preserved c =
    rows_pushed _ _ _ modify_other_keys_of _ _ _
    (map_more (λ s. (s.0.now, (held_together s.1.now).0)) _ _ _ c.loop-suffix-test.true)
    c.loop-suffix.invariant
    (rw c.together.ensures at c.in_ok-insert_other_keys.ensures)
