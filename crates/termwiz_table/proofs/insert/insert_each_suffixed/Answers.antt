use Rattle.std.proofs.lemmas.List.{map_more}
use Rattle.termwiz_grammar.specs.Table.{key_with_each_suffix}
use Rattle.termwiz_table.specs.CodeLists.{suffixes_with_bits}
use Rattle.termwiz_table.proofs.lemmas.InsertedRows.{rows_pushed}
use Rattle.termwiz_table.proofs.insert.insert_each_suffixed.Goals as goal

pub loop-end-preserved : goal.loop-end-preserved
loop-end-preserved c =
    rows_pushed _ _ _
    (λ k. key_with_each_suffix c.args.front.now (suffixes_with_bits c.args.suffixes.now) k.0 k.1) _ _ _
    (map_more (λ k. (k.0.now, k.1)) _ _ _ c.loop-end-test.true)
    c.loop-end.invariant
    c.in_ok-insert_suffixed.ensures
