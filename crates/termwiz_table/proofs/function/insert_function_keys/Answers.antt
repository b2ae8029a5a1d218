use Rattle.std.proofs.lemmas.List.{take_more}
use Rattle.termwiz_grammar.specs.Table.{function_key_of}
use Rattle.termwiz_table.proofs.lemmas.InsertedRows.{rows_pushed}
use Rattle.termwiz_table.proofs.function.insert_function_keys.Goals as goal

pub loop-code-preserved : goal.loop-code-preserved
loop-code-preserved c =
    rows_pushed _ _ _ function_key_of _ _ _ (take_more c.args.codes.now _ _ c.loop-code-test.true) c.loop-code.invariant
    (rw (c.as_str.ensures.value, c.in_ok-front.ensures.ok) at c.in_ok-insert_suffixed.ensures)
